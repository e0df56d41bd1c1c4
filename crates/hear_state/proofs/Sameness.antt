-- Where the same is known it stays so, and the same is judged.
use Rattle.std.proofs.Common.{◌≡◌, ℕ, ◌==◌, Bool, true, false, [], ◌∷◌, Option, None, Some, refl, ap, ◌∙◌}
use Rattle.std.specs.Prelude.{if◌then◌else◌, nat_lt}
use Rattle.gp_ploam.specs.declared.message.Serial.{Serial}
use Rattle.gp_ploam.specs.declared.message.Down.{Down}
use Rattle.gp_ploam.specs.declared.message.Down.TheVariants.{UpstreamOverhead, AssignOnu, RangingTime, Deactivate, DisableSerial, EnableSerial, EnableAll, AssignAlloc, NoMessage, Popup, Other}
use Rattle.gp_ploam.specs.declared.message.Up.{Up}
use Rattle.gp_ploam.specs.OnuIds.{broadcast_onu}
use Rattle.gp_ploam.specs.Serials.{same_serial}
use Rattle.gp_ploam.specs.Up.{octet1_of}
use Rattle.gp_ranging.specs.declared.grant.Grant.{Grant}
use Rattle.gp_ranging.specs.declared.grant.Grant.TheVariants.{Search, Range, Poll}
use Rattle.gp_observer.specs.Observer.{is_unit_number}
use Rattle.gp_observer.specs.Heard.{Heard, HeardDown, HeardUp, HeardGrant}
use Rattle.hear_rules.specs.declared.rule.Rule.{Rule}
use Rattle.hear_rules.specs.declared.rule.Rule.TheVariants as rule
use Rattle.hear_rules.specs.declared.rule.Verdict.TheVariants.{Broken, NotJudged}
use Rattle.hear_rules.specs.Facts.{Fact, Unknown, Nothing, Is, Sure, Yes, No, unless, is_other}
use Rattle.hear_rules.specs.Known as spec
use Rattle.hear_rules.specs.Known.{Known, Number, Unheard, Nobodys, Of, Owner, Unclear, Free, Has, owner_after, known_after, known_after_all}
use Rattle.hear_rules.specs.Rules as rules
use Rattle.hear_rules.specs.Rules.{Settings}
use Rattle.hear_state.specs.Kept.{SameKnown}
use Rattle.hear_state.specs.Laws.{SameStaysSame, SameStaysSameInRuns, SameIsJudgedSame}

-- Alloc-IDs that are lost in the same way
pub lost_same : (a b : ℕ → Sure) (o : Owner) → ((n : ℕ) → a n ≡ b n) → owner_after a o ≡ owner_after b o
lost_same a b Unclear same = refl
lost_same a b (Free Unknown) same = refl
lost_same a b (Free Nothing) same = refl
lost_same a b (Free (Is n)) same = ap (λ s. spec.still_free s n) (same n)
lost_same a b (Has n last) same = ap (λ s. spec.freed s n last) (same n)

module _ (a b : Known) (same : SameKnown a b) where
  numbers : (q : ℕ) → a.numbers q ≡ b.numbers q
  numbers = same.units.numbers

  holds : (s : Serial) → a.holds s ≡ b.holds s
  holds = same.units.holds

  owners : (q : ℕ) → a.owners q ≡ b.owners q
  owners = same.owners

  -- ---- what is known after it

  same_assign : (onu : ℕ) (serial : Serial) → SameKnown (spec.after_assign a onu serial) (spec.after_assign b onu serial)
  same_assign onu serial = record {
    units = record {
      numbers = λ q.
          ap (λ (s : Sure). if q == onu then spec.assigned s (a.numbers q) serial else spec.left_by (a.numbers q) serial) (same.units.asked serial)
          ∙ ap (λ (n : Number). if q == onu then spec.assigned (b.asked serial) n serial else spec.left_by n serial) (numbers q);
      holds = λ s. ap (λ (f : Fact ℕ). if same_serial s serial then Is onu else spec.given_up f onu) (holds s);
      disabled = same.units.disabled;
      asks = λ s.
          ap (λ (f : Fact ℕ). if same_serial s serial then spec.asks_less (is_other f onu) (a.asks s) else a.asks s) (holds serial)
          ∙ ap (λ (o : Option ℕ). if same_serial s serial then spec.asks_less (spec.is_news b onu serial) o else o) (same.units.asks s);
      asked = λ s. ap (λ (x : Sure). if same_serial s serial then No else x) (same.units.asked s);
      overhead = same.units.overhead;
      up = same.units.up;
    };
    owners = λ q.
        lost_same (spec.lost_with a onu serial) (spec.lost_with b onu serial) (a.owners q) (λ n. ap (λ (x : Number). if n == onu then spec.lost_of x serial else spec.lost_by x serial) (numbers n))
        ∙ ap (owner_after (spec.lost_with b onu serial)) (owners q);
  }

  same_numbers : (change : ℕ → Number → Number) → SameKnown (record a { numbers = λ q. change q (a.numbers q) }) (record b { numbers = λ q. change q (b.numbers q) })
  same_numbers change = record {
    units = record {
      numbers = λ q. ap (change q) (numbers q);
      holds = holds;
      disabled = same.units.disabled;
      asks = same.units.asks;
      asked = same.units.asked;
      overhead = same.units.overhead;
      up = same.units.up;
    };
    owners = owners;
  }

  same_disabled : (change : Serial → Sure → Sure) → SameKnown (record a { disabled = λ s. change s (a.disabled s) }) (record b { disabled = λ s. change s (b.disabled s) })
  same_disabled change = record {
    units = record {
      numbers = numbers;
      holds = holds;
      disabled = λ s. ap (change s) (same.units.disabled s);
      asks = same.units.asks;
      asked = same.units.asked;
      overhead = same.units.overhead;
      up = same.units.up;
    };
    owners = owners;
  }

  same_drop : (onu : ℕ) → SameKnown (spec.after_drop a onu) (spec.after_drop b onu)
  same_drop onu = record {
    units = record {
      numbers = λ q. ap (λ (n : Number). if q == onu then spec.dropped n else n) (numbers q);
      holds = λ s. ap (λ (f : Fact ℕ). spec.given_up f onu) (holds s);
      disabled = same.units.disabled;
      asks = same.units.asks;
      asked = same.units.asked;
      overhead = same.units.overhead;
      up = same.units.up;
    };
    owners = λ q. ap (owner_after (λ n. if n == onu then Yes else No)) (owners q);
  }

  same_drop_all : SameKnown (spec.after_drop_all a) (spec.after_drop_all b)
  same_drop_all = record {
    units = record {
      numbers = λ q. ap spec.dropped (numbers q);
      holds = λ s. refl;
      disabled = same.units.disabled;
      asks = same.units.asks;
      asked = same.units.asked;
      overhead = same.units.overhead;
      up = same.units.up;
    };
    owners = λ q. ap (owner_after (λ n. Yes)) (owners q);
  }

  same_disable : (serial : Serial) → SameKnown (spec.after_disable a serial) (spec.after_disable b serial)
  same_disable serial = record {
    units = record {
      numbers = λ q. ap (λ (n : Number). spec.left_by n serial) (numbers q);
      holds = λ s. ap (λ (f : Fact ℕ). if same_serial s serial then Nothing else f) (holds s);
      disabled = λ s. ap (λ (x : Sure). if same_serial s serial then Yes else x) (same.units.disabled s);
      asks = same.units.asks;
      asked = same.units.asked;
      overhead = same.units.overhead;
      up = same.units.up;
    };
    owners = λ q.
        lost_same (λ n. spec.lost_by (a.numbers n) serial) (λ n. spec.lost_by (b.numbers n) serial) (a.owners q) (λ n. ap (λ (x : Number). spec.lost_by x serial) (numbers n))
        ∙ ap (owner_after (λ n. spec.lost_by (b.numbers n) serial)) (owners q);
  }

  same_alloc : (onu alloc : ℕ) (keep : Bool) → SameKnown (spec.after_alloc a onu alloc keep) (spec.after_alloc b onu alloc keep)
  same_alloc onu alloc keep = record {
    units = record {
      numbers = numbers;
      holds = holds;
      disabled = same.units.disabled;
      asks = same.units.asks;
      asked = same.units.asked;
      overhead = same.units.overhead;
      up = same.units.up;
    };
    owners = λ q.
        ap (λ (n : Number). if q == alloc then spec.owner_told n (a.owners q) onu keep else a.owners q) (numbers onu)
        ∙ ap (λ (o : Owner). if q == alloc then spec.owner_told (b.numbers onu) o onu keep else o) (owners q);
  }

  same_overhead : SameKnown (record a { overhead = Yes }) (record b { overhead = Yes })
  same_overhead = record {
    units = record {
      numbers = numbers;
      holds = holds;
      disabled = same.units.disabled;
      asks = same.units.asks;
      asked = same.units.asked;
      overhead = refl;
      up = same.units.up;
    };
    owners = owners;
  }

  same_if : (t : Bool) (x y z w : Known) → SameKnown x y → SameKnown z w → SameKnown (if t then x else z) (if t then y else w)
  same_if true x y z w first second = first
  same_if false x y z w first second = second

  same_popped_up : SameKnown (spec.after_pop_up_all a) (spec.after_pop_up_all b)
  same_popped_up = same_numbers (λ q n. spec.popped_up n)

  same_message : (m : Down) → SameKnown (spec.after_message a m) (spec.after_message b m)
  same_message (UpstreamOverhead burst) = same_overhead
  same_message (AssignOnu onu serial) = same_if (is_unit_number onu) (spec.after_assign a onu serial) (spec.after_assign b onu serial) a b (same_assign onu serial) same
  same_message (RangingTime onu eqd) = same_numbers (λ q n. if q == onu then spec.ranged n eqd else n)
  same_message (Deactivate onu) = same_if (onu == broadcast_onu) (spec.after_drop_all a) (spec.after_drop_all b) (spec.after_drop a onu) (spec.after_drop b onu) same_drop_all (same_drop onu)
  same_message (DisableSerial serial) = same_disable serial
  same_message (EnableSerial serial) = same_disabled (λ s x. if same_serial s serial then No else x)
  same_message EnableAll = same_disabled (λ s x. No)
  same_message (AssignAlloc onu alloc keep) = same_alloc onu alloc keep
  same_message NoMessage = same
  same_message (Popup onu) = same_if (onu == broadcast_onu) (spec.after_pop_up_all a) (spec.after_pop_up_all b) a b same_popped_up same
  same_message (Other id octet1 body) =
      same_if (id == spec.adjustment) (if octet1 == broadcast_onu then spec.after_pop_up_all a else spec.after_adjust a octet1) (if octet1 == broadcast_onu then spec.after_pop_up_all b else spec.after_adjust b octet1) a b
      (same_if (octet1 == broadcast_onu) (spec.after_pop_up_all a) (spec.after_pop_up_all b) (spec.after_adjust a octet1) (spec.after_adjust b octet1) same_popped_up (same_numbers (λ q n. if q == octet1 then spec.popped_up n else n)))
      same

  same_answer : (m : Up) (delay : Option ℕ) → SameKnown (spec.after_answer a m delay) (spec.after_answer b m delay)
  same_answer m delay = record {
    units = record {
      numbers = λ q. ap (λ (n : Number). if q == octet1_of m then spec.spoken n m delay else n) (numbers q);
      holds = holds;
      disabled = same.units.disabled;
      asks = λ s. ap (λ (o : Option ℕ). if spec.asked_by m s then spec.asks_more o else o) (same.units.asks s);
      asked = λ s. ap (spec.asked_with m s) (same.units.asked s);
      overhead = same.units.overhead;
      up = refl;
    };
    owners = owners;
  }

  pub same_after : (heard : Heard) → SameKnown (known_after a heard) (known_after b heard)
  same_after (HeardDown None) = same
  same_after (HeardDown (Some m)) = same_message m
  same_after (HeardUp None delay) = same
  same_after (HeardUp (Some m) delay) = same_answer m delay
  same_after (HeardGrant grant) = same

  -- ---- what is judged

  taken_same : (n : Number) (s : Serial) → rules.taken_of a.asked n s ≡ rules.taken_of b.asked n s
  taken_same Unheard s = refl
  taken_same Nobodys s = refl
  taken_same (Of holder delay answers) s = ap (λ (x : Sure). if same_serial s holder then NotJudged else unless x Broken) (same.units.asked holder)

  shared_same : (n : Number) → rules.shared_with a.asked n ≡ rules.shared_with b.asked n
  shared_same Unheard = refl
  shared_same Nobodys = refl
  shared_same (Of holder delay answers) = ap (λ (x : Sure). unless x Broken) (same.units.asked holder)

  owner_same : (o : Owner) (onu : ℕ) → rules.shared_of a o onu ≡ rules.shared_of b o onu
  owner_same Unclear onu = refl
  owner_same (Free last) onu = refl
  owner_same (Has other last) onu =
      ap (λ v. if other == onu then NotJudged else v)
      (shared_same (a.numbers other) ∙ ap (rules.shared_with b.asked) (numbers other))

  barred : (m : Down) → rules.barred a m ≡ rules.barred b m
  barred (AssignOnu onu serial) = rw (holds serial, same.units.disabled serial) refl
  barred _ = refl

  unasked : (m : Down) → rules.unasked a m ≡ rules.unasked b m
  unasked (AssignOnu onu serial) = rw (holds serial, same.units.asks serial, same.units.up) refl
  unasked _ = refl

  taken : (m : Down) → rules.taken a m ≡ rules.taken b m
  taken (AssignOnu onu serial) = rw (taken_same (a.numbers onu) serial, numbers onu, same.units.up) refl
  taken _ = refl

  renumbered : (m : Down) → rules.renumbered a m ≡ rules.renumbered b m
  renumbered (AssignOnu onu serial) = rw (holds serial, same.units.asked serial, same.units.up) refl
  renumbered _ = refl

  nobody_to : (o : Option ℕ) → rules.nobody_to a o ≡ rules.nobody_to b o
  nobody_to None = refl
  nobody_to (Some onu) = ap rules.held_by_none (numbers onu)

  unranged : (m : Down) → rules.unranged a m ≡ rules.unranged b m
  unranged (RangingTime onu eqd) = rw (numbers onu, same.units.up) refl
  unranged _ = refl

  delay : (settings : Settings) (m : Down) → rules.delay settings a m ≡ rules.delay settings b m
  delay settings (RangingTime onu eqd) = ap (λ (n : Number). if nat_lt settings.teqd eqd then Broken else rules.delay_of settings n eqd) (numbers onu)
  delay settings _ = refl

  early : (m : Down) → rules.early a m ≡ rules.early b m
  early (AssignAlloc onu alloc keep) = ap rules.early_of (numbers onu)
  early (Popup onu) = ap (λ (n : Number). if onu == broadcast_onu then NotJudged else rules.early_of n) (numbers onu)
  early _ = refl

  shared : (m : Down) → rules.shared a m ≡ rules.shared b m
  shared (AssignAlloc onu alloc true) = rw (owner_same (a.owners alloc) onu, owners alloc, numbers onu, same.units.up) refl
  shared _ = refl

  not_held : (m : Down) → rules.not_held a m ≡ rules.not_held b m
  not_held (AssignAlloc onu alloc false) = rw (owners alloc, numbers onu) refl
  not_held _ = refl

  same_judged : (settings : Settings) (m : Down) (r : Rule) → rules.judge_message settings a m r ≡ rules.judge_message settings b m r
  same_judged settings m rule.Barred = barred m
  same_judged settings m rule.Unasked = unasked m
  same_judged settings m rule.Taken = taken m
  same_judged settings m rule.Renumbered = renumbered m
  same_judged settings m rule.Nobody = nobody_to (rules.needs_holder m)
  same_judged settings m rule.Unranged = unranged m
  same_judged settings m rule.Delay = delay settings m
  same_judged settings m rule.Early = early m
  same_judged settings m rule.Shared = shared m
  same_judged settings m rule.NotHeld = not_held m
  same_judged settings m _ = refl

  granted : (g : Grant) → rules.granted a g ≡ rules.granted b g
  granted Search = refl
  granted (Range onu) = ap rules.held_by_none (numbers onu)
  granted (Poll onu) = ap rules.polled (numbers onu)

  overhead : (g : Grant) → rules.overhead a g ≡ rules.overhead b g
  overhead Search = ap rules.no_overhead same.units.overhead
  overhead _ = refl

  same_granted : (g : Grant) (r : Rule) → rules.judge_grant a g r ≡ rules.judge_grant b g r
  same_granted g rule.Overhead = overhead g
  same_granted g rule.Grant = granted g
  same_granted g _ = refl

  pub same_known_judged : (settings : Settings) (heard : Heard) (r : Rule) → rules.judge_known settings a heard r ≡ rules.judge_known settings b heard r
  same_known_judged settings (HeardDown None) r = refl
  same_known_judged settings (HeardDown (Some m)) r = same_judged settings m r
  same_known_judged settings (HeardUp m delay) r = refl
  same_known_judged settings (HeardGrant grant) r = same_granted grant r

pub stays : SameStaysSame
stays one other heard same = same_after one other same heard

pub runs : SameStaysSameInRuns
runs one other [] same = same
runs one other (heard ∷ more) same = runs (known_after one heard) (known_after other heard) more (same_after one other same heard)

pub judged : SameIsJudgedSame
judged settings one other heard r same = same_known_judged one other same settings heard r

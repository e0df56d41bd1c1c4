-- A rule that is broken was judged.
use Rattle.std.proofs.Common.{◌≡◌, ℕ, zero, suc, ◌==◌, Bool, true, false, cond, not, ◌&&◌, ◌||◌, List, [], ◌∷◌, Option, None, Some, refl, ap, ◌∙◌, is_some}
use Rattle.std.specs.FinMap.{get}
use Rattle.std.specs.List.{list_all}
use Rattle.std.proofs.lemmas.Bool.{false≢true}
use Rattle.gp_ploam.specs.declared.message.Down.{Down}
use Rattle.gp_ploam.specs.declared.message.Down.TheVariants as down
use Rattle.gp_ploam.specs.declared.message.Up.{Up}
use Rattle.gp_ploam.specs.declared.message.Up.TheVariants as up
use Rattle.gp_ploam.specs.OnuIds.{broadcast_onu, onu_ids}
use Rattle.gp_ploam.specs.Up.{octet1_of}
use Rattle.gp_ranging.specs.declared.grant.Grant.TheVariants.{Search, Range, Poll}
use Rattle.gp_machine.specs.State.{some_number}
use Rattle.gp_observer.specs.declared.rule.Rule.{Rule}
use Rattle.gp_observer.specs.declared.rule.Rule.TheVariants as rule
use Rattle.gp_observer.specs.Heard.{Heard, HeardDown, HeardUp, HeardGrant, answer_rules, breaks, broken_of, copy_breaks, down_breaks, message_rules, up_breaks}
use Rattle.gp_observer.specs.Judged as judged
use Rattle.gp_observer.specs.Observer.{is_of, some_passes}
use Rattle.gp_observer.specs.Rules as rules
use Rattle.gp_observer.specs.UnitRules as units
use Rattle.gp_observer.specs.Watch.{Answers, Watch, is_new}

-- ---- tests

first : (b c : Bool) → (b && c) ≡ true → b ≡ true
first true c h = refl
first false c h = absurd (false≢true h)

second_as : (b c d : Bool) → (c ≡ true → d ≡ true) → (b && c) ≡ true → (b && d) ≡ true
second_as true c d f h = f h
second_as false c d f h = h

second : (b c : Bool) → (b && c) ≡ true → c ≡ true
second true c h = h
second false c h = absurd (false≢true h)

or_left : (b c : Bool) → b ≡ true → (b || c) ≡ true
or_left true c h = refl
or_left false c h = absurd (false≢true h)

or_right : (b c : Bool) → c ≡ true → (b || c) ≡ true
or_right true c h = refl
or_right false c h = h

either : (b c d : Bool) → (b ≡ true → d ≡ true) → (c ≡ true → d ≡ true) → (b || c) ≡ true → d ≡ true
either true c d f g h = f refl
either false c d f g h = g h

there_is : {X : Type 0} (test : X → Bool) (value : Option X) → some_passes test value ≡ true → is_some value ≡ true
there_is test None h = h
there_is test (Some x) h = refl

passes_as : {X : Type 0} (test other : X → Bool) (value : Option X) → ((x : X) → test x ≡ true → other x ≡ true) → some_passes test value ≡ true
    → some_passes other value ≡ true
passes_as test other None f h = h
passes_as test other (Some x) f h = f x h

-- where a number passes one test it passes the other, and so one does of many
some_as : (test other : ℕ → Bool) (from count : ℕ) → ((n : ℕ) → test n ≡ true → other n ≡ true) → some_number from count test ≡ true → some_number from count other ≡ true
unfolding some_number
some_as test other from zero f h = h
some_as test other from (suc count) f h =
    either (test from) (some_number (suc from) count test) (other from || some_number (suc from) count other) (λ b. or_left (other from) _ (f from b))
    (λ b. or_right (other from) _ (some_as test other (suc from) count f b)) h

-- ---- lists of rules

-- each of these rules that is broken passes the test
abbrev EachPasses : (Rule → Bool) → List (Bool × Rule) → Type 0
EachPasses test [] = Unit {0}
EachPasses test ((broken, rule) ∷ rules) = (broken ≡ true → test rule ≡ true) × EachPasses test rules

all_pass : (test : Rule → Bool) (rules : List (Bool × Rule)) → EachPasses test rules → list_all test (broken_of rules) ≡ true
all_pass test [] h = refl
all_pass test ((true, r) ∷ rules) h = ap (λ b. b && list_all test (broken_of rules)) (h.0 refl) ∙ all_pass test rules h.1
all_pass test ((false, r) ∷ rules) h = all_pass test rules h.1

passes_or : (test other : Rule → Bool) (rules : List (Bool × Rule)) → EachPasses test rules → EachPasses (λ r. other r || test r) rules
passes_or test other [] h = tt
passes_or test other ((broken, r) ∷ rules) h = (λ b. or_right (other r) (test r) (h.0 b), passes_or test other rules h.1)

-- a copy of a message, by whether it tells the message
copy_judged : (told : Bool) (test : Rule → Bool) (rules : List (Bool × Rule)) → EachPasses test rules
    → list_all (λ r. judged.judges_garbled r || (told && test r)) (cond told (broken_of rules) []) ≡ true
copy_judged false test rules h = refl
copy_judged true test rules h = all_pass (λ r. judged.judges_garbled r || test r) rules (passes_or test judged.judges_garbled rules h)

-- ---- a message down

module _ (settings : rules.Settings) (watch : Watch) where
  -- a unit that operates, or doesn't, is one whose ONU-ID is held, and of which that is known
  unranged_judged : (onu : ℕ) → rules.is_unranged watch onu ≡ true → rules.is_held watch onu ≡ true
  unranged_judged onu h = first (rules.is_held watch onu) _ h

  nobodys_judged : (onu : ℕ) → rules.is_nobodys watch onu ≡ true → rules.is_judged watch onu ≡ true
  nobodys_judged onu h = first (rules.is_judged watch onu) _ h

  nobody_judged : (message : Down) → rules.breaks_nobody watch message ≡ true → judged.judges_nobody watch message ≡ true
  nobody_judged message h = passes_as (rules.is_nobodys watch) (rules.is_judged watch) (rules.unit_told message) nobodys_judged h

  unasked_judged : (onu : ℕ) (serial : _) → rules.breaks_unasked watch (down.AssignOnu onu serial) ≡ true → judged.judges_unasked watch (down.AssignOnu onu serial) ≡ true
  unasked_judged onu serial h =
      second_as (not watch.midway && rules.is_judged watch onu) _ _ (there_is _ _) h

  copies_judged : (message : Down) → rules.breaks_copies watch message ≡ true → judged.judges_copies watch ≡ true
  copies_judged m h = or_left (not (watch.to_come == 0)) _ (first (not (watch.to_come == 0)) _ h)

  barred_judged : (onu : ℕ) (serial : _) → rules.breaks_barred watch (down.AssignOnu onu serial) ≡ true → judged.judges_barred watch (down.AssignOnu onu serial) ≡ true
  barred_judged onu serial h = or_right (judged.knows_serial watch serial) _ h

  holds_any : (serial : _) (test : ℕ → Bool) → rules.holds_one watch serial test ≡ true → rules.holds_one watch serial (λ held. true) ≡ true
  holds_any serial test h = some_as (λ onu. test onu && is_of watch.seen serial onu) (λ onu. is_of watch.seen serial onu) 0 onu_ids (λ onu. second (test onu) (is_of watch.seen serial onu)) h

  renumbered_judged : (onu : ℕ) (serial : _) → rules.breaks_renumbered watch (down.AssignOnu onu serial) ≡ true → judged.judges_renumbered watch (down.AssignOnu onu serial) ≡ true
  renumbered_judged onu serial h = or_right (judged.knows_serial watch serial) _ (holds_any serial (λ other. not (other == onu)) h)

  owner_known : (onu : ℕ) (owner : Option ℕ) → some_passes (λ other. rules.is_judged watch other && not (other == onu)) owner ≡ true → judged.knows_owner watch owner ≡ true
  owner_known onu None h = absurd (false≢true h)
  owner_known onu (Some owner) h = first (rules.is_judged watch owner) _ h

  taken_judged : (onu : ℕ) (serial : _) → rules.breaks_taken watch (down.AssignOnu onu serial) ≡ true → judged.judges_taken watch (down.AssignOnu onu serial) ≡ true
  taken_judged onu serial h = or_right (rules.is_judged watch onu) _ (there_is _ _ h)

  leaves_none : (eqd : ℕ) (answers : Answers) → rules.leaves_no_answer settings eqd answers ≡ true → answers.all ≡ true
  leaves_none eqd answers h = first answers.all _ h

  delay_judged : (onu eqd : ℕ) → rules.breaks_delay settings watch (down.RangingTime onu eqd) ≡ true → judged.judges_delay watch (down.RangingTime onu eqd) ≡ true
  delay_judged onu eqd h =
      second_as (rules.is_held watch onu) _ _ (passes_as (rules.leaves_no_answer settings eqd) (λ a. a.all) (get watch.answers onu) (leaves_none eqd)) h

  message_judged : (message : Down) → EachPasses (judged.message_judges watch message) (message_rules settings watch message)
  message_judged (down.UpstreamOverhead burst) = (copies_judged (down.UpstreamOverhead burst), (λ h. h, (λ h. h, (λ h. h, (λ h. h, (λ h. h, (λ h. h, (λ h. h, (λ h. h, (λ h. h, (λ h. h, (λ h. h, tt))))))))))))
  message_judged (down.AssignOnu onu serial) =
      (copies_judged (down.AssignOnu onu serial), (λ h. refl, (barred_judged onu serial, (unasked_judged onu serial, (taken_judged onu serial, (renumbered_judged onu serial, (λ h. h, (λ h. h, (λ h. h, (λ h. h, (λ h. h, (λ h. h, tt))))))))))))
  message_judged (down.RangingTime onu eqd) =
      (copies_judged (down.RangingTime onu eqd), (λ h. h, (λ h. h, (λ h. h, (λ h. h, (λ h. h, (nobody_judged (down.RangingTime onu eqd), (first (rules.is_held watch onu) _, (delay_judged onu eqd, (λ h. h, (λ h. h, (λ h. h, tt))))))))))))
  message_judged (down.Deactivate onu) =
      (copies_judged (down.Deactivate onu), (λ h. h, (λ h. h, (λ h. h, (λ h. h, (λ h. h, (nobody_judged (down.Deactivate onu), (λ h. h, (λ h. h, (λ h. h, (λ h. h, (λ h. h, tt))))))))))))
  message_judged (down.DisableSerial serial) = (copies_judged (down.DisableSerial serial), (λ h. h, (λ h. h, (λ h. h, (λ h. h, (λ h. h, (λ h. h, (λ h. h, (λ h. h, (λ h. h, (λ h. h, (λ h. h, tt))))))))))))
  message_judged (down.EnableSerial serial) = (copies_judged (down.EnableSerial serial), (λ h. h, (λ h. h, (λ h. h, (λ h. h, (λ h. h, (λ h. h, (λ h. h, (λ h. h, (λ h. h, (λ h. h, (λ h. h, tt))))))))))))
  message_judged down.EnableAll = (copies_judged down.EnableAll, (λ h. h, (λ h. h, (λ h. h, (λ h. h, (λ h. h, (λ h. h, (λ h. h, (λ h. h, (λ h. h, (λ h. h, (λ h. h, tt))))))))))))
  message_judged (down.AssignAlloc onu alloc true) =
      (copies_judged (down.AssignAlloc onu alloc true), (λ h. refl, (λ h. h, (λ h. h, (λ h. h, (λ h. h, (nobody_judged (down.AssignAlloc onu alloc true), (λ h. h, (λ h. h, (unranged_judged onu, (owner_known onu (get watch.seen.alloc alloc), (λ h. h, tt))))))))))))
  message_judged (down.AssignAlloc onu alloc false) =
      (copies_judged (down.AssignAlloc onu alloc false), (λ h. h, (λ h. h, (λ h. h, (λ h. h, (λ h. h, (nobody_judged (down.AssignAlloc onu alloc false), (λ h. h, (λ h. h, (unranged_judged onu, (λ h. h, (first (rules.is_held watch onu) _, tt))))))))))))
  message_judged down.NoMessage = (copies_judged down.NoMessage, (λ h. h, (λ h. h, (λ h. h, (λ h. h, (λ h. h, (λ h. h, (λ h. h, (λ h. h, (λ h. h, (λ h. h, (λ h. h, tt))))))))))))
  message_judged (down.Popup onu) =
      (copies_judged (down.Popup onu), (λ h. h, (λ h. h, (λ h. h, (λ h. h, (λ h. h, (nobody_judged (down.Popup onu), (λ h. h, (λ h. h, (second_as (not (onu == broadcast_onu)) _ _ (unranged_judged onu), (λ h. h, (λ h. h, tt))))))))))))
  message_judged (down.Other id octet1 body) = (copies_judged (down.Other id octet1 body), (λ h. h, (λ h. h, (λ h. h, (λ h. h, (λ h. h, (λ h. h, (λ h. h, (λ h. h, (λ h. h, (λ h. h, (λ h. h, tt))))))))))))

  told_judged : (message : Down)
      → list_all (λ r. judged.judges_garbled r || judged.copy_judges watch message r) (copy_breaks settings watch message) ≡ true
  told_judged message =
      copy_judged (is_new watch message) (judged.message_judges watch message) (message_rules settings watch message) (message_judged message)

  down_judged : (message : Option Down) → list_all (judged.down_judges watch message) (down_breaks settings watch message) ≡ true
  down_judged None = refl
  down_judged (Some down.NoMessage) = refl
  down_judged (Some (down.UpstreamOverhead burst)) = told_judged (down.UpstreamOverhead burst)
  down_judged (Some (down.AssignOnu onu serial)) = told_judged (down.AssignOnu onu serial)
  down_judged (Some (down.RangingTime onu eqd)) = told_judged (down.RangingTime onu eqd)
  down_judged (Some (down.Deactivate onu)) = told_judged (down.Deactivate onu)
  down_judged (Some (down.DisableSerial serial)) = told_judged (down.DisableSerial serial)
  down_judged (Some (down.EnableSerial serial)) = told_judged (down.EnableSerial serial)
  down_judged (Some down.EnableAll) = told_judged down.EnableAll
  down_judged (Some (down.AssignAlloc onu alloc keep)) = told_judged (down.AssignAlloc onu alloc keep)
  down_judged (Some (down.Popup onu)) = told_judged (down.Popup onu)
  down_judged (Some (down.Other id octet1 body)) = told_judged (down.Other id octet1 body)

  -- ---- a message up

  number_judged : (message : Up) → units.breaks_number watch message ≡ true → judged.judges_number watch message ≡ true
  number_judged message h = first (judged.judges_number watch message) _ h

  acknowledge_judged : (message : Up) → units.breaks_acknowledge watch message ≡ true → judged.judges_acknowledge watch message ≡ true
  acknowledge_judged (up.SerialNumber onu serial random flags) h = h
  acknowledge_judged (up.DyingGasp onu) h = h
  acknowledge_judged (up.NoMessage onu) h = h
  acknowledge_judged (up.Acknowledge onu id copy) h = first (id == 10 && rules.is_held watch onu) _ h
  acknowledge_judged (up.Other onu id body) h = h

  drift_judged : (message : Up) (delay : Option ℕ) → units.breaks_drift settings watch message delay ≡ true → judged.judges_drift watch message delay ≡ true
  drift_judged message None h = h
  drift_judged message (Some delay) h =
      second_as (not (octet1_of message == broadcast_onu) && not (units.breaks_number watch message)) _ _ (there_is _ _) h

  disabled_judged : (message : Up) → units.breaks_disabled watch message ≡ true → judged.judges_disabled watch message ≡ true
  disabled_judged (up.SerialNumber onu serial random flags) h = second_as (onu == broadcast_onu) _ _ (or_right (judged.knows_serial watch serial) _) h
  disabled_judged (up.DyingGasp onu) h = h
  disabled_judged (up.NoMessage onu) h = h
  disabled_judged (up.Acknowledge onu id copy) h = h
  disabled_judged (up.Other onu id body) h = h

  anew_judged : (message : Up) → units.breaks_anew watch message ≡ true → judged.judges_anew watch message ≡ true
  anew_judged (up.SerialNumber onu serial random flags) h = second_as (onu == broadcast_onu) _ _ (or_right (judged.knows_serial watch serial) _) h
  anew_judged (up.DyingGasp onu) h = h
  anew_judged (up.NoMessage onu) h = h
  anew_judged (up.Acknowledge onu id copy) h = h
  anew_judged (up.Other onu id body) h = h

  up_judged : (message : Option Up) (delay : Option ℕ) → list_all (judged.up_judges watch message delay) (up_breaks settings watch message delay) ≡ true
  up_judged None delay = refl
  up_judged (Some message) delay =
      all_pass (judged.answer_judges watch message delay) (answer_rules settings watch message delay)
      (disabled_judged message, (anew_judged message, (number_judged message, (acknowledge_judged message, (drift_judged message delay, tt)))))

  -- ---- what is heard

  poll_judged : (onu : ℕ) → (rules.is_nobodys watch onu || rules.is_unranged watch onu) ≡ true → rules.is_judged watch onu ≡ true
  poll_judged onu h =
      either (rules.is_nobodys watch onu) (rules.is_unranged watch onu) (rules.is_judged watch onu) (nobodys_judged onu)
      (λ k. first (rules.is_judged watch onu) _ (unranged_judged onu k)) h

  pub heard_judged : (heard : Heard) → list_all (judged.judges watch heard) (breaks settings watch heard) ≡ true
  heard_judged (HeardDown message) = down_judged message
  heard_judged (HeardUp message delay) = up_judged message delay
  heard_judged (HeardGrant Search) = refl
  heard_judged (HeardGrant (Range onu)) =
      all_pass (judged.grant_judges watch (Range onu)) ((rules.breaks_grant watch (Range onu), rule.Grant) ∷ []) (nobodys_judged onu, tt)
  heard_judged (HeardGrant (Poll onu)) =
      all_pass (judged.grant_judges watch (Poll onu)) ((rules.breaks_grant watch (Poll onu), rule.Grant) ∷ []) (poll_judged onu, tt)

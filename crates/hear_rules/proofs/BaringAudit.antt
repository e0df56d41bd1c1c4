-- Without delays each rule that doesn't go by them answers the same, along the frames of a log.
use Rattle.std.specs.Prelude.{nat_le}
use Rattle.std.proofs.Common.{◌≡◌, ℕ, ◌+◌, ◌==◌, false, cond, not, ◌&&◌, ◌||◌, List, [], ◌∷◌, Option, None, Some, refl, sym, ap, subst, ◌∙◌}
use mathlib.Core.Path.{fun_ext}
use Rattle.std.proofs.lemmas.Bool.{false≢true}
use Rattle.gp_ploam.specs.declared.message.Serial.{Serial}
use Rattle.gp_ploam.specs.declared.message.Down.{Down}
use Rattle.gp_ploam.specs.declared.message.Down.TheVariants.{UpstreamOverhead, AssignOnu, RangingTime, Deactivate, DisableSerial, EnableSerial, EnableAll, AssignAlloc, NoMessage, Popup, Other}
use Rattle.gp_ploam.specs.declared.message.Up.{Up}
use Rattle.gp_ploam.specs.declared.message.Up.TheVariants.{SerialNumber}
use Rattle.gp_ploam.specs.declared.message.Up.TheVariants as up
use Rattle.gp_ploam.specs.Up.{octet1_of}
use Rattle.gp_observer.specs.Heard.{Heard, HeardDown, HeardUp, HeardGrant}
use Rattle.hear_rules.specs.declared.rule.Rule.{Rule}
use Rattle.hear_rules.specs.declared.rule.Rule.TheVariants as rule
use Rattle.hear_rules.specs.Facts.{Sure, Yes}
use Rattle.hear_rules.specs.Known.{Number, Unheard, Nobodys, Of, Known}
use Rattle.hear_rules.specs.Rules.{Settings, judged_if}
use Rattle.gp_observer.specs.Observer.{is_unit_number}
use Rattle.hear_rules.specs.Copies.{Subject, subject_of, OfNothing, OfHolder, OfDelay, OfAlloc, OfSerial, OfAllOnus, OfAllSerials, Sendings, copies}
use Rattle.hear_rules.specs.Units.{Tallies, total, By, Notices, is_of, is_nobodys, changes_hands, changes_holder, gets_delay, changes_delay, changes_unit, changes_disabled, notices_after, Sent, unless_lost, lost_again, is_unheard, sent_after, Owing, owing_sent, unless_gone, owing_after, after_grace, disabled, anew, number_of, with_none, number, copied_of, broken_unsent, is_held, acknowledge}
use Rattle.hear_rules.specs.Notes.{Notes, notes_whole, notes_midway, judged_subjects, notes_after}
use Rattle.hear_rules.specs.Audit.{worst, judge_copies, judge_answer, judge_granted, judge}
use Rattle.hear_rules.specs.Bare.{without_delay, goes_by_delay, JudgesTheSame, DelaysJudgeNoOther}
use Rattle.hear_rules.proofs.Baring.{bared_number, bared, message_bared, heard_bared, IsOther, judged_same}

-- ---- what is kept

of_bared : (x : Number) (s : Serial) → is_of (bared_number x) s ≡ is_of x s
of_bared Unheard s = refl
of_bared Nobodys s = refl
of_bared (Of t d a) s = refl

nobodys_bared : (x : Number) → is_nobodys (bared_number x) ≡ is_nobodys x
nobodys_bared Unheard = refl
nobodys_bared Nobodys = refl
nobodys_bared (Of t d a) = refl

unheard_bared : (x : Number) → is_unheard (bared_number x) ≡ is_unheard x
unheard_bared Unheard = refl
unheard_bared Nobodys = refl
unheard_bared (Of t d a) = refl

held_bared : (x : Number) → is_held (bared_number x) ≡ is_held x
held_bared Unheard = refl
held_bared Nobodys = refl
held_bared (Of t d a) = refl

delay_bared : (x : Number) (e : ℕ) → gets_delay (bared_number x) e ≡ gets_delay x e
delay_bared Unheard e = refl
delay_bared Nobodys e = refl
delay_bared (Of t d a) e = refl

again_bared : (x : Number) (s : Serial) → lost_again (bared_number x) s ≡ lost_again x s
again_bared Unheard s = refl
again_bared Nobodys s = refl
again_bared (Of t d a) s = refl

module _ (k : Known) where
  hands_same : (n : ℕ) (s : Serial) (j : ℕ) → changes_hands (bared k) n s j ≡ changes_hands k n s j
  hands_same n s j = ap (λ b. cond (j == n) (not b) b) (of_bared (k.numbers j) s)

  holder_same : (m : Down) (j : ℕ) → changes_holder (bared k) m j ≡ changes_holder k m j
  holder_same (AssignOnu n s) j = ap (λ b. is_unit_number n && b) (hands_same n s j)
  holder_same (Deactivate n) j = ap (λ b. (n == 255 || j == n) && not b) (nobodys_bared (k.numbers j))
  holder_same (DisableSerial s) j = of_bared (k.numbers j) s
  holder_same (UpstreamOverhead burst) j = refl
  holder_same (RangingTime n e) j = refl
  holder_same (EnableSerial s) j = refl
  holder_same EnableAll j = refl
  holder_same (AssignAlloc n a keep) j = refl
  holder_same NoMessage j = refl
  holder_same (Popup n) j = refl
  holder_same (Other id octet1 body) j = refl

  delay_same : (m : Down) (j : ℕ) → changes_delay (bared k) m j ≡ changes_delay k m j
  delay_same (RangingTime n e) j = ap (λ b. j == n && b) (delay_bared (k.numbers j) e)
  delay_same (UpstreamOverhead burst) j = refl
  delay_same (AssignOnu n s) j = refl
  delay_same (Deactivate n) j = refl
  delay_same (DisableSerial s) j = refl
  delay_same (EnableSerial s) j = refl
  delay_same EnableAll j = refl
  delay_same (AssignAlloc n a keep) j = refl
  delay_same NoMessage j = refl
  delay_same (Popup n) j = refl
  delay_same (Other id octet1 body) j = refl

  unit_same : (m : Down) (j : ℕ) → changes_unit (bared k) m j ≡ changes_unit k m j
  unit_same (AssignOnu n s) j = ap (λ b. is_unit_number n && j == n && not b) (of_bared (k.numbers j) s)
  unit_same (RangingTime n e) j = refl
  unit_same (UpstreamOverhead burst) j = refl
  unit_same (Deactivate n) j = refl
  unit_same (DisableSerial s) j = refl
  unit_same (EnableSerial s) j = refl
  unit_same EnableAll j = refl
  unit_same (AssignAlloc n a keep) j = refl
  unit_same NoMessage j = refl
  unit_same (Popup n) j = refl
  unit_same (Other id octet1 body) j = refl

  serial_same : (m : Down) (t : Serial) → changes_disabled (bared k) m t ≡ changes_disabled k m t
  serial_same (DisableSerial s) t = refl
  serial_same (UpstreamOverhead burst) t = refl
  serial_same (AssignOnu n s) t = refl
  serial_same (RangingTime n e) t = refl
  serial_same (Deactivate n) t = refl
  serial_same (EnableSerial s) t = refl
  serial_same EnableAll t = refl
  serial_same (AssignAlloc n a keep) t = refl
  serial_same NoMessage t = refl
  serial_same (Popup n) t = refl
  serial_same (Other id octet1 body) t = refl

  notices_same : (tallies : Tallies) (notices : Notices) (m : Down) → notices_after (bared k) tallies notices m ≡ notices_after k tallies notices m
  notices_same tallies notices m =
      λ i. record {
        onu = fun_ext (λ j. ap (λ b. cond b (By (subject_of m) (total (tallies (subject_of m)))) (notices.onu j)) (holder_same m j)) i;
        delay = fun_ext (λ j. ap (λ b. cond b (total (tallies (OfDelay j))) (notices.delay j)) (delay_same m j)) i;
        unit = fun_ext (λ j. ap (λ b. cond b (total (tallies (OfDelay j))) (notices.unit j)) (unit_same m j)) i;
        disabled = fun_ext (λ t. ap (λ b. cond b (total (tallies (OfSerial t))) (notices.disabled t)) (serial_same m t)) i;
      }

  sent_same : (sent : Sent) (m : Down) → sent_after (bared k) sent m ≡ sent_after k sent m
  sent_same sent (AssignOnu n s) =
      ap (λ (x : Sure). record {
        any = λ other. cond (other == n) (unless_lost x (sent.any other)) (sent.any other);
        alloc = λ other its. cond (other == n) (unless_lost x (sent.alloc other its)) (sent.alloc other its);
      }) (again_bared (k.numbers n) s)
  sent_same sent (UpstreamOverhead burst) = refl
  sent_same sent (RangingTime n e) = refl
  sent_same sent (Deactivate n) = refl
  sent_same sent (DisableSerial s) = refl
  sent_same sent (EnableSerial s) = refl
  sent_same sent EnableAll = refl
  sent_same sent (AssignAlloc n a keep) =
      ap (λ b. cond b sent (record {
        any = λ other. cond (other == n) Yes (sent.any other);
        alloc = λ other its. cond (other == n && its == a) Yes (sent.alloc other its);
      })) (unheard_bared (k.numbers n))
  sent_same sent NoMessage = refl
  sent_same sent (Popup n) = refl
  sent_same sent (Other id octet1 body) = refl

  owing_same : (tallies : Tallies) (notices : Notices) (owing : ℕ → Owing) (now : ℕ) (m : Down) (j : ℕ) → owing_after (bared k) tallies notices owing now m j ≡ owing_after k tallies notices owing now m j
  owing_same tallies notices owing now (AssignOnu n s) j = ap (λ b. unless_gone (is_unit_number n && b) (owing j)) (hands_same n s j)
  owing_same tallies notices owing now (DisableSerial s) j = ap (λ b. unless_gone b (owing j)) (of_bared (k.numbers j) s)
  owing_same tallies notices owing now (AssignAlloc n a keep) j =
      ap (λ b. cond (j == n) (owing_sent (b && nat_le (notices.unit n + 3) (total (tallies (OfDelay n)))) (owing n) now (AssignAlloc n a keep)) (owing j)) (held_bared (k.numbers n))
  owing_same tallies notices owing now (UpstreamOverhead burst) j = refl
  owing_same tallies notices owing now (RangingTime n e) j = refl
  owing_same tallies notices owing now (Deactivate n) j = refl
  owing_same tallies notices owing now (EnableSerial s) j = refl
  owing_same tallies notices owing now EnableAll j = refl
  owing_same tallies notices owing now NoMessage j = refl
  owing_same tallies notices owing now (Popup n) j = refl
  owing_same tallies notices owing now (Other id octet1 body) j = refl

abbrev bared_notes : Notes → Notes
bared_notes notes = record notes { known = bared notes.known }

notes_bared : (settings : Settings) (notes : Notes) (now : ℕ) (x : Heard) → notes_after settings (bared_notes notes) now (without_delay x) ≡ bared_notes (notes_after settings notes now x)
notes_bared settings notes now (HeardDown None) = refl
notes_bared settings notes now (HeardDown (Some m)) =
    λ i. record (bared_notes (notes_after settings notes now (HeardDown (Some m)))) {
      known = message_bared notes.known m i;
      notices = notices_same notes.known notes.tallies notes.notices m i;
      sent = sent_same notes.known notes.sent m i;
      owing = fun_ext (λ j. owing_same notes.known notes.tallies notes.notices notes.owing now m j) i;
    }
notes_bared settings notes now (HeardUp None delay) = refl
notes_bared settings notes now (HeardUp (Some m) delay) =
    λ i. record (bared_notes (notes_after settings notes now (HeardUp (Some m) delay))) { known = heard_bared notes.known (HeardUp (Some m) delay) i }
notes_bared settings notes now (HeardGrant g) = refl

-- ---- each rule

other_of : (r : Rule) → goes_by_delay r ≡ false → (k : Known) (settings : Settings) → IsOther k settings r
other_of rule.Delay h k settings = absurd (false≢true (sym h))
other_of r h k settings = tt

up_same : (s : Sendings) (now : ℕ) (m : Option Up) (delay : Option ℕ) (v : Subject) → copies s now (HeardUp m None) v ≡ copies s now (HeardUp m delay) v
up_same s now m delay OfNothing = refl
up_same s now m delay (OfHolder n) = refl
up_same s now m delay (OfDelay n) = refl
up_same s now m delay (OfAlloc n a) = refl
up_same s now m delay (OfSerial t) = refl
up_same s now m delay OfAllOnus = refl
up_same s now m delay OfAllSerials = refl

module _ (settings : Settings) (notes : Notes) (now : ℕ) where
  copies_same : (x : Heard) (vs : List Subject) → judge_copies (bared_notes notes) now (without_delay x) vs ≡ judge_copies notes now x vs
  copies_same x [] = refl
  copies_same (HeardDown m) (v ∷ vs) = ap (worst (copies notes.sendings now (HeardDown m) v)) (copies_same (HeardDown m) vs)
  copies_same (HeardUp m delay) (v ∷ vs) =
      ap (λ w. worst w (judge_copies (bared_notes notes) now (HeardUp m None) vs)) (up_same notes.sendings now m delay v)
      ∙ ap (worst (copies notes.sendings now (HeardUp m delay) v)) (copies_same (HeardUp m delay) vs)
  copies_same (HeardGrant g) (v ∷ vs) = ap (worst (copies notes.sendings now (HeardGrant g) v)) (copies_same (HeardGrant g) vs)

  disabled_same : (m : Up) → disabled settings (bared notes.known) notes.tallies notes.notices now m ≡ disabled settings notes.known notes.tallies notes.notices now m
  disabled_same (SerialNumber n s random flags) = refl
  disabled_same (up.DyingGasp n) = refl
  disabled_same (up.NoMessage n) = refl
  disabled_same (up.Acknowledge n id copy) = refl
  disabled_same (up.Other id octet1 body) = refl

  asks_same : (m : Up) → anew settings (bared notes.known) notes.tallies notes.notices now m ≡ anew settings notes.known notes.tallies notes.notices now m
  asks_same (SerialNumber n s random flags) = refl
  asks_same (up.DyingGasp n) = refl
  asks_same (up.NoMessage n) = refl
  asks_same (up.Acknowledge n id copy) = refl
  asks_same (up.Other id octet1 body) = refl

  of_same : (x : Number) (m : Up) → number_of (bared_number x) m ≡ number_of x m
  of_same Unheard m = refl
  of_same Nobodys m = refl
  of_same (Of t d a) m = refl

  number_same : (m : Up) → number settings (bared notes.known) notes.tallies notes.notices notes.down now m ≡ number settings notes.known notes.tallies notes.notices notes.down now m
  number_same m =
      ap (λ v. cond (octet1_of m == 255) (with_none m) (judged_if notes.down (after_grace settings notes.tallies now (notes.notices.onu (octet1_of m)) v)))
      (of_same (notes.known.numbers (octet1_of m)) m)

  acknowledge_same : (m : Up) → acknowledge settings (bared notes.known) notes.tallies notes.notices notes.sent now m ≡ acknowledge settings notes.known notes.tallies notes.notices notes.sent now m
  acknowledge_same (up.Acknowledge n id copy) =
      ap (λ b. judged_if (id == 10 && b) (after_grace settings notes.tallies now (notes.notices.onu n) (broken_unsent (copied_of notes.sent n copy)))) (held_bared (notes.known.numbers n))
  acknowledge_same (SerialNumber n s random flags) = refl
  acknowledge_same (up.DyingGasp n) = refl
  acknowledge_same (up.NoMessage n) = refl
  acknowledge_same (up.Other id octet1 body) = refl

  answer_same : (m : Up) (delay : Option ℕ) (r : Rule) → goes_by_delay r ≡ false → judge_answer settings (bared_notes notes) now m None r ≡ judge_answer settings notes now m delay r
  answer_same m delay rule.Garbled h = refl
  answer_same m delay rule.Disabled h = disabled_same m
  answer_same m delay rule.Anew h = asks_same m
  answer_same m delay rule.Number h = number_same m
  answer_same m delay rule.Twice h = refl
  answer_same m delay rule.Acknowledge h = acknowledge_same m
  answer_same m delay rule.Unacknowledged h = refl
  answer_same m delay rule.Drift h = absurd (false≢true (sym h))
  answer_same m delay r h = refl

  granted_same : (g : _) (r : Rule) → goes_by_delay r ≡ false → judge_granted settings (bared_notes notes) (HeardGrant g) r ≡ judge_granted settings notes (HeardGrant g) r
  granted_same g rule.Grant h = ap (judged_if notes.down) (judged_same notes.known settings (HeardGrant g) rule.Grant tt)
  granted_same g r h = judged_same notes.known settings (HeardGrant g) r (other_of r h notes.known settings)

  judge_same : (x : Heard) (r : Rule) → goes_by_delay r ≡ false → judge settings (bared_notes notes) now (without_delay x) r ≡ judge settings notes now x r
  judge_same (HeardDown m) rule.Copies h = copies_same (HeardDown m) (judged_subjects notes.sendings notes.waiting now (HeardDown m))
  judge_same (HeardUp m delay) rule.Copies h = copies_same (HeardUp m delay) (judged_subjects notes.sendings notes.waiting now (HeardUp m delay))
  judge_same (HeardGrant g) rule.Copies h = copies_same (HeardGrant g) (judged_subjects notes.sendings notes.waiting now (HeardGrant g))
  judge_same (HeardDown m) r h = judged_same notes.known settings (HeardDown m) r (other_of r h notes.known settings)
  judge_same (HeardUp None delay) r h = refl
  judge_same (HeardUp (Some m) delay) r h = answer_same m delay r h
  judge_same (HeardGrant g) r h = granted_same g r h

-- ---- a log

log_same : (settings : Settings) (notes : Notes) (timed : List (ℕ × Heard)) → JudgesTheSame settings (bared_notes notes) notes timed
log_same settings notes [] = tt
log_same settings notes ((now, x) ∷ timed) = (
  judge_same settings notes now x,
  subst (λ (bare : Notes). JudgesTheSame settings bare (notes_after settings notes now x) timed) (sym (notes_bared settings notes now x)) (log_same settings (notes_after settings notes now x) timed),
)

pub delays_judge_no_other : DelaysJudgeNoOther
delays_judge_no_other settings begun timed = (log_same settings notes_whole timed, log_same settings (notes_midway begun) timed)

-- Worked cases of `copies`.
use Rattle.std.proofs.Common.{◌≡◌, ℕ, true, List, [], ◌∷◌, None, Some, refl}
use Rattle.gp_ploam.specs.declared.message.Down.{Down}
use Rattle.gp_ploam.specs.declared.message.Down.TheVariants.{AssignOnu, RangingTime, Deactivate, AssignAlloc, Other}
use Rattle.gp_observer.specs.Heard.{Heard, HeardDown, HeardUp}
use Rattle.hear_rules.specs.declared.rule.Rule.{Rule}
use Rattle.hear_rules.specs.declared.rule.Rule.TheVariants as rule
use Rattle.hear_rules.specs.declared.rule.Verdict.{Verdict}
use Rattle.hear_rules.specs.declared.rule.Verdict.TheVariants.{Kept, Broken, NotJudged}
use Rattle.hear_rules.specs.Copies.{Sendings, Cut, Silent, OfHolder, OfDelay, OfAlloc, sendings_heard, copies}
use Rattle.hear_rules.specs.Notes.{notes_whole}
use Rattle.hear_rules.specs.Audit.{audit}
use Rattle.hear_rules.proofs.Cases.{A, B, settings}

-- ---- copies

abbrev sent : Sendings → List Down → Sendings
sent sendings [] = sendings
sent sendings (message ∷ messages) = sent (sendings_heard sendings 5 (HeardDown (Some message))) messages

-- what another message breaks, of the holder of 3
abbrev then : Sendings → Down → Verdict
then sendings message = copies sendings 5 (HeardDown (Some message)) (OfHolder 3)

abbrev whole : Sendings
whole = λ subject. Silent

abbrev midway : Sendings
midway = λ subject. Cut

twice_sent : then (sent whole (AssignOnu 3 A ∷ AssignOnu 3 A ∷ [])) (Deactivate 3) ≡ Broken
twice_sent = refl

three_sent : then (sent whole (AssignOnu 3 A ∷ AssignOnu 3 A ∷ [])) (AssignOnu 3 A) ≡ Kept
three_sent = refl

-- it was judged with the third copy
four_sent : then (sent whole (AssignOnu 3 A ∷ AssignOnu 3 A ∷ AssignOnu 3 A ∷ [])) (Deactivate 3) ≡ NotJudged
four_sent = refl

-- copies alternate
alternating : then (sent whole (AssignOnu 3 A ∷ AssignOnu 4 B ∷ AssignOnu 3 A ∷ AssignOnu 4 B ∷ [])) (AssignOnu 3 A) ≡ Kept
alternating = refl

-- of two Alloc-IDs of one unit too, and of its delay
two_allocs : copies (sent whole (AssignAlloc 3 256 true ∷ AssignAlloc 3 257 true ∷ RangingTime 3 5 ∷ AssignAlloc 3 256 true ∷ [])) 5 (HeardDown (Some (AssignAlloc 3 256 true))) (OfAlloc 3 256) ≡ Kept
two_allocs = refl

-- what is said to a unit ends no assignment, and a copy of an assignment nothing that is said to its unit
ranged_between : then (sent whole (AssignOnu 3 A ∷ AssignOnu 3 A ∷ [])) (RangingTime 3 5) ≡ NotJudged
ranged_between = refl

ranged_third : then (sent whole (AssignOnu 3 A ∷ AssignOnu 3 A ∷ RangingTime 3 5 ∷ AssignAlloc 3 256 true ∷ [])) (AssignOnu 3 A) ≡ Kept
ranged_third = refl

-- what another message breaks, of the delay of 3
abbrev then_delay : Sendings → Down → Verdict
then_delay sendings message = copies sendings 5 (HeardDown (Some message)) (OfDelay 3)

assigned_between : then_delay (sent whole (AssignOnu 3 A ∷ RangingTime 3 5 ∷ RangingTime 3 5 ∷ [])) (AssignOnu 3 A) ≡ NotJudged
assigned_between = refl

assigned_third : then_delay (sent whole (AssignOnu 3 A ∷ RangingTime 3 5 ∷ RangingTime 3 5 ∷ AssignOnu 3 A ∷ [])) (RangingTime 3 5) ≡ Kept
assigned_third = refl

-- another one does
given_between : then_delay (sent whole (AssignOnu 3 A ∷ RangingTime 3 5 ∷ RangingTime 3 5 ∷ [])) (AssignOnu 3 B) ≡ Broken
given_between = refl

lost_between : copies (sent whole (AssignAlloc 3 256 true ∷ [])) 5 (HeardDown (Some (Deactivate 3))) (OfAlloc 3 256) ≡ Broken
lost_between = refl

-- what was ended begins anew
anew_sent : copies (sent whole (RangingTime 3 5 ∷ RangingTime 3 5 ∷ RangingTime 3 5 ∷ AssignOnu 3 A ∷ RangingTime 3 5 ∷ [])) 5 (HeardDown (Some (Deactivate 3))) (OfDelay 3) ≡ Broken
anew_sent = refl

-- the log begins in the middle
cut_copies : then (sent midway (AssignOnu 3 A ∷ [])) (Deactivate 3) ≡ NotJudged
cut_copies = refl

-- the first message about the holder may be a copy: what was said to its unit isn't known any more
cut_holder : then_delay (sent midway (RangingTime 3 5 ∷ RangingTime 3 6 ∷ [])) (AssignOnu 3 A) ≡ NotJudged
cut_holder = refl

cut_delay : then_delay (sent midway (RangingTime 3 5 ∷ RangingTime 3 6 ∷ AssignOnu 3 A ∷ [])) (Deactivate 3) ≡ NotJudged
cut_delay = refl

known_delay : then_delay (sent midway (AssignOnu 3 A ∷ RangingTime 3 5 ∷ RangingTime 3 6 ∷ [])) (Deactivate 3) ≡ Broken
known_delay = refl

late : copies (sent whole (AssignOnu 3 A ∷ AssignOnu 3 A ∷ [])) 806 (HeardUp None None) (OfHolder 3) ≡ Broken
late = refl

not_late : copies (sent whole (AssignOnu 3 A ∷ AssignOnu 3 A ∷ [])) 805 (HeardUp None None) (OfHolder 3) ≡ NotJudged
not_late = refl

-- ---- when it is told

abbrev down : ℕ → Down → ℕ × Heard
down now message = (now, HeardDown (Some message))

-- a message that needn't be said three times
abbrev anything : ℕ → ℕ × Heard
anything now = down now (Other 17 255 [])

abbrev told : List (ℕ × Heard) → List (List Rule)
told timed = audit settings notes_whole timed

told_once : told (down 5 (AssignOnu 3 A) ∷ anything 805 ∷ anything 806 ∷ anything 1700 ∷ []) ≡ [] ∷ [] ∷ (rule.Copies ∷ []) ∷ [] ∷ [] ∷ []
told_once = refl

-- the first one alone is looked at, and the others at the end of the log
one_by_one : told (down 5 (AssignOnu 3 A) ∷ down 5 (AssignOnu 4 B) ∷ down 5 (Deactivate 5) ∷ anything 806 ∷ anything 806 ∷ []) ≡ [] ∷ [] ∷ [] ∷ (rule.Copies ∷ []) ∷ (rule.Copies ∷ []) ∷ (rule.Copies ∷ []) ∷ []
one_by_one = refl

-- by a late copy too, or by a message that ends it, or is told in its place: once
late_copy : told (down 5 (Deactivate 5) ∷ down 6 (AssignOnu 3 A) ∷ down 900 (AssignOnu 3 A) ∷ anything 901 ∷ []) ≡ [] ∷ [] ∷ (rule.Copies ∷ rule.Copies ∷ []) ∷ [] ∷ [] ∷ []
late_copy = refl

late_first_copy : told (down 5 (AssignOnu 3 A) ∷ down 900 (AssignOnu 3 A) ∷ anything 901 ∷ []) ≡ [] ∷ (rule.Copies ∷ []) ∷ [] ∷ [] ∷ []
late_first_copy = refl

ended_late : told (down 5 (AssignOnu 3 A) ∷ down 5 (AssignOnu 3 A) ∷ down 5 (AssignOnu 3 A) ∷ down 6 (Deactivate 5) ∷ down 7 (RangingTime 3 5) ∷ down 900 (Deactivate 3) ∷ []) ≡ [] ∷ [] ∷ [] ∷ [] ∷ [] ∷ (rule.Copies ∷ rule.Copies ∷ []) ∷ [] ∷ []
ended_late = refl

-- of all that a message ends
all_ended : told (down 5 (AssignOnu 3 A) ∷ down 5 (AssignOnu 3 A) ∷ down 5 (AssignOnu 3 A) ∷ down 6 (RangingTime 3 5) ∷ down 6 (AssignAlloc 3 257 true) ∷ down 6 (AssignAlloc 3 256 true) ∷ down 7 (Deactivate 3) ∷ anything 900 ∷ [])
    ≡ [] ∷ [] ∷ [] ∷ [] ∷ [] ∷ [] ∷ (rule.Copies ∷ rule.Copies ∷ rule.Copies ∷ []) ∷ [] ∷ (rule.Copies ∷ []) ∷ []
all_ended = refl

-- it waits once, also where it is opened anew before it leaves
waits_once : told (down 5 (AssignOnu 3 A) ∷ down 6 (AssignOnu 3 A) ∷ down 7 (AssignOnu 3 A) ∷ down 7 (Deactivate 3) ∷ anything 900 ∷ anything 901 ∷ []) ≡ [] ∷ [] ∷ [] ∷ [] ∷ (rule.Copies ∷ []) ∷ [] ∷ [] ∷ []
waits_once = refl

-- The bursts that are to come, and the flags of their frames.
use Rattle.std.proofs.Common.{◌≡◌, ℕ, ◌+◌, ◌/◌, ◌%◌, ◌<◌, ◌≤◌, true, false, cond, List, [], ◌∷◌, ◌++◌, length, drop, refl, sym, ap, subst, ◌∙◌, arith, append_assoc, eqb, eqb-true, inl, inr, get_or}
use Rattle.std.specs.Prelude.{Bool, All, not, map, slice_set, ◌&&◌}
use Rattle.std.specs.List.{filter}
use Rattle.std.proofs.Math.Seq.{drop-append_seam}
use Rattle.std.proofs.lemmas.Bool.{cases_Bool, eqb-false, ne_eqb}
use Rattle.std.proofs.lemmas.List.{append-nil, drop-append-le, get_or-set_other, get_or-set_same, length-drop, length-set}
use Rattle.std.proofs.lemmas.List.Elements.{All-nil, All-cons, All-head, All-tail, All-same, All-push}
use Rattle.gp_onu.specs.declared.limits.TheConstants.{FRAME_BIT_TIMES}
use Rattle.gp_fibre.specs.declared.flight.Flight.{Flight}
use Rattle.gp_fibre.specs.declared.sent_burst.SentBurst.{SentBurst}
use Rattle.gp_fibre.specs.declared.world_step.WorldStep.TheVariants as steps
use Rattle.gp_fibre.specs.World.{FibreWorld}
use Rattle.gp_fibre.specs.Step.{Whole}
use Rattle.gp_fibre.specs.Parts.{Comes}
use Rattle.gp_fibre.specs.Flights.{AreFlagged, AreInReach, AreNear, HasFlag}
use Rattle.gp_fibre.specs.Schedule.{arrivals, flights_after, flights_of, is_due, is_lost}

-- ---- flags

-- one more whose flag is set
pub added_flagged : (flights new : List Flight) (coming after : List Bool) (flight : Flight) (place : ℕ) → AreFlagged flights coming → place ≡ flight.due % 5 → after ≡ slice_set coming place true
    → new ≡ flights ++ flight ∷ [] → AreFlagged new after
added_flagged flights new coming after flight place kept at set_is is =
    subst (λ (flags : List Bool). AreFlagged new flags) (sym set_is)
    (record {
      count = length-set coming place true ∙ kept.count;
      each = All-same (HasFlag (slice_set coming place true)) new (flights ++ flight ∷ []) is
          (All-push (HasFlag (slice_set coming place true)) flights flight (λ at d low. still (get_or flights at d) (kept.each at d low)) (here flight (sym at)));
    })
  where
    here : (x : Flight) → x.due % 5 ≡ place → HasFlag (slice_set coming place true) x
    here x one =
        let five = kept.count in
        let within : place < length coming = omega arith in
        subst (λ (n : ℕ). get_or (slice_set coming place true) n false ≡ true) (sym one) (get_or-set_same coming place true false within)

    still : (x : Flight) → HasFlag coming x → HasFlag (slice_set coming place true) x
    still x flag = elim (cases_Bool (eqb (x.due % 5) place)) [
      | inl same ↦ here x (eqb-true (x.due % 5) place same)
      | inr apart ↦ get_or-set_other coming place (x.due % 5) true false (eqb-false (x.due % 5) place apart) ∙ flag
    ]

-- where the flag of a frame is not set none comes in it
pub none_comes : (flights : List Flight) (coming : List Bool) (frame place : ℕ) → AreFlagged flights coming → place ≡ frame % 5 → get_or coming place false ≡ false
    → All (λ f. is_due frame f ≡ false) flights
none_comes flights coming frame place kept at unset = λ k d low.
    let flag = kept.each k d low in
    ne_eqb (get_or flights k d).due frame
    (λ e.
    let one : (get_or flights k d).due % 5 ≡ place = ap (λ (n : ℕ). n % 5) e ∙ sym at in
    let yes : true ≡ false = sym flag ∙ ap (λ (n : ℕ). get_or coming n false) one ∙ unset in
    absurd (cc))

-- ---- the bursts of a frame

-- what is true of the bursts that are not due, of those that are left
pub left_all : (frame : ℕ) (P Q : Flight → Type 0) → ((f : Flight) → is_due frame f ≡ false → P f → Q f) → (xs : List Flight) → All P xs → All Q (flights_after frame xs)
left_all frame P Q h [] all = All-nil Q
left_all frame P Q h (x ∷ xs) all =
    let rest = flights_after frame xs in
    let others : All Q rest = left_all frame P Q h xs (All-tail P x xs all) in
    elim (cases_Bool (is_due frame x)) [
      | inl due ↦ subst (λ (fs : List Flight). All Q fs) (sym (ap (λ b. cond (not b) (x ∷ rest) rest) due)) others
      | inr later ↦ subst (λ (fs : List Flight). All Q fs) (sym (ap (λ b. cond (not b) (x ∷ rest) rest) later)) (All-cons Q x rest (h x later (All-head P x xs all)) others)
    ]

-- those that come later keep their flags when that of this frame is cleared
pub cleared_flagged : (flights left : List Flight) (coming after : List Bool) (frame place : ℕ) → AreFlagged flights coming → AreInReach frame flights → place ≡ frame % 5
    → after ≡ slice_set coming place false → left ≡ flights_after frame flights → AreFlagged left after
cleared_flagged flights left coming after frame place kept reach at set_is is =
    subst (λ (flags : List Bool). AreFlagged left flags) (sym set_is)
    (record {
      count = length-set coming place false ∙ kept.count;
      each = All-same (HasFlag (slice_set coming place false)) left (flights_after frame flights) is
          (left_all frame (λ f. HasFlag coming f × ((frame ≤ f.due) × (f.due < frame + 5))) (HasFlag (slice_set coming place false)) still
          flights (λ k d low. (kept.each k d low, reach k d low)));
    })
  where
    still : (f : Flight) → is_due frame f ≡ false → HasFlag coming f × ((frame ≤ f.due) × (f.due < frame + 5)) → HasFlag (slice_set coming place false) f
    still f isnt both =
        let low = both.1.0 in
        let high = both.1.1 in
        get_or-set_other coming place (f.due % 5) false false
        (λ e. eqb-false f.due frame isnt (omega arith))
        ∙ both.0

pub left_in_reach : (frame : ℕ) (flights left : List Flight) → AreInReach frame flights → left ≡ flights_after frame flights → AreInReach (frame + 1) left
left_in_reach frame flights left reach is =
    All-same (λ (f : Flight). (frame + 1 ≤ f.due) × (f.due < (frame + 1) + 5)) left (flights_after frame flights) is
    (left_all frame (λ f. (frame ≤ f.due) × (f.due < frame + 5)) (λ f. (frame + 1 ≤ f.due) × (f.due < (frame + 1) + 5))
    (λ f isnt at. let low = at.0 in let high = at.1 in let apart = eqb-false f.due frame isnt in (omega arith, omega arith))
    flights reach)

pub none_leaves : (frame : ℕ) (flights : List Flight) → All (λ f. is_due frame f ≡ false) flights → flights ≡ flights_after frame flights
none_leaves frame [] none = refl
none_leaves frame (x ∷ xs) none =
    let rest = flights_after frame xs in
    ap (λ (fs : List Flight). x ∷ fs) (none_leaves frame xs (All-tail (λ f. is_due frame f ≡ false) x xs none))
    ∙ sym (ap (λ b. cond (not b) (x ∷ rest) rest) (All-head (λ f. is_due frame f ≡ false) x xs none))

pub none_arrives : (lost : List ℕ) (frame : ℕ) (flights : List Flight) → All (λ f. is_due frame f ≡ false) flights → [] ≡ arrivals lost frame flights
none_arrives lost frame flights none =
    ap (map (λ (f : Flight). Whole (steps.Arrive f.number))) (nothing flights none)
  where
    nothing : (xs : List Flight) → All (λ f. is_due frame f ≡ false) xs → [] ≡ filter (λ f. is_due frame f && not (is_lost lost f.number)) xs
    nothing [] all = refl
    nothing (x ∷ xs) all =
        let rest = filter (λ (f : Flight). is_due frame f && not (is_lost lost f.number)) xs in
        nothing xs (All-tail (λ f. is_due frame f ≡ false) x xs all)
        ∙ sym (ap (λ b. cond (b && not (is_lost lost x.number)) (x ∷ rest) rest) (All-head (λ f. is_due frame f ≡ false) x xs all))

-- ---- bursts that are answered

pub near_those : (frame due : ℕ) (flights : List Flight) → AreInReach frame flights → frame ≤ due → due < frame + 5 → AreNear due flights
near_those frame due flights reach low high = λ place d in_list.
    let at = reach place d in_list in
    let first = at.0 in
    let last = at.1 in
    (omega arith, omega arith)

pub no_answer : (frame : ℕ) (flights : List Flight) (old new : List SentBurst) → new ≡ old ++ [] → flights ≡ flights ++ flights_of frame (length old) (drop (length old) new)
no_answer frame flights old new is =
    sym (append-nil flights)
    ∙ ap (λ (bs : List SentBurst). flights ++ flights_of frame (length old) bs) (sym (ap (drop (length old)) is ∙ drop-append_seam old []))

pub one_answer : (frame number due : ℕ) (flights after : List Flight) (old new : List SentBurst) (b : SentBurst) → number ≡ length old → due ≡ frame + b.at / FRAME_BIT_TIMES → new ≡ old ++ b ∷ []
    → after ≡ flights ++ record { number = number; due = due } ∷ [] → after ≡ flights ++ flights_of frame (length old) (drop (length old) new)
one_answer frame number due flights after old new b is_number is_due is added =
    added
    ∙ ap (λ (n : ℕ). let f : Flight = record { number = n; due = due } in flights ++ f ∷ []) is_number
    ∙ ap (λ (d : ℕ). let f : Flight = record { number = length old; due = d } in flights ++ f ∷ []) is_due
    ∙ ap (λ (bs : List SentBurst). flights ++ flights_of frame (length old) bs) (sym (ap (drop (length old)) is ∙ drop-append_seam old (b ∷ [])))

flights_join : (frame number last : ℕ) (xs ys : List SentBurst) → number + length xs ≡ last → flights_of frame number (xs ++ ys) ≡ flights_of frame number xs ++ flights_of frame last ys
flights_join frame number last [] ys e = let same : number ≡ last = omega arith in ap (λ (n : ℕ). flights_of frame n ys) same
flights_join frame number last (x ∷ xs) ys e =
    ap (λ (fs : List Flight). let f : Flight = record { number = number; due = frame + x.at / FRAME_BIT_TIMES } in f ∷ fs) (flights_join frame (number + 1) last xs ys (omega arith))

pub answers_more : (frame : ℕ) (flights mid after : List Flight) (a b c more : List SentBurst) → length a ≤ length b → c ≡ b ++ more
    → mid ≡ flights ++ flights_of frame (length a) (drop (length a) b) → after ≡ mid ++ flights_of frame (length b) (drop (length b) c)
    → after ≡ flights ++ flights_of frame (length a) (drop (length a) c)
answers_more frame flights mid after a b c more low is so_far now =
    let n = length a in
    let long = length-drop n b in
    let split : drop n c ≡ drop n b ++ more = ap (drop n) is ∙ drop-append-le n b more low in
    let past : drop (length b) c ≡ more = ap (drop (length b)) is ∙ drop-append_seam b more in
    now
    ∙ ap (λ (fs : List Flight). fs ++ flights_of frame (length b) (drop (length b) c)) so_far
    ∙ append_assoc flights (flights_of frame n (drop n b)) (flights_of frame (length b) (drop (length b) c))
    ∙ ap (λ (bs : List SentBurst). flights ++ (flights_of frame n (drop n b) ++ flights_of frame (length b) bs)) past
    ∙ ap (λ (fs : List Flight). flights ++ fs) (sym (flights_join frame n (length b) (drop n b) more (omega arith)))
    ∙ ap (λ (bs : List SentBurst). flights ++ flights_of frame n bs) (sym split)

-- what was answered since a world is what was answered since another with as many bursts
pub comes_since : (frame : ℕ) (old mid new : FibreWorld) (before after : List Flight) → mid.bursts ≡ old.bursts → Comes frame mid before new after → Comes frame old before new after
comes_since frame old mid new before after same comes =
    comes ∙ ap (λ (bs : List SentBurst). before ++ flights_of frame (length bs) (drop (length bs) new.bursts)) same

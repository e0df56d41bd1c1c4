-- A frame of a run that loses nothing: all units hear what is sent and take what is granted, in their order.
use Rattle.std.proofs.Common.{◌≡◌, ℕ, ◌+◌, List, [], ◌∷◌, ◌++◌, length, map, drop, Option, None, Some, refl, sym, ap, subst, ◌∙◌, arith, append_assoc}
use Rattle.std.specs.Prelude.{slice_get, slice_set}
use Rattle.std.specs.List.{range_with_len}
use Rattle.std.specs.Option.{option_to_list}
use Rattle.std.proofs.lemmas.List.{append-nil, length-append, length-map}
use Rattle.std.proofs.Math.Seq.{set-append_seam, drop-append_seam}
use Rattle.gp_ploam.specs.declared.message.Down.{Down}
use Rattle.gp_ranging.specs.declared.grant.Grant.{Grant}
use Rattle.gp_machine.specs.declared.entry.Entry.{Entry}
use Rattle.gp_machine.specs.declared.event.Event.TheVariants as event
use Rattle.gp_fibre.specs.declared.flight.Flight.{Flight}
use Rattle.gp_fibre.specs.declared.sent_burst.SentBurst.{SentBurst}
use Rattle.gp_fibre.specs.declared.world_step.WorldStep.TheVariants as steps
use Rattle.gp_fibre.specs.World.{FibreUnit, FibreWorld}
use Rattle.gp_fibre.specs.Step.{FibreInput, Whole, PortTakes, unit_hearing, unit_granted, burst_answered, world_after_frame}
use Rattle.gp_fibre.specs.Run.{FibreRun}
use Rattle.gp_fibre.specs.Schedule.{WorldState, FrameRuns, arrivals, flights_of, flights_after, inputs_of_copy, inputs_of_grant}
use Rattle.gp_fibre.proofs.Keeping.{from_kept}
use Rattle.gp_success.proofs.AllUnits.{units_hearing, units_granted, bursts_answered, answers_given}

-- ---- lists

pub at_seam : {T : Type 0} (xs : List T) (y : T) (ys : List T) → slice_get (xs ++ y ∷ ys) (length xs) ≡ Some y
at_seam [] y ys = refl
at_seam (x ∷ xs) y ys = at_seam xs y ys

pub some_is : {T : Type 0} (x y : T) → Some x ≡ Some y → x ≡ y
some_is x y e = cc

-- what a step without an entry leaves of no entries
none_left : (g : Option Entry) (rest : List Entry) → g ≡ None → [] ≡ option_to_list g ++ rest → rest ≡ []
none_left g rest none is = sym (ap (λ (o : Option Entry). option_to_list o ++ rest) none) ∙ sym is

units_as : FibreWorld → List FibreUnit → FibreWorld
units_as a us = record a { units = us }

-- ---- all units hear a copy

pub all_hear : (m : Down) (copy : ℕ) (back front : List FibreUnit) (k : ℕ) (a b : FibreWorld) → k ≡ length front → a.units ≡ front ++ back → slice_get a.copies copy ≡ Some m
    → FibreRun a (map (λ unit. Whole (steps.Deliver copy unit)) (range_with_len k (length back))) [] b
    → b ≡ record a { units = front ++ map (unit_hearing m) back }
all_hear m copy [] front k a b at units there run =
    run.0 ∙ ap (λ (us : List FibreUnit). let x : FibreWorld = record a { units = us } in x) units
all_hear m copy (u ∷ back) front k a b at units there run =
    let mid = run.0 in
    let step = run.3 in
    let rest_is : run.2 ≡ [] = none_left run.1 run.2 step.1 run.5 in
    let kept = from_kept a.forgotten.copies a.copies copy step.0 step.2 in
    let heard : step.0 ≡ m = some_is step.0 m (sym kept.there ∙ there) in
    let changes = step.3.units in
    let who : changes.unit ≡ u =
    some_is changes.unit u (sym changes.there ∙ ap (λ (us : List FibreUnit). slice_get us k) units ∙ ap (λ (n : ℕ). slice_get (front ++ u ∷ back) n) at ∙ at_seam front u back) in
    let now : mid.units ≡ front ++ unit_hearing m u ∷ back =
    changes.after
    ∙ ap (λ (us : List FibreUnit). slice_set us k (unit_hearing step.0 changes.unit)) units
    ∙ ap (λ (n : ℕ). slice_set (front ++ u ∷ back) n (unit_hearing step.0 changes.unit)) at
    ∙ set-append_seam front u back (unit_hearing step.0 changes.unit)
    ∙ ap (λ (x : Down). front ++ unit_hearing x changes.unit ∷ back) heard
    ∙ ap (λ (x : FibreUnit). front ++ unit_hearing m x ∷ back) who in
    let next : FibreWorld = record a { units = front ++ unit_hearing m u ∷ back } in
    let is_next : mid ≡ next = step.3.rest ∙ ap (λ (us : List FibreUnit). let x : FibreWorld = record a { units = us } in x) now in
    let later = subst (λ (w : FibreWorld). FibreRun w (map (λ unit. Whole (steps.Deliver copy unit)) (range_with_len (k + 1) (length back))) [] b) is_next
    (subst (λ (es : List Entry). FibreRun mid (map (λ unit. Whole (steps.Deliver copy unit)) (range_with_len (k + 1) (length back))) es b) rest_is run.4) in
    let front_is : front ++ unit_hearing m u ∷ back ≡ (front ++ unit_hearing m u ∷ []) ++ back = sym (append_assoc front (unit_hearing m u ∷ []) back) in
    let long = length-append front (unit_hearing m u ∷ []) in
    all_hear m copy back (front ++ unit_hearing m u ∷ []) (k + 1) next b (omega arith) front_is there later
    ∙ ap (λ (us : List FibreUnit). let x : FibreWorld = record a { units = us } in x) (append_assoc front (unit_hearing m u ∷ []) (map (unit_hearing m) back))

-- ---- all units take a grant

pub all_answer : (g : Grant) (number : ℕ) (back front : List FibreUnit) (k : ℕ) (a b : FibreWorld) → k ≡ length front → a.units ≡ front ++ back → slice_get a.grants number ≡ Some g
    → FibreRun a (map (λ unit. Whole (steps.Give number unit)) (range_with_len k (length back))) [] b
    → b ≡ record a { units = front ++ map (unit_granted g) back; bursts = a.bursts ++ bursts_answered g back }
all_answer g number [] front k a b at units there run =
    run.0
    ∙ ap (λ (us : List FibreUnit). let x : FibreWorld = record a { units = us } in x) units
    ∙ ap (λ (bs : List SentBurst). let x : FibreWorld = record a { units = front ++ []; bursts = bs } in x) (sym (append-nil a.bursts))
all_answer g number (u ∷ back) front k a b at units there run =
    let mid = run.0 in
    let step = run.3 in
    let rest_is : run.2 ≡ [] = none_left run.1 run.2 step.1 run.5 in
    let kept = from_kept a.forgotten.grants a.grants number step.0 step.2 in
    let issued : step.0 ≡ g = some_is step.0 g (sym kept.there ∙ there) in
    let changes = step.3.units in
    let who : changes.unit ≡ u =
    some_is changes.unit u (sym changes.there ∙ ap (λ (us : List FibreUnit). slice_get us k) units ∙ ap (λ (n : ℕ). slice_get (front ++ u ∷ back) n) at ∙ at_seam front u back) in
    let now : mid.units ≡ front ++ unit_granted g u ∷ back =
    changes.after
    ∙ ap (λ (us : List FibreUnit). slice_set us k (unit_granted step.0 changes.unit)) units
    ∙ ap (λ (n : ℕ). slice_set (front ++ u ∷ back) n (unit_granted step.0 changes.unit)) at
    ∙ set-append_seam front u back (unit_granted step.0 changes.unit)
    ∙ ap (λ (x : Grant). front ++ unit_granted x changes.unit ∷ back) issued
    ∙ ap (λ (x : FibreUnit). front ++ unit_granted g x ∷ back) who in
    let said : mid.bursts ≡ a.bursts ++ option_to_list (burst_answered g u) =
    step.3.answer
    ∙ ap (λ (x : Grant). a.bursts ++ option_to_list (burst_answered x changes.unit)) issued
    ∙ ap (λ (x : FibreUnit). a.bursts ++ option_to_list (burst_answered g x)) who in
    let next : FibreWorld = record a { units = front ++ unit_granted g u ∷ back; bursts = a.bursts ++ option_to_list (burst_answered g u) } in
    let is_next : mid ≡ next =
    step.3.rest
    ∙ ap (λ (us : List FibreUnit). let x : FibreWorld = record a { units = us; bursts = mid.bursts } in x) now
    ∙ ap (λ (bs : List SentBurst). let x : FibreWorld = record a { units = front ++ unit_granted g u ∷ back; bursts = bs } in x) said in
    let later = subst (λ (w : FibreWorld). FibreRun w (map (λ unit. Whole (steps.Give number unit)) (range_with_len (k + 1) (length back))) [] b) is_next
    (subst (λ (es : List Entry). FibreRun mid (map (λ unit. Whole (steps.Give number unit)) (range_with_len (k + 1) (length back))) es b) rest_is run.4) in
    let front_is : front ++ unit_granted g u ∷ back ≡ (front ++ unit_granted g u ∷ []) ++ back = sym (append_assoc front (unit_granted g u ∷ []) back) in
    let long = length-append front (unit_granted g u ∷ []) in
    all_answer g number back (front ++ unit_granted g u ∷ []) (k + 1) next b (omega arith) front_is there later
    ∙ ap (λ (us : List FibreUnit). let x : FibreWorld = record a { units = us; bursts = (a.bursts ++ option_to_list (burst_answered g u)) ++ bursts_answered g back } in x)
    (append_assoc front (unit_granted g u ∷ []) (map (unit_granted g) back))
    ∙ ap (λ (bs : List SentBurst). let x : FibreWorld = record a { units = front ++ unit_granted g u ∷ map (unit_granted g) back; bursts = bs } in x)
    (append_assoc a.bursts (option_to_list (burst_answered g u)) (bursts_answered g back))

-- ---- a run by two lists of inputs that gives no entries

both_none : (xs ys : List Entry) → [] ≡ xs ++ ys → (xs ≡ []) × (ys ≡ [])
both_none [] ys e = (refl, sym e)
both_none (x ∷ xs) ys e = absurd (no e)
  where
    no : [] ≡ x ∷ (xs ++ ys) → ⊥
    no e = cc

pub silent_split : (is more : List FibreInput) (a c : FibreWorld) → FibreRun a (is ++ more) [] c → (b : FibreWorld) × FibreRun a is [] b × FibreRun b more [] c
silent_split [] more a c run = (a, (refl, refl), run)
silent_split (i ∷ is) more a c run =
    let both = both_none (option_to_list run.1) run.2 run.5 in
    let later = silent_split is more run.0 c (subst (λ (es : List Entry). FibreRun run.0 (is ++ more) es c) both.1 run.4) in
    (later.0, (run.0, run.1, [], run.3, later.1, sym (append-nil (option_to_list run.1) ∙ both.0)), later.2)

-- ---- a frame

pub heard_by_all : (o : Option Down) (old a b : FibreWorld) → a.units ≡ old.units → a.copies ≡ old.copies ++ option_to_list o
    → FibreRun a (inputs_of_copy [] (length old.copies) (length old.units) o) [] b → b ≡ record a { units = units_hearing o old.units }
heard_by_all None old a b units copies run = run.0 ∙ ap (λ (us : List FibreUnit). let x : FibreWorld = record a { units = us } in x) units
heard_by_all (Some m) old a b units copies run =
    all_hear m (length old.copies) old.units [] 0 a b refl units (ap (λ (cs : List Down). slice_get cs (length old.copies)) copies ∙ at_seam old.copies m []) run

pub given_to_all : (o : Option Grant) (old : FibreWorld) (us : List FibreUnit) (a b : FibreWorld) → a.units ≡ us → length us ≡ length old.units → a.grants ≡ old.grants ++ option_to_list o
    → FibreRun a (inputs_of_grant (length old.grants) (length old.units) o) [] b → b ≡ record a { units = units_granted o us; bursts = a.bursts ++ answers_given o us }
given_to_all None old us a b units many grants run =
    run.0
    ∙ ap (λ (us : List FibreUnit). let x : FibreWorld = record a { units = us } in x) units
    ∙ ap (λ (bs : List SentBurst). let x : FibreWorld = record a { units = us; bursts = bs } in x) (sym (append-nil a.bursts))
given_to_all (Some g) old us a b units many grants run =
    all_answer g (length old.grants) us [] 0 a b refl units (ap (λ (gs : List Grant). slice_get gs (length old.grants)) grants ∙ at_seam old.grants g [])
    (subst (λ (n : ℕ). FibreRun a (inputs_of_grant (length old.grants) n (Some g)) [] b) (sym many) run)

-- what a frame of a run that loses nothing is made of
pub record FrameParts (old : WorldState) (new : WorldState) : Type 0 where
  pub entry : Entry
  pub more : List Entry
  pub sent : FibreWorld
  pub answered : FibreWorld
  pub arrived : FibreWorld
  pub takes : PortTakes old.fibre event.Frame entry sent
  -- all units hear and are asked
  pub settles : answered
      ≡ record sent {
        units = units_granted entry.answer.grant (units_hearing entry.answer.sent old.fibre.units);
        bursts = old.fibre.bursts ++ answers_given entry.answer.grant (units_hearing entry.answer.sent old.fibre.units);
      }
  -- the bursts that are to come now arrive
  pub arrives : FibreRun answered
      (arrivals [] old.frames
      (old.flights ++ flights_of old.frames (length old.fibre.bursts) (answers_given entry.answer.grant (units_hearing entry.answer.sent old.fibre.units))))
      more arrived
  pub ends : new.fibre ≡ world_after_frame arrived
  pub frames : new.frames ≡ old.frames + 1
  pub licences : new.licences ≡ old.licences
  pub left : new.flights
      ≡ flights_after old.frames
      (old.flights ++ flights_of old.frames (length old.fibre.bursts) (answers_given entry.answer.grant (units_hearing entry.answer.sent old.fibre.units)))

length_hearing : (o : Option Down) (us : List FibreUnit) → length (units_hearing o us) ≡ length us
length_hearing None us = refl
length_hearing (Some m) us = length-map us (unit_hearing m)

pub frame_parts : (old new : WorldState) (entries : List Entry) → FrameRuns [] [] old entries new → FrameParts old new
frame_parts old new entries f =
    let takes = f.port.2 in
    let e = f.port.0 in
    let same : f.entry ≡ e = some_is f.entry e f.port.1 in
    let takes_it : PortTakes old.fibre event.Frame f.entry f.sent = subst (λ (x : Entry). PortTakes old.fibre event.Frame x f.sent) (sym same) takes in
    let a = f.entry.answer in
    let us = units_hearing a.sent old.fibre.units in
    let parts = silent_split (inputs_of_copy [] (length old.fibre.copies) (length old.fibre.units) a.sent) (inputs_of_grant (length old.fibre.grants) (length old.fibre.units) a.grant) f.sent f.answered f.reaches in
    let mid : FibreWorld = record f.sent { units = us } in
    let heard : parts.0 ≡ mid = heard_by_all a.sent old.fibre f.sent parts.0 takes_it.units takes_it.copies parts.1 in
    let asked = given_to_all a.grant old.fibre us mid f.answered refl (length_hearing a.sent old.fibre.units) takes_it.grants
    (subst (λ (w : FibreWorld). FibreRun w (inputs_of_grant (length old.fibre.grants) (length old.fibre.units) a.grant) [] f.answered) heard parts.2) in
    let settles : f.answered ≡ record f.sent { units = units_granted a.grant us; bursts = old.fibre.bursts ++ answers_given a.grant us } =
    asked ∙ ap (λ (bs : List SentBurst). let x : FibreWorld = record f.sent { units = units_granted a.grant us; bursts = bs ++ answers_given a.grant us } in x) takes_it.bursts in
    let new_bursts : drop (length old.fibre.bursts) f.answered.bursts ≡ answers_given a.grant us =
    ap (λ (w : FibreWorld). drop (length old.fibre.bursts) w.bursts) settles ∙ drop-append_seam old.fibre.bursts (answers_given a.grant us) in
    let flights_are : f.flights ≡ old.flights ++ flights_of old.frames (length old.fibre.bursts) (answers_given a.grant us) =
    f.in_flight ∙ ap (λ (bs : List SentBurst). old.flights ++ flights_of old.frames (length old.fibre.bursts) bs) new_bursts in
    record {
      entry = f.entry;
      more = f.more;
      sent = f.sent;
      answered = f.answered;
      arrived = f.arrived;
      takes = takes_it;
      settles = settles;
      arrives = subst (λ (fs : List Flight). FibreRun f.answered (arrivals [] old.frames fs) f.more f.arrived) flights_are f.arrives;
      ends = f.ends;
      frames = f.frames;
      licences = f.licences;
      left = f.left ∙ ap (λ (fs : List Flight). flights_after old.frames fs) flights_are;
    }

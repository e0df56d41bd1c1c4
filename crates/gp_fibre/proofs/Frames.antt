-- The frames of a run, one after the other.
use Rattle.std.proofs.Common.{◌≡◌, ℕ, zero, suc, ◌+◌, List, [], ◌∷◌, ◌++◌, None, Some, refl, sym, ap, subst, ◌∙◌, arith, append_assoc, length}
use Rattle.std.proofs.lemmas.List.{append-nil}
use Rattle.gp_machine.specs.declared.entry.Entry.{Entry}
use Rattle.gp_fibre.specs.Step.{FibreInput, PortPart, UnitsPart}
use Rattle.gp_fibre.specs.Schedule.{WorldState, FrameRuns, FramesRun, arrivals, inputs_of_copy, inputs_of_grant}
use Rattle.gp_fibre.specs.Run.{FibreRun}
use Rattle.gp_fibre.specs.Laws.{FramesAreRuns, FramesRunInParts, FramesRunTwice}
use Rattle.gp_fibre.proofs.Steps.{one_step, runs_in_parts}

-- ---- the frames are a run of the fibre

frame_is_run : (lc lb : List ℕ) (old new : WorldState) (entries : List Entry) → FrameRuns lc lb old entries new → (inputs : List FibreInput) × FibreRun old.fibre inputs entries new.fibre
frame_is_run lc lb old new entries f =
    let first = one_step old.fibre PortPart (Some f.entry) f.sent f.port in
    let reached = inputs_of_copy lc (length old.fibre.copies) (length old.fibre.units) f.entry.answer.sent ++ inputs_of_grant (length old.fibre.grants) (length old.fibre.units) f.entry.answer.grant in
    let arrived = arrivals lb old.frames f.flights in
    let last = one_step f.arrived UnitsPart None new.fibre (refl, f.ends) in
    let asks = runs_in_parts old.fibre f.sent f.answered (PortPart ∷ []) reached (f.entry ∷ []) [] first f.reaches in
    let ends = runs_in_parts f.answered f.arrived new.fibre arrived (UnitsPart ∷ []) f.more [] f.arrives last in
    let all = runs_in_parts old.fibre f.answered new.fibre ((PortPart ∷ []) ++ reached) (arrived ++ UnitsPart ∷ []) ((f.entry ∷ []) ++ []) (f.more ++ []) asks ends in
    let same : ((f.entry ∷ []) ++ []) ++ (f.more ++ []) ≡ entries = ap (λ (es : List Entry). f.entry ∷ es) (append-nil f.more) ∙ sym f.entries_are in (
      ((PortPart ∷ []) ++ reached) ++ (arrived ++ UnitsPart ∷ []),
      subst (λ (es : List Entry). FibreRun old.fibre (((PortPart ∷ []) ++ reached) ++ (arrived ++ UnitsPart ∷ [])) es new.fibre) same all,
    )

pub frames_are_runs : FramesAreRuns
frames_are_runs lc lb zero old new entries run = ([], (ap (λ (w : WorldState). w.fibre) run.0, run.1))
frames_are_runs lc lb (suc count) old new entries run =
    let first = frame_is_run lc lb old run.0 run.1 run.3 in
    let rest = frames_are_runs lc lb count run.0 new run.2 run.4 in (
      first.0 ++ rest.0,
      subst (λ (es : List Entry). FibreRun old.fibre (first.0 ++ rest.0) es new.fibre) (sym run.5)
          (runs_in_parts old.fibre run.0.fibre new.fibre first.0 rest.0 run.1 run.2 first.1 rest.1),
    )

-- ---- some frames, and then others

frames_join : (lc lb : List ℕ) (count more total : ℕ) (a b c : WorldState) (es rest : List Entry) → count + more ≡ total → FramesRun lc lb count a es b → FramesRun lc lb more b rest c
    → FramesRun lc lb total a (es ++ rest) c
frames_join lc lb zero more total a b c es rest is run then =
    let none : es ≡ [] = run.1 in
    let same : more ≡ total = omega arith in
    subst (λ (n : ℕ). FramesRun lc lb n a (es ++ rest) c) same
    (subst (λ (xs : List Entry). FramesRun lc lb more a (xs ++ rest) c) (sym none) (subst (λ (w : WorldState). FramesRun lc lb more w rest c) run.0 then))
frames_join lc lb (suc count) more zero a b c es rest is run then = absurd (omega arith)
frames_join lc lb (suc count) more (suc total) a b c es rest is run then = (
  run.0,
  run.1,
  run.2 ++ rest,
  run.3,
  frames_join lc lb count more total run.0 b c run.2 rest (omega arith) run.4 then,
  ap (λ (xs : List Entry). xs ++ rest) run.5 ∙ append_assoc run.1 run.2 rest,
)

frames_split : (lc lb : List ℕ) (count more total : ℕ) (a c : WorldState) (es : List Entry) → count + more ≡ total → FramesRun lc lb total a es c → FramesRunTwice lc lb count more a es c
frames_split lc lb zero more total a c es is run =
    let same : total ≡ more = omega arith in (a, [], es, (refl, refl), subst (λ (n : ℕ). FramesRun lc lb n a es c) same run, refl)
frames_split lc lb (suc count) more zero a c es is run = absurd (omega arith)
frames_split lc lb (suc count) more (suc total) a c es is run =
    let parts = frames_split lc lb count more total run.0 c run.2 (omega arith) run.4 in (
      parts.0,
      run.1 ++ parts.1,
      parts.2,
      (run.0, run.1, parts.1, run.3, parts.3, refl),
      parts.4,
      run.5 ∙ ap (λ (xs : List Entry). run.1 ++ xs) parts.5 ∙ sym (append_assoc run.1 parts.1 parts.2),
    )

pub frames_in_parts : FramesRunInParts
frames_in_parts lc lb count more a c es = (
  λ run. frames_split lc lb count more (count + more) a c es refl run,
  λ parts. subst (λ (xs : List Entry). FramesRun lc lb (count + more) a xs c) (sym parts.5)
      (frames_join lc lb count more (count + more) a parts.0 c parts.1 parts.2 refl parts.3 parts.4),
)

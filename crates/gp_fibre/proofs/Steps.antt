-- What every step of a fibre keeps, and so every run.
use Rattle.std.proofs.Common.{◌≡◌, ℕ, ◌+◌, List, [], ◌∷◌, ◌++◌, Option, None, Some, refl, sym, ap, subst, ◌∙◌, arith, append_assoc}
use Rattle.std.specs.Prelude.{slice_get, slice_set}
use Rattle.std.specs.Option.{option_to_list}
use Rattle.gp_machine.specs.declared.entry.Entry.{Entry}
use Rattle.gp_machine.specs.declared.event.Event.{Event}
use Rattle.gp_machine.specs.declared.event.Event.TheVariants as event
use Rattle.gp_machine.specs.OneStep as machine
use Rattle.gp_machine.specs.Sound.{IsSound}
use Rattle.gp_machine.specs.State.{PortState, rows_of}
use Rattle.gp_machine.specs.Run.{Run, IsStep, entry_outcome}
use Rattle.gp_onu.specs.Table.{Input, Light, Dark, Hears, Granted}
use Rattle.gp_onu.specs.Told.{IsFrom}
use Rattle.gp_ploam.specs.declared.message.Down.{Down}
use Rattle.gp_ploam.specs.Down.{code_of_down}
use Rattle.gp_ploam.specs.Mask.{mask_value}
use Rattle.gp_ranging.specs.declared.grant.Grant.{Grant}
use Rattle.std.proofs.lemmas.List.{append-nil}
use Rattle.std.proofs.lemmas.Option.{get_or_from_slice_get, slice_get_within}
use Rattle.gp_fibre.specs.declared.sent_burst.SentBurst.{SentBurst}
use Rattle.gp_fibre.specs.declared.world_step.WorldStep.TheVariants as steps
use Rattle.gp_fibre.specs.World.{FibreUnit, FibreWorld}
use Rattle.gp_fibre.specs.Step.{FibreInput, Whole, PortPart, UnitsPart, PortTakes, UnitChanges, FibreStep, unit_taking, burst_answered, world_after_frame}
use Rattle.gp_fibre.specs.Run.{FibreRun}
use Rattle.gp_fibre.specs.Laws.{RunsInParts, PortRuns, KeepsLicences}
use Rattle.gp_fibre.proofs.Keeping.{from_kept}

-- ---- one step

-- the world in which the unit at a place took an input
abbrev pub taken : FibreWorld → ℕ → Input → FibreUnit → FibreWorld
taken w place input u = record w { units = slice_set w.units place (unit_taking input u) }

abbrev pub with_bursts : FibreWorld → List SentBurst → FibreWorld
with_bursts w more = record w { bursts = w.bursts ++ more }

-- what is kept by each change that a step is made of
pub record IsKeptBySteps (P : FibreWorld → Type 0) : Type 0 where
  pub port : (w v : FibreWorld) (event : Event) (entry : Entry) → PortTakes w event entry v → P w → P v
  pub unit : (w : FibreWorld) (place : ℕ) (input : Input) (u : FibreUnit) → slice_get w.units place ≡ Some u → IsFrom w.copies input → P w → P (taken w place input u)
  pub bursts : (w : FibreWorld) (more : List SentBurst) → P w → P (with_bursts w more)
  pub frame : (w : FibreWorld) → P w → P (world_after_frame w)

module _ (P : FibreWorld → Type 0) (keeps : IsKeptBySteps P) where
  is_now : (w v : FibreWorld) → v ≡ w → P w → P v
  is_now w v e h = subst (λ (x : FibreWorld). P x) (sym e) h

  changed : (w v : FibreWorld) (place : ℕ) (input : FibreUnit → Input) → ((u : FibreUnit) → IsFrom w.copies (input u)) → UnitChanges w place (λ u. unit_taking (input u) u) v → P w → P v
  changed w v place input from c h =
      let at = c.units in
      is_now (taken w place (input at.unit) at.unit) v (c.rest ∙ ap (λ (us : List FibreUnit). let x : FibreWorld = record w { units = us } in x) at.after)
      (keeps.unit w place (input at.unit) at.unit at.there (from at.unit) h)

  pub step_keeps : (w : FibreWorld) (i : FibreInput) (g : Option Entry) (v : FibreWorld) → FibreStep w i g v → P w → P v
  step_keeps w (Whole steps.Frame) g v s h = is_now (world_after_frame s.1) v s.4 (keeps.frame s.1 (keeps.port w s.1 event.Frame s.0 s.3 h))
  step_keeps w (Whole (steps.Command c)) g v s h = keeps.port w v (event.Command c) s.0 s.2 h
  step_keeps w (Whole (steps.Deliver copy place)) g v s h =
      let m : Down = s.0 in
      let there : slice_get w.copies copy ≡ Some m = let is = from_kept w.forgotten.copies w.copies copy m s.2 in is.there in
      changed w v place (λ u. Hears (code_of_down m (mask_value u.state.mask)) m)
      (λ u. (copy, slice_get_within w.copies copy m there, get_or_from_slice_get w.copies copy m m there)) s.3 h
  step_keeps w (Whole (steps.Give grant place)) g v s h =
      let asked : Grant = s.0 in
      let at = s.3.units in
      let u = at.unit in
      let given = taken w place (Granted asked u.random) u in
      let answered = option_to_list (burst_answered asked u) in
      let same : v ≡ with_bursts given answered =
      s.3.rest
      ∙ ap (λ (us : List FibreUnit). let x : FibreWorld = record w { units = us; bursts = v.bursts } in x) at.after
      ∙ ap (λ (bs : List SentBurst). let x : FibreWorld = record given { bursts = bs } in x) s.3.answer in
      is_now (with_bursts given answered) v same (keeps.bursts given answered (keeps.unit w place (Granted asked u.random) u at.there tt h))
  step_keeps w (Whole (steps.Arrive burst)) g v s h = let b : SentBurst = s.1 in keeps.port w v (event.Burst b.at b.bytes) s.0 s.4 h
  step_keeps w (Whole (steps.Bytes at bytes)) g v s h = keeps.port w v (event.Burst at bytes) s.0 s.2 h
  step_keeps w (Whole (steps.Light place)) g v s h = changed w v place (λ u. Light) (λ u. tt) s.1 h
  step_keeps w (Whole (steps.Dark place)) g v s h = changed w v place (λ u. Dark) (λ u. tt) s.1 h
  step_keeps w PortPart g v s h = keeps.port w v event.Frame s.0 s.2 h
  step_keeps w UnitsPart g v s h = is_now (world_after_frame w) v s.1 (keeps.frame w h)

  pub run_keeps : (w : FibreWorld) (is : List FibreInput) (es : List Entry) (v : FibreWorld) → FibreRun w is es v → P w → P v
  run_keeps w [] es v r h = is_now w v r.0 h
  run_keeps w (i ∷ is) es v r h = run_keeps r.0 is r.2 v r.4 (step_keeps w i r.1 r.0 r.3 h)

-- ---- runs

pub one_step : (a : FibreWorld) (i : FibreInput) (g : Option Entry) (b : FibreWorld) → FibreStep a i g b → FibreRun a (i ∷ []) (option_to_list g) b
one_step a i g b step = (b, g, [], step, (refl, refl), sym (append-nil (option_to_list g)))

pub runs_in_parts : RunsInParts
runs_in_parts w m v [] more es rest r q =
    let e : es ≡ [] = r.1 in
    subst (λ (xs : List Entry). FibreRun w more (xs ++ rest) v) (sym e) (subst (λ (x : FibreWorld). FibreRun x more rest v) r.0 q)
runs_in_parts w m v (i ∷ is) more es rest r q = (
  r.0,
  r.1,
  r.2 ++ rest,
  r.3,
  runs_in_parts r.0 m v is more r.2 rest r.4 q,
  ap (λ (xs : List Entry). xs ++ rest) r.5 ∙ append_assoc (option_to_list r.1) r.2 rest,
)

-- a step that gives no entry leaves the port as it was, and any other is the step of its entry
data Ported (p q : PortState) (g : Option Entry) : Type 0 where
  still : g ≡ None → q ≡ p → Ported p q g
  moved : (e : Entry) → g ≡ Some e → IsStep p e q → Ported p q g

ported : (w : FibreWorld) (i : FibreInput) (g : Option Entry) (v : FibreWorld) → FibreStep w i g v → Ported w.port v.port g
ported w (Whole steps.Frame) g v s = Ported.moved s.0 s.2 (subst (λ (x : FibreWorld). IsStep w.port s.0 x.port) (sym s.4) s.3.step)
ported w (Whole (steps.Command c)) g v s = Ported.moved s.0 s.1 s.2.step
ported w (Whole (steps.Deliver copy place)) g v s = Ported.still s.1 (ap (λ (x : FibreWorld). x.port) s.3.rest)
ported w (Whole (steps.Give grant place)) g v s = Ported.still s.1 (ap (λ (x : FibreWorld). x.port) s.3.rest)
ported w (Whole (steps.Arrive burst)) g v s = Ported.moved s.0 s.2 s.4.step
ported w (Whole (steps.Bytes at bytes)) g v s = Ported.moved s.0 s.1 s.2.step
ported w (Whole (steps.Light place)) g v s = Ported.still s.0 (ap (λ (x : FibreWorld). x.port) s.1.rest)
ported w (Whole (steps.Dark place)) g v s = Ported.still s.0 (ap (λ (x : FibreWorld). x.port) s.1.rest)
ported w PortPart g v s = Ported.moved s.0 s.1 s.2.step
ported w UnitsPart g v s = Ported.still s.0 (ap (λ (x : FibreWorld). x.port) s.1)

run_on : (p q last : PortState) (g : Option Entry) (es : List Entry) → Ported p q g → Run q es last → Run p (option_to_list g ++ es) last
run_on p q last g es (Ported.still none same) later =
    subst (λ (x : Option Entry). Run p (option_to_list x ++ es) last) (sym none) (subst (λ (x : PortState). Run x es last) same later)
run_on p q last g es (Ported.moved e is_some step) later = subst (λ (x : Option Entry). Run p (option_to_list x ++ es) last) (sym is_some) (q, step, later)

pub port_runs : PortRuns
port_runs w v [] es r =
    let e : es ≡ [] = r.1 in
    subst (λ (xs : List Entry). Run w.port xs v.port) (sym e) (ap (λ (x : FibreWorld). x.port) r.0)
port_runs w v (i ∷ is) es r =
    subst (λ (xs : List Entry). Run w.port xs v.port) (sym r.5) (run_on w.port r.0.port v.port r.1 r.2 (ported w i r.1 r.0 r.3) (port_runs r.0 v is r.2 r.4))

-- ---- licences

-- the port is sound, and all licences are this many
abbrev HasLicences : ℕ → FibreWorld → Type 0
HasLicences n w = IsSound w.port × (w.free + rows_of w.port ≡ n)

keeps_them : machine.KeepsSound → machine.KeepsLicences → (n : ℕ) → IsKeptBySteps (HasLicences n)
keeps_them sound law n =
    record {
      port = λ w v event entry t h.
          let step = law entry.purse_in w.port entry.event (entry_outcome entry v.port) h.0 t.step in
          let free = t.free in
          let all = h.1 in
          (sound entry.purse_in w.port entry.event (entry_outcome entry v.port) h.0 t.step, omega arith);
      unit = λ w place input u there from h. h;
      bursts = λ w more h. h;
      frame = λ w h. h;
    }

pub keeps_licences : machine.KeepsSound → machine.KeepsLicences → KeepsLicences
keeps_licences keeps law w v is es sound r =
    let all = run_keeps (HasLicences (w.free + rows_of w.port)) (keeps_them keeps law (w.free + rows_of w.port)) w is es v r (sound, refl) in all.1

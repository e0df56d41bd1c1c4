-- What holds of a play on a fibre: its port's entries are a run from its opening, and no licence is lost.
use Rattle.std.proofs.Common.{◌≡◌, ℕ, zero, suc, ◌+◌, List, [], ◌∷◌, ◌++◌, refl, sym, ap, subst, ◌∙◌, arith}
use Rattle.std.specs.Prelude.{map, slice_get}
use Rattle.std.specs.FinMap.{len-empty}
use Rattle.std.proofs.lemmas.Option.{same_Some}
use Rattle.gp_ploam.specs.Serials.{serial_cmp}
use Rattle.gp_unit.specs.declared.row.Row.{Row}
use Rattle.gp_machine.specs.declared.config.PortConfig.{PortConfig}
use Rattle.gp_machine.specs.declared.entry.Entry.{Entry}
use Rattle.gp_machine.specs.declared.entry.Receipt.{Receipt}
use Rattle.gp_machine.specs.State.{PortState, opening_of, rows_of}
use Rattle.gp_machine.specs.Run.{Run}
use Rattle.gp_machine.proofs.SoundFrames.{sound_opening}
use Rattle.gp_fibre.specs.declared.world_step.WorldStep.{WorldStep}
use Rattle.gp_fibre.specs.declared.world_step.WorldStep.TheVariants as steps
use Rattle.gp_fibre.specs.Step.{FibreInput, Whole}
use Rattle.gp_fibre.specs.Run.{FibreRun}
use Rattle.gp_fibre.specs.Schedule.{WorldState}
use Rattle.gp_fibre.specs.Laws.{FramesAreRuns, KeepsLicences, PortRuns, RunsInParts}
use Rattle.gp_fibre.proofs.Steps.{one_step}
use Rattle.gp_script.specs.declared.script.ScriptEvent.{ScriptEvent}
use Rattle.gp_script.specs.declared.script.ScriptEvent.TheVariants as events
use Rattle.gp_script.specs.Lose.{LossesView}
use Rattle.gp_script.specs.Script.{ScriptView}
use Rattle.gp_replay.specs.WorldPlay.{TakesStep, WorldPlays, WorldTakes, WorldTakesAll, ends_of_world, licences_of_world, light_step, opening_fibre, receipts_from, receipt_with}
use Rattle.gp_replay.specs.Runs.{IsNumberedFrom, PortsRun, entries_of_port, receipts_of_port}

-- inputs by which a fibre makes a run with these entries
abbrev pub MakesRun : WorldState → List Entry → WorldState → Type 0
MakesRun old entries new = (inputs : List FibreInput) × FibreRun old.fibre inputs entries new.fibre

step_makes : (step : WorldStep) (old new : WorldState) (entries : List Entry) → TakesStep step old entries new → MakesRun old entries new
step_makes step old new entries t =
    (Whole step ∷ [], subst (λ (es : List Entry). FibreRun old.fibre (Whole step ∷ []) es new.fibre) (sym t.2) (one_step old.fibre (Whole step) t.0 new.fibre t.1.made))

event_makes : FramesAreRuns → (losses : LossesView) (event : ScriptEvent) (old new : WorldState) (entries : List Entry) → WorldTakes losses event old entries new → MakesRun old entries new
event_makes frames losses (events.Frames port count) old new entries t = frames losses.copies losses.bursts count old new entries t
event_makes frames losses (events.Burst port at bytes) old new entries t = step_makes (steps.Bytes at bytes) old new entries t
event_makes frames losses (events.Command port command) old new entries t = step_makes (steps.Command command) old new entries t
event_makes frames losses (events.Light unit lit) old new entries t = step_makes (light_step unit lit) old new entries t

events_make : FramesAreRuns → RunsInParts → (losses : LossesView) (all : List ScriptEvent) (old new : WorldState) (entries : List Entry) → WorldTakesAll losses all old entries new → MakesRun old entries new
events_make frames parts losses [] old new entries t = ([], (ap (λ (w : WorldState). w.fibre) t.0, t.1))
events_make frames parts losses (event ∷ more) old new entries t =
    let first = event_makes frames losses event old t.0 t.1 t.3 in
    let rest = events_make frames parts losses more t.0 new t.2 t.4 in (
      first.0 ++ rest.0,
      subst (λ (es : List Entry). FibreRun old.fibre (first.0 ++ rest.0) es new.fibre) (sym t.5) (parts old.fibre t.0.fibre new.fibre first.0 rest.0 t.1 t.2 first.1 rest.1),
    )

-- all receipts are of the one port, with the entries in order, and numbered
all_of_port : (n : ℕ) (entries : List Entry) → receipts_of_port 0 (receipts_from n entries) ≡ receipts_from n entries
all_of_port n [] = refl
all_of_port n (e ∷ es) = ap (λ (rs : List Receipt). receipt_with n e ∷ rs) (all_of_port (n + 1) es)

entries_back : (n : ℕ) (entries : List Entry) → map (λ (r : Receipt). r.entry) (receipts_from n entries) ≡ entries
entries_back n [] = refl
entries_back n (e ∷ es) = ap (λ (l : List Entry). e ∷ l) (entries_back (n + 1) es)

numbered : (n : ℕ) (entries : List Entry) → IsNumberedFrom n (receipts_from n entries)
numbered n [] = tt
numbered n (e ∷ es) = (refl, numbered (n + 1) es)

port_is_run : (config : PortConfig) (entries : List Entry) (end : PortState) → Run (opening_of config) entries end
    → Run (opening_of config) (entries_of_port 0 (receipts_from 0 entries)) end × IsNumberedFrom 0 (receipts_of_port 0 (receipts_from 0 entries))
port_is_run config entries end run =
    let same = all_of_port 0 entries in
    let told : entries_of_port 0 (receipts_from 0 entries) ≡ entries = ap (λ (rs : List Receipt). map (λ r. r.entry) rs) same ∙ entries_back 0 entries in (
      subst (λ (es : List Entry). Run (opening_of config) es end) (sym told) run,
      subst (λ (rs : List Receipt). IsNumberedFrom 0 rs) (sym same) (numbered 0 entries),
    )

pub world_runs : FramesAreRuns → RunsInParts → PortRuns → (script : ScriptView) (receipts : List Receipt) (play : WorldPlays script receipts) → PortsRun script.ports receipts (ends_of_world script receipts play)
world_runs frames parts ports script receipts play = all
  where
    all : PortsRun script.ports receipts (ends_of_world script receipts play)
    all zero config there =
        let made = events_make frames parts script.losses script.events (opening_fibre script play.config) play.end play.entries play.takes in
        let run : Run (opening_of play.config) play.entries play.end.fibre.port = ports (opening_fibre script play.config).fibre play.end.fibre made.0 play.entries made.1 in
        let same : play.config ≡ config = same_Some _ _ (ap (λ (ps : List PortConfig). slice_get ps 0) (sym play.one_port) ∙ there) in
        let told = port_is_run play.config play.entries play.end.fibre.port run in
        let at = subst (λ (rs : List Receipt). Run (opening_of play.config) (entries_of_port 0 rs) play.end.fibre.port × IsNumberedFrom 0 (receipts_of_port 0 rs)) (sym play.receipts_are) told in
        (play.end.fibre.port, refl, subst (λ (c : PortConfig). Run (opening_of c) (entries_of_port 0 receipts) play.end.fibre.port) same at.0, at.1)
    all (suc port) config there =
        let none = ap (λ (ps : List PortConfig). slice_get ps (suc port)) (sym play.one_port) ∙ there in
        cc

pub world_licences : FramesAreRuns → RunsInParts → KeepsLicences → (script : ScriptView) (receipts : List Receipt) (play : WorldPlays script receipts) → licences_of_world script receipts play ≡ script.licences
world_licences frames parts keeps script receipts play =
    let made = events_make frames parts script.losses script.events (opening_fibre script play.config) play.end play.entries play.takes in
    let kept = keeps (opening_fibre script play.config).fibre play.end.fibre made.0 play.entries (sound_opening play.config) made.1 in
    let none : rows_of (opening_of play.config) ≡ 0 = len-empty serial_cmp Row in
    kept ∙ ap (λ (n : ℕ). script.licences + n) none ∙ (let e : script.licences + 0 ≡ script.licences = omega arith in e)

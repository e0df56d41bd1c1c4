-- Events that are taken on a fibre (this profile's own rule).
use Rattle.std.specs.Prelude.{◌≡◌, ℕ, ◌+◌, ◌*◌, ◌<◌, ◌≤◌, ◌^◌, ◌⊎◌, List, [], length}
use Rattle.gp_machine.specs.declared.entry.Entry.{Entry}
use Rattle.gp_machine.specs.declared.entry.Receipt.{Receipt}
use Rattle.gp_onu.specs.Limits.{max_simulated_units}
use Rattle.gp_fibre.specs.declared.loss_plan.LossPlan.{LossPlan}
use Rattle.gp_fibre.specs.declared.losses.Losses.{Losses}
use Rattle.gp_fibre.specs.declared.world_step.WorldStep.{WorldStep}
use Rattle.gp_fibre.specs.declared.world_step.WorldStep.TheVariants as steps
use Rattle.gp_fibre.specs.Schedule.{WorldState, FramesRun}
use Rattle.gp_fibre.specs.Forgetting.{WorldForgets}
use Rattle.gp_fibre.specs.declared.world.TheConstants.{MAX_FRAMES}
use Rattle.gp_script.specs.declared.script.ScriptEvent.{ScriptEvent}
use Rattle.gp_script.specs.declared.script.ScriptEvent.TheVariants as events
use Rattle.gp_script.specs.Lose.{LossesView}
use Rattle.gp_replay.specs.WorldPlay.{IsPrefix, TakesStep, WorldTakesAll, light_step, receipts_from}

-- where a play stands: its fibre, which may have forgotten what can't come any more, and the number of the port's next
-- entry
pub record FibrePlay : Type 0 where
  pub world : WorldState
  pub next : ℕ

-- what is lost by a plan
abbrev pub losses_of : LossPlan → LossesView
losses_of plan = record { copies = plan.copies.items; bursts = plan.bursts.items }

-- what is lost by losses that are looked up in order
abbrev pub lost_by : Losses → LossesView
lost_by losses = record { copies = losses.copies; bursts = losses.bursts }

-- what may happen to a fibre: from the old one to the new one, with these entries
abbrev pub WorldHappening : Type 1
WorldHappening = WorldState → List Entry → WorldState → Type 0

-- this happened to the fibre as it would be if it had forgotten nothing: from each world of which the old one is left,
-- to one of which the new one is left
abbrev pub Remembered : WorldHappening → WorldHappening
Remembered happens old entries new =
    (whole : WorldState) → WorldForgets whole old
    → (after : WorldState) × happens whole entries after × WorldForgets after new

-- this happened to the fibre of a play, and the receipts are those of its entries, numbered on
pub record Numbered
    (happens : WorldHappening) (old : FibrePlay) (receipts : List Receipt) (new : FibrePlay) : Type 0 where
  pub entries : List Entry
  pub happened : Remembered happens old.world entries new.world
  pub next : new.next ≡ old.next + length entries
  pub receipts_are : receipts ≡ receipts_from old.next entries

-- nothing happens
abbrev pub TakesNothing : WorldHappening
TakesNothing old entries new = (new ≡ old) × (entries ≡ [])

-- the step is taken, or nothing happens
abbrev pub MayTakeStep : WorldStep → WorldHappening
MayTakeStep step old entries new = TakesNothing old entries new ⊎ TakesStep step old entries new

-- some of so many frames are made, or all
abbrev pub TakesSomeFrames : LossesView → ℕ → WorldHappening
TakesSomeFrames losses count old entries new =
    (made : ℕ) × (made ≤ count) × FramesRun losses.copies losses.bursts made old entries new

-- an event is taken, or nothing happens, or of its frames some are made
abbrev pub WorldTakesPart : LossesView → ScriptEvent → WorldHappening
WorldTakesPart losses (events.Frames port count) old entries new = TakesSomeFrames losses count old entries new
WorldTakesPart losses (events.Burst port at bytes) old entries new = MayTakeStep (steps.Bytes at bytes) old entries new
WorldTakesPart losses (events.Command port command) old entries new =
    MayTakeStep (steps.Command command) old entries new
WorldTakesPart losses (events.Light unit lit) old entries new = MayTakeStep (light_step unit lit) old entries new

-- a prefix of the events is taken
abbrev pub WorldTakesPrefix : LossesView → List ScriptEvent → WorldHappening
WorldTakesPrefix losses all old entries new =
    (done : List ScriptEvent) × IsPrefix done all × WorldTakesAll losses done old entries new

-- how many entries each frame adds at most: one for the frame, and one for each burst that comes of it; each unit
-- sends two in a frame at most
abbrev pub max_entries_each : ℕ
max_entries_each = 1 + 2 * max_simulated_units

-- there is room for so many more frames and other events: the fibre can count them, and the port can number their
-- entries
pub record HasFibreRoom (count : ℕ) (play : FibrePlay) : Type 0 where
  pub frames : play.world.frames + count ≤ MAX_FRAMES
  pub numbers : play.next + length play.world.flights + max_entries_each * count < 2 ^ 64
  pub few : length play.world.fibre.units ≤ max_simulated_units

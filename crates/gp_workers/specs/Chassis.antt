-- What contracts see of a chassis with threads, and of its workers (this profile's own rule).
use Rattle.std.specs.Prelude.{ℕ, ◌≡◌, ◌≤◌, List}
use Rattle.gp_machine.specs.declared.config.PortConfig.{PortConfig}
use Rattle.gp_machine.specs.declared.event.Event.{Event}
use Rattle.gp_machine.specs.declared.event.Event.TheVariants.{Frame, Burst, Command}
use Rattle.gp_machine.specs.declared.entry.Entry.{Entry}
use Rattle.gp_machine.specs.declared.entry.Receipt.{Receipt}
use Rattle.gp_machine.specs.State.{PortState}
use Rattle.gp_machine.specs.Sound.{IsSound}
use Rattle.gp_machine.specs.Run.{IsStep, IsReached}

-- a chassis with threads: what each port was opened with, and how many licences there are
pub record ChassisState : Type 0 where
  pub configs : List PortConfig
  pub licences : ℕ

-- a worker: its receipts, in order, and for how many more it has room
pub record WorkerState : Type 0 where
  pub receipts : List Receipt
  pub room : ℕ

-- with a burst at most one licence is handed in, and with any other event none
abbrev pub PurseFits : Event → ℕ → Type 0
PurseFits Frame purse = purse ≡ 0
PurseFits (Burst at bytes) purse = purse ≤ 1
PurseFits (Command command) purse = purse ≡ 0

-- the entry is a step of some port
pub record IsSomeStep (entry : Entry) : Type 0 where
  pub stood : PortState
  pub after : PortState
  -- the port was opened once, and has made steps alone since then
  pub reached : IsReached stood.config stood
  pub sound : IsSound stood
  pub step : IsStep stood entry after

-- When entries tell how a port came to stand where it stands (this profile's own rule).
use Rattle.std.specs.Prelude.{◌≡◌, true, List, Option, None, Some}
use Rattle.gp_machine.specs.declared.config.PortConfig.{PortConfig}
use Rattle.gp_machine.specs.declared.entry.Entry.{Entry}
use Rattle.gp_machine.specs.Config.{is_within_limits}
use Rattle.gp_machine.specs.State.{PortState, opening_of}
use Rattle.gp_machine.specs.Run.{Run}

-- the state before the first entry: the base, or with none that of a port that was just opened
abbrev pub start_of : PortConfig → Option PortState → PortState
start_of config None = opening_of config
start_of config (Some base) = base

-- the configuration is within its limits and is that of the state before the first entry, and the entries are a run
-- from that state to the last
pub record Replays
    (config : PortConfig) (base : Option PortState) (entries : List Entry) (last : PortState) : Type 0 where
  pub within : is_within_limits config ≡ true
  pub configured : (start_of config base).config ≡ config
  pub run : Run (start_of config base) entries last

-- the entries are a run from the first state to the last, and to no other
pub record LeadsTo (first : PortState) (entries : List Entry) (last : PortState) : Type 0 where
  pub run : Run first entries last
  pub alone : (other : PortState) → Run first entries other → other ≡ last

-- What the parts of a port stand for (this profile's own rule).
use Rattle.std.specs.Prelude.{◌≡◌, ℕ, ◌&&◌, Bool, true, List, length, Option, Some, is_none, All, Contains}
use Rattle.std.specs.FinMap.{get}
use Rattle.gp_ploam.specs.OnuIds.{onu_ids}
use Rattle.gp_ploam.specs.declared.message.Down.{Down}
use Rattle.std.specs.FinSet.{contains, from_list}
use Rattle.gp_ploam.specs.declared.message.Serial.{Serial}
use Rattle.gp_unit.specs.declared.row.Row.{Row}
use Rattle.gp_ploam.specs.Down.{IsProperDown}
use Rattle.gp_volley.specs.Copies.{first_of}
use Rattle.gp_ranging.specs.Window.{WindowState}
use Rattle.gp_common.specs.declared.common.Common.{Common}
use Rattle.gp_table.specs.Active.{ActiveState}
use Rattle.gp_machine.specs.declared.config.PortConfig.{PortConfig}
use Rattle.gp_machine.specs.Config.{is_within_limits}
use Rattle.gp_machine.specs.State.{PortState, IsLeastRanging, IsNextPoll, rows_of}
use Rattle.gp_machine.specs.Sound.{IsSound}

-- the state of a port, part by part
abbrev pub state_with : PortConfig → ActiveState → Common → Bool → ℕ → Option WindowState → List Down → Option ℕ
    → PortState
state_with config units common wanted timer window owed polled =
    record {
      config = config;
      rows = units.rows;
      disabled = units.disabled;
      common = common;
      wanted = wanted;
      timer = timer;
      window = window;
      owed = owed;
      polled = polled;
      cooling = units.cooling;
    }

-- the unit table is that of this configuration
pub record IsConfigured (config : PortConfig) (units : ActiveState) : Type 0 where
  pub admitted : units.admitted ≡ from_list config.admitted
  pub max_units : units.max_units ≡ config.max_units
  pub alloc_last : units.alloc_last ≡ config.alloc_last
  pub quarantine : units.quarantine ≡ config.quarantine

-- what is true of the parts of each port: the unit table is that of its configuration, and each copy that is owed has
-- a code
pub record IsAssembled (config : PortConfig) (units : ActiveState) (owed : List Down) : Type 0 where
  pub configured : IsConfigured config units
  pub proper : All IsProperDown owed

-- what is true of each port with these licences: its configuration is within the limits, it is sound, and it holds
-- one licence for each active unit
pub record IsKept (port : PortState) (held : ℕ) : Type 0 where
  pub limits : is_within_limits port.config ≡ true
  pub sound : IsSound port
  pub licences : held ≡ rows_of port

-- each active unit and each disabled serial number is one of these, and each ONU-ID has its count of cooling frames
pub record AreListed (admitted : List Serial) (units : ActiveState) : Type 0 where
  pub active : (serial : Serial) (row : Row) → get units.rows serial ≡ Some row → Contains admitted serial
  pub disabled : (serial : Serial) → contains units.disabled serial ≡ true → Contains admitted serial
  pub counted : length units.cooling ≡ onu_ids

-- both have the same units, disabled serial numbers and cooling ONU-IDs
pub record KnowSameUnits (units other : ActiveState) : Type 0 where
  pub rows : units.rows ≡ other.rows
  pub disabled : units.disabled ≡ other.disabled
  pub cooling : units.cooling ≡ other.cooling

-- what is true of each port that follows a history or is kept as an image: its configuration is within the limits,
-- and it is sound
pub record IsSteady (port : PortState) : Type 0 where
  pub limits : is_within_limits port.config ≡ true
  pub sound : IsSound port

-- a frame of this port decides: no window is open, and nothing is owed
abbrev pub decides : PortState → Bool
decides port = is_none port.window && is_none (first_of port.owed)

-- where a frame of this port decides, these are the least ranging unit and the one that is polled next
abbrev pub AreCandidates : PortState → Option ℕ × Option ℕ → Type 0
AreCandidates port found =
    decides port ≡ true → IsLeastRanging port.rows found.0 × IsNextPoll port.rows port.polled found.1

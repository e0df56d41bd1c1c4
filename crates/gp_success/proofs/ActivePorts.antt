-- A port while it activates units: none is disabled, none is polled.
use Rattle.std.specs.Prelude.{ℕ, ◌-◌, Bool, List, map, Option, None}
use Rattle.std.specs.FinSet as finset
use Rattle.gp_ploam.specs.declared.message.Down.{Down}
use Rattle.gp_ranging.specs.declared.grant.Grant.{Grant}
use Rattle.gp_ranging.specs.Window.{WindowState}
use Rattle.gp_common.specs.declared.common.Common.{Common}
use Rattle.gp_machine.specs.declared.config.PortConfig.{PortConfig}
use Rattle.gp_machine.specs.State.{PortState, Rows}

-- the port, by what changes while it activates units
abbrev pub port_at
    : PortConfig → Rows → Common → Bool → ℕ → Option WindowState → List Down → List ℕ → PortState
port_at config rows common wanted timer window owed cooling =
    record {
      config = config;
      rows = rows;
      disabled = finset.empty;
      common = common;
      wanted = wanted;
      timer = timer;
      window = window;
      owed = owed;
      polled = None;
      cooling = cooling;
    }

-- each cooling ONU-ID has a frame less
abbrev pub cooled : List ℕ → List ℕ
cooled cooling = map (λ left. left - 1) cooling

-- an open window
abbrev pub window_of : Grant → ℕ → Bool → WindowState
window_of grant left seen = record { grant = grant; left = left; seen = seen }

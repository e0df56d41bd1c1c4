-- A fibre: one port, and the simulated units that it reaches (this profile's own rule).
use Rattle.std.specs.Prelude.{ℕ, nat_le, nat_lt, Bool, false, ◌&&◌, if◌then◌else◌, List, [], length, map, Option, None, slice_get}
use Rattle.std.specs.List.{list_all}
use Rattle.std.specs.Option.{option_map}
use Rattle.gp_licence.specs.Limits.{max_licences}
use Rattle.gp_ploam.specs.declared.message.Down.{Down}
use Rattle.gp_ploam.specs.declared.check.Mask.{Mask}
use Rattle.gp_ranging.specs.declared.grant.Grant.{Grant}
use Rattle.gp_machine.specs.declared.config.PortConfig.{PortConfig}
use Rattle.gp_machine.specs.Config.{is_within_limits}
use Rattle.gp_machine.specs.State.{PortState, opening_of}
use Rattle.gp_onu.specs.Limits.{max_delay, max_random_delay, max_simulated_units}
use Rattle.gp_onu.specs.declared.stage.Stage.TheVariants.{Initial}
use Rattle.gp_onu.specs.declared.status.UnitStatus.{UnitStatus}
use Rattle.gp_onu.specs.Status.{status_of}
use Rattle.gp_onu.specs.Table.{UnitState, Light, unit_after}
use Rattle.gp_fibre.specs.declared.unit_plan.UnitPlan.{UnitPlan}
use Rattle.gp_fibre.specs.declared.sent_burst.SentBurst.{SentBurst}

-- a unit on the fibre: what it is by the unit table, its whole round-trip delay in bit times, and its random delay
pub record FibreUnit : Type 0 where
  pub state : UnitState
  pub delay : ℕ
  pub random : ℕ

-- what the unit at a place is, if there is one
abbrev pub status_at : List FibreUnit → ℕ → Option UnitStatus
status_at units place = option_map (λ (unit : FibreUnit). status_of unit.state) (slice_get units place)

-- how many of the copies, grants and bursts were forgotten, from number 0 on: nobody can ask for these any more
pub record Forgotten : Type 0 where
  pub copies : ℕ
  pub grants : ℕ
  pub bursts : ℕ

abbrev pub nothing_forgotten : Forgotten
nothing_forgotten = record { copies = 0; grants = 0; bursts = 0 }

-- the item with this number, if there is one and it is none of the first ones, which were forgotten
abbrev pub kept_at : {T : Type 0} → ℕ → List T → ℕ → Option T
kept_at forgotten items number = if nat_lt number forgotten then None else slice_get items number

-- there is an item with this number, and it was not forgotten
abbrev pub is_kept : {T : Type 0} → ℕ → List T → ℕ → Bool
is_kept forgotten items number = nat_le forgotten number && nat_lt number (length items)

-- the port, the licences that nobody holds, the units by their places, all copies, grants and bursts that were sent,
-- by their numbers, and which of these were forgotten
pub record FibreWorld : Type 0 where
  pub port : PortState
  pub free : ℕ
  pub units : List FibreUnit
  pub copies : List Down
  pub grants : List Grant
  pub bursts : List SentBurst
  pub forgotten : Forgotten

-- a unit as a world begins with it: new, and then lit
abbrev pub planned_unit : Mask → UnitPlan → FibreUnit
planned_unit mask plan =
    record {
      state = unit_after (record { serial = plan.serial; mask = mask; lit = false; stage = Initial }) Light;
      delay = plan.delay;
      random = plan.random;
    }

-- a world that has just begun: its port was just opened, all licences are free, and nothing was sent
abbrev pub opening_world : PortConfig → ℕ → List UnitPlan → FibreWorld
opening_world config licences plans =
    record {
      port = opening_of config;
      free = licences;
      units = map (planned_unit config.mask) plans;
      copies = [];
      grants = [];
      bursts = [];
      forgotten = nothing_forgotten;
    }

-- a round trip of at most four frames, and a random delay of twelve bits
abbrev pub is_plan_within_limits : UnitPlan → Bool
is_plan_within_limits plan = nat_le plan.delay max_delay && nat_le plan.random max_random_delay

-- all numbers that a world begins with are in their ranges
abbrev pub is_world_within_limits : PortConfig → ℕ → List UnitPlan → Bool
is_world_within_limits config licences plans =
    is_within_limits config && nat_le licences max_licences && nat_le (length plans) max_simulated_units
    && list_all is_plan_within_limits plans

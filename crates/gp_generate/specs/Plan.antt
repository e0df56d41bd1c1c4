-- Which scripts are generated (this profile's own rule).
use Rattle.std.specs.Prelude.{ℕ, ◌≡◌, ◌+◌, ◌%◌, ◌≤◌, ◌<◌, ◌==◌, ◌&&◌, ◌||◌, if◌then◌else◌, Option, None, Some, nat_lt, min, unwrap_or}
use Rattle.gp_ploam.specs.declared.check.Mask.{Mask}
use Rattle.gp_ploam.specs.declared.check.Mask.TheVariants as masks
use Rattle.gp_machine.specs.Config.{max_ports}
use Rattle.gp_generate.specs.declared.plan.Asked.{Asked}
use Rattle.gp_generate.specs.declared.plan.Wish.{Wish}
use Rattle.gp_generate.specs.declared.plan.PlanFault.{PlanFault}
use Rattle.gp_generate.specs.declared.plan.PlanFault.TheVariants.{Ports, Units, UnitsBesidePorts, Events, Mistakes}

-- what is asked for, with the defaults
abbrev pub wish_of : Asked → Wish
wish_of asked =
    let units = unwrap_or asked.units 0 in
    record {
      seed = unwrap_or asked.seed 0;
      ports = unwrap_or asked.ports (if units == 0 then 2 else 1);
      units = units;
      events = unwrap_or asked.events 200;
      mistakes = unwrap_or asked.mistakes 0;
    }

-- there is such a script
pub record IsPlan (wish : Wish) : Type 0 where
  pub some_ports : 1 ≤ wish.ports
  pub few_ports : wish.ports ≤ max_ports
  pub few_units : wish.units ≤ 1024
  -- units stand beside one port
  pub alone : 0 < wish.units → wish.ports ≡ 1
  pub few_events : wish.events ≤ 10000
  pub few_mistakes : wish.mistakes ≤ 100
  pub room : wish.mistakes ≤ wish.events

-- why there is none
abbrev pub fault_of : Wish → Option PlanFault
fault_of wish =
    if (wish.ports == 0) || nat_lt max_ports wish.ports then Some Ports
    else if nat_lt 1024 wish.units then Some Units
    else if nat_lt 0 wish.units && nat_lt 1 wish.ports then Some UnitsBesidePorts
    else if nat_lt 10000 wish.events then Some Events
    else if nat_lt 100 wish.mistakes || nat_lt wish.events wish.mistakes then Some Mistakes
    else None

-- how many units bursts and commands are about
abbrev pub cast_units : Wish → ℕ
cast_units plan = if plan.units == 0 then 3 else plan.units

-- how many of them are admitted
abbrev pub admitted : Wish → ℕ
admitted plan = min (cast_units plan) 400

-- the mask of the script
abbrev pub mask_of : Wish → Mask
mask_of plan = if plan.seed % 4 == 3 then masks.Coset else masks.Plain

-- how many search windows a search of a port has
abbrev pub cycles_of : Wish → ℕ → ℕ
cycles_of plan port = (plan.seed % 3 + port) % 3 + 1

-- What is counted of a unit, and what each thing that happens to it changes (this profile's own rule).
use Rattle.std.specs.Prelude.{ℕ, ◌+◌, ◌-◌, ◌^◌, min, Option, None, Some}
use Rattle.std.specs.Option.{unwrap_or}
use Rattle.gp_census.specs.declared.sighting.Sighting.{Sighting}
use Rattle.gp_census.specs.declared.sighting.PortCounts.{PortCounts}
use Rattle.gp_census.specs.declared.sighting.UnitEvent.{UnitEvent}
use Rattle.gp_census.specs.declared.sighting.UnitEvent.TheVariants.{Asks, IsAssigned, IsRanged, IsRenumbered, Loses, Answers}

-- one more, as far as 64 bits go
abbrev pub one_more : ℕ → ℕ
one_more count = min (count + 1) (2 ^ 64 - 1)

-- nothing was counted of a unit
abbrev pub no_sighting : Sighting
no_sighting =
    record {
      asked = 0;
      assigned = 0;
      ranged = 0;
      lost = 0;
      answers = 0;
      heard_last = None;
      first_asked = None;
      took = None;
    }

-- nor of a port
abbrev pub no_counts : PortCounts
no_counts = record { messages = 0; up = 0; grants = 0; garbled_down = 0; garbled_up = 0 }

-- how long it took from its first ask to its first equalization delay, where it gets one at this time
abbrev pub took_until : Option ℕ → Option ℕ → ℕ → Option ℕ
took_until first (Some took) time = Some took
took_until None None time = None
took_until (Some first) None time = Some (time - first)

-- what is counted of a unit after this happened to it: its first ask and what it took are those since it last held no
-- ONU-ID
abbrev pub sighting_after : UnitEvent → Sighting → Sighting
sighting_after (Asks time) unit =
    record unit {
      asked = one_more unit.asked;
      heard_last = Some time;
      first_asked = Some (unwrap_or unit.first_asked time);
    }
sighting_after IsAssigned unit = record unit { assigned = one_more unit.assigned }
sighting_after (IsRanged time) unit =
    record unit { ranged = one_more unit.ranged; took = took_until unit.first_asked unit.took time }
sighting_after IsRenumbered unit = record unit { lost = one_more unit.lost }
sighting_after Loses unit = record unit { lost = one_more unit.lost; first_asked = None; took = None }
sighting_after (Answers time) unit = record unit { answers = one_more unit.answers; heard_last = Some time }

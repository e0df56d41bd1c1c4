-- What is known of one port (this profile's own rule).
use Rattle.std.specs.Prelude.{ℕ, ◌+◌, ◌-◌, ◌==◌, ◌^◌, Bool, true, false, List, slice_index_or, min}
use Rattle.gp_observer.specs.Watch.{Watch, watch_begun}
use Rattle.gp_census.specs.Census.{Census, census_begun}
use Rattle.gp_audit.specs.declared.judged.Judged.{Judged}
use Rattle.gp_audit.specs.Judging.{nothing_judged}

pub record PortState : Type 0 where
  -- what the messages on its fibre told
  pub watch : Watch
  -- its time in nanoseconds
  pub time : ℕ
  -- it was told that a serial number can't be followed
  pub full : Bool
  -- how many messages, garbled codes and grants were heard, as far as 64 bits go
  pub heard : ℕ
  -- what was judged of what was heard
  pub judged : Judged
  -- what was counted of its units
  pub census : Census

-- before anything was heard
abbrev pub port_begun : Bool → PortState
port_begun midway =
    record {
      watch = watch_begun midway;
      time = 0;
      full = false;
      heard = 0;
      judged = nothing_judged;
      census = census_begun;
    }

-- what is known of one of several ports
abbrev pub port_of : List PortState → ℕ → PortState
port_of ports port = slice_index_or ports port (port_begun false)

-- nothing was heard
abbrev pub is_silent : PortState → Bool
is_silent port = port.heard == 0

-- one more, as far as 64 bits go
abbrev pub one_more : ℕ → ℕ
one_more count = min (count + 1) (2 ^ 64 - 1)

-- a frame has 125 microseconds
abbrev pub frame_time : ℕ
frame_time = 125000

-- the port's time behind an event: a frame is one more, and 64 bits hold it
abbrev pub time_after : Bool → ℕ → ℕ
time_after false time = time
time_after true time = min (time + frame_time) (2 ^ 64 - 1)

-- The time of each port by the lines that tell of it, in nanoseconds, how many lines have a time before that of their
-- port, and where all of them are before the first frame that is wanted, or all of them behind the last (this profile's
-- own rule).
use Rattle.std.specs.Prelude.{ℕ, ◌+◌, ◌-◌, ◌*◌, ◌/◌, ◌^◌, Bool, true, false, if◌then◌else◌, nat_lt, min, max, List, Option, None, Some, replicate, slice_index_or, slice_set}
use Rattle.std.specs.List.{fold}
use Rattle.gp_machine.specs.Config.{max_ports}
use Rattle.gp_log.specs.declared.line.LogLine.{LogLine}
use Rattle.gp_log.specs.declared.line.LogLine.TheVariants as line
use Rattle.gp_log.specs.Time.{frame_time}
use Rattle.gp_times.specs.declared.frames.Frames.{Frames}
use Rattle.gp_times.specs.declared.frames.Outside.{Outside}
use Rattle.gp_times.specs.declared.frames.Outside.TheVariants.{Before, Behind}
use Rattle.gp_times.specs.declared.times.PortTime.{PortTime}

-- how many frames there were by a time
abbrev pub frame_of : ℕ → ℕ
frame_of time = time / frame_time

-- what 64 bits hold of a time
abbrev pub held_time : ℕ → ℕ
held_time time = min time (2 ^ 64 - 1)

-- when the first of the wanted frames begins
abbrev pub begin_of : Frames → ℕ
begin_of frames = held_time (frames.from * frame_time)

-- before a line told of a port
abbrev pub untold : PortTime
untold = record { time = 0; first = None }

-- a line tells of the port at this time
abbrev pub told_first : ℕ → Option ℕ → ℕ
told_first frame None = frame
told_first frame (Some first) = first

abbrev pub told_at : ℕ → PortTime → PortTime
told_at time port = record { time = time; first = Some (told_first (frame_of time) port.first) }

-- so does a line of a log, whose time may be an earlier one
abbrev pub logged : ℕ → PortTime → PortTime
logged time port = told_at (max port.time time) port

-- and a line of a trace, with which a frame begins, or doesn't
abbrev pub traced : Bool → PortTime → PortTime
traced false port = told_at port.time port
traced true port = told_at (held_time (port.time + frame_time)) port

-- of each port, and how many lines fell: their time was before that of their port
pub record TimesState : Type 0 where
  pub ports : List PortTime
  pub fallen : ℕ

abbrev pub times_begun : TimesState
times_begun = record { ports = replicate max_ports untold; fallen = 0 }

abbrev pub time_of : TimesState → ℕ → PortTime
time_of times port = slice_index_or times.ports port untold

abbrev pub ports_with : TimesState → ℕ → PortTime → List PortTime
ports_with times port time = slice_set times.ports port time

-- behind a line
abbrev pub ports_after : LogLine → TimesState → List PortTime
ports_after line.Remark times = times.ports
ports_after (line.Log port time said) times = ports_with times port (logged time (time_of times port))
ports_after (line.Trace port is_frame first second) times =
    ports_with times port (traced is_frame (time_of times port))

-- whether the time of a line is before that of its port
abbrev pub falls : LogLine → TimesState → Bool
falls line.Remark times = false
falls (line.Log port time said) times = nat_lt time (time_of times port).time
falls (line.Trace port is_frame first second) times = false

-- one line more fell, or didn't; 64 bits hold how many did
abbrev pub fallen_with : Bool → ℕ → ℕ
fallen_with false fallen = fallen
fallen_with true fallen = min (fallen + 1) (2 ^ 64 - 1)

-- how many fell, behind a line
abbrev pub fallen_after : LogLine → TimesState → ℕ
fallen_after line times = fallen_with (falls line times) times.fallen

abbrev pub times_after : LogLine → TimesState → TimesState
times_after line times = record { ports = ports_after line times; fallen = fallen_after line times }

-- the earlier one of two frames, where there are two
abbrev pub earlier : Option ℕ → Option ℕ → Option ℕ
earlier None other = other
earlier (Some one) None = Some one
earlier (Some one) (Some other) = Some (min one other)

-- the first frame of which a line told, if one did of any port, and the last frame of any
abbrev pub first_told : TimesState → Option ℕ
first_told times = fold (λ first (port : PortTime). earlier first port.first) None times.ports

abbrev pub last_told : TimesState → ℕ
last_told times = fold (λ last (port : PortTime). max last (frame_of port.time)) 0 times.ports

-- where all that was heard is, if all of it is before the first of the wanted frames, or all of it behind the last
abbrev pub outside_by : Frames → Option ℕ → ℕ → Option Outside
outside_by frames None last = None
outside_by frames (Some first) last =
    if nat_lt last frames.from then Some (Before last)
    else (if nat_lt frames.to first then Some (Behind first) else None)

abbrev pub outside_of : Frames → TimesState → Option Outside
outside_of frames times = outside_by frames (first_told times) (last_told times)

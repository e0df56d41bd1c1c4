-- What stands on a port for a frame, or while a window is open (this profile's own rule).
use Rattle.std.specs.Prelude.{ℕ, ◌+◌, Option, None, Some, if◌then◌else◌, nat_lt, min}
use Rattle.gp_waves.specs.declared.pulses.Pulse.{Pulse}
use Rattle.gp_waves.specs.declared.pulses.Pulse.TheVariants as pulse
use Rattle.gp_waves.specs.declared.pulses.Pulses.{Pulses}

-- nothing stands
abbrev pub no_pulses : Pulses
no_pulses = record { sent = None; grant = None; window = None; burst = None; alarm = None }

-- when one ends, if it stands
abbrev pub end_of : Pulses → Pulse → Option ℕ
end_of pulses pulse.Sent = pulses.sent
end_of pulses pulse.Grant = pulses.grant
end_of pulses pulse.Window = pulses.window
end_of pulses pulse.Burst = pulses.burst
end_of pulses pulse.Alarm = pulses.alarm

abbrev pub with_end : Pulse → Option ℕ → Pulses → Pulses
with_end pulse.Sent end pulses = record pulses { sent = end }
with_end pulse.Grant end pulses = record pulses { grant = end }
with_end pulse.Window end pulses = record pulses { window = end }
with_end pulse.Burst end pulses = record pulses { burst = end }
with_end pulse.Alarm end pulses = record pulses { alarm = end }

-- how long one stands: a window for three frames, any other for one
abbrev pub length_of : Pulse → ℕ
length_of pulse.Window = 375000
length_of pulse.Sent = 125000
length_of pulse.Grant = 125000
length_of pulse.Burst = 125000
length_of pulse.Alarm = 125000

-- one begins at this time
abbrev pub pulse_begun : Pulse → ℕ → Pulses → Pulses
pulse_begun pulse time pulses = with_end pulse (Some (min (time + length_of pulse) 18446744073709551615)) pulses

abbrev pub sooner_end : ℕ → Option ℕ → Option ℕ
sooner_end last None = None
sooner_end last (Some end) = Some (min end last)

-- a window that is open at this time ends a frame later, unless it ends before that
abbrev pub window_shortened : ℕ → Pulses → Pulses
window_shortened time pulses =
    record pulses { window = sooner_end (min (time + 125000) 18446744073709551615) pulses.window }

-- one, and when it ends
abbrev pub Ending : Type 0
Ending = Option (Pulse × ℕ)

-- when the first of some ends, or the time by which they have to
abbrev pub limit_of : Ending → ℕ → ℕ
limit_of None time = time
limit_of (Some (pulse, end)) time = end

abbrev pub sooner_of : Ending → Pulse → ℕ → Option ℕ → Ending
sooner_of first pulse limit None = first
sooner_of first pulse limit (Some end) = if nat_lt end limit then Some (pulse, end) else first

-- the first of some, or this one, if it ends before it and before this time
abbrev pub sooner : Pulses → Ending → Pulse → ℕ → Ending
sooner pulses first pulse time = sooner_of first pulse (limit_of first time) (end_of pulses pulse)

-- the one that ends first, if it does so before this time
abbrev pub first_past : Pulses → ℕ → Ending
first_past pulses time =
    sooner pulses
    (sooner pulses
    (sooner pulses (sooner pulses (sooner pulses None pulse.Sent time) pulse.Grant time) pulse.Window time) pulse.Burst
    time) pulse.Alarm time

abbrev pub left_behind : Ending → Pulses → Pulses
left_behind None pulses = pulses
left_behind (Some (pulse, end)) pulses = with_end pulse None pulses

-- How many simulated units there may be, how late each may answer, and how long a frame is (the frame is G.984.3's,
-- clause 8, the random delay its clause 9; the rest is this profile's own rule).
use Rattle.std.specs.Prelude.{ℕ}

-- the bit times of a frame of 125 microseconds upstream, at 1.24416 Gbit/s
abbrev pub frame_bit_times : ℕ
frame_bit_times = 155520

-- the longest whole round-trip delay, in bit times: four frames
abbrev pub max_delay : ℕ
max_delay = 622080

-- the greatest random delay, in units of 32 bytes: twelve bits
abbrev pub max_random_delay : ℕ
max_random_delay = 4095

-- the most simulated units on one fibre
abbrev pub max_simulated_units : ℕ
max_simulated_units = 1024

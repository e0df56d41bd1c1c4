-- A time in a line of a log, in nanoseconds (this profile's own rule).
use Rattle.std.specs.Prelude.{ℕ, ◌+◌, ◌-◌, ◌*◌, ◌^◌, ◌==◌, ◌||◌, Bool, not, List, [], ◌∷◌, length, take, drop, Option, None, Some, Result, Ok, Err, if◌then◌else◌, codes, nat_lt}
use Rattle.std.specs.Char.{is_ascii_digit}
use Rattle.std.specs.List.{list_all}
use Rattle.std.specs.Str.{bytes_eq}
use Rattle.gp_log.specs.declared.fault.LogFault.{LogFault}
use Rattle.gp_log.specs.declared.fault.LogFault.TheVariants as fault
use Rattle.gp_log.specs.declared.time.TimeUnit.{TimeUnit}
use Rattle.gp_log.specs.declared.time.TimeUnit.TheVariants.{Frames, Nanoseconds, Microseconds, Milliseconds, Seconds}
use Rattle.gp_log.specs.Fields.{◌>>=◌, before, «from», is_nothing, number_in}

-- a frame lasts 125 microseconds (G.984.3, clause 8)
abbrev pub frame_time : ℕ
frame_time = 125000

-- how many nanoseconds a unit has
abbrev pub nanoseconds_of : TimeUnit → ℕ
nanoseconds_of Frames = frame_time
nanoseconds_of Nanoseconds = 1
nanoseconds_of Microseconds = 1000
nanoseconds_of Milliseconds = 1000000
nanoseconds_of Seconds = 1000000000

-- how many decimals behind the point count: the last is that of nanoseconds
abbrev pub decimals_of : TimeUnit → ℕ
decimals_of Frames = 0
decimals_of Nanoseconds = 0
decimals_of Microseconds = 3
decimals_of Milliseconds = 6
decimals_of Seconds = 9

-- `us`, or the same with the sign U+00B5 or U+03BC
abbrev pub is_microseconds : List ℕ → Bool
is_microseconds text =
    bytes_eq text (codes "us") || bytes_eq text (194 ∷ 181 ∷ 115 ∷ []) || bytes_eq text (206 ∷ 188 ∷ 115 ∷ [])

-- a number without a unit is one of frames
unfoldable pub unit_of : List ℕ → Option TimeUnit
unit_of text =
    if bytes_eq text (codes "") then Some Frames
    else if bytes_eq text (codes "ns") then Some Nanoseconds
    else if is_microseconds text then Some Microseconds
    else if bytes_eq text (codes "ms") then Some Milliseconds
    else if bytes_eq text (codes "s") then Some Seconds
    else None

abbrev pub is_point : ℕ → Bool
is_point octet = octet == 46

-- a unit begins with the first octet that is neither a digit nor the point
abbrev pub is_of_unit : ℕ → Bool
is_of_unit octet = not (is_ascii_digit octet || is_point octet)

-- the nanoseconds of so many decimals at most
unfoldable pub decimals_in : ℕ → List ℕ → Result ℕ LogFault
decimals_in decimals digits = do
  number ← number_in fault.Time 999999999 digits
  Ok (number * 10 ^ (decimals - length digits))

-- decimals, of which so many count: what is finer than a nanosecond is cut off
abbrev pub counted_in : ℕ → List ℕ → Result ℕ LogFault
counted_in decimals digits =
    if list_all is_ascii_digit (drop decimals digits) then decimals_in decimals (take decimals digits) else Err fault.Time

-- decimals of nanoseconds, none of which counts
abbrev pub uncounted_in : List ℕ → Result ℕ LogFault
uncounted_in digits = if is_nothing digits || not (list_all is_ascii_digit digits) then Err fault.Time else Ok 0

-- the decimals behind a point. Frames are whole
abbrev pub decimals_behind : TimeUnit → List ℕ → Result ℕ LogFault
decimals_behind Frames digits = Err fault.Time
decimals_behind Nanoseconds digits = uncounted_in digits
decimals_behind unit digits = counted_in (decimals_of unit) digits

-- what stands behind a whole number: nothing, or a point and decimals
abbrev pub fraction_of : TimeUnit → List ℕ → Result ℕ LogFault
fraction_of unit [] = Ok 0
fraction_of unit (point ∷ digits) = decimals_behind unit digits

-- a time that 64 bits hold
abbrev pub fitting : ℕ → Result ℕ LogFault
fitting time = if nat_lt time 18446744073709551616 then Ok time else Err fault.Time

-- a number of a unit: digits, and perhaps a point and decimals
unfoldable pub time_in : TimeUnit → List ℕ → Result ℕ LogFault
time_in unit text = do
  whole ← number_in fault.Time 18446744073709551615 (before is_point text)
  fraction ← fraction_of unit («from» is_point text)
  fitting (whole * nanoseconds_of unit + fraction)

abbrev pub time_in_unit : Option TimeUnit → List ℕ → Result ℕ LogFault
time_in_unit None text = Err fault.Time
time_in_unit (Some unit) text = time_in unit text

-- the time that a text spells
abbrev pub time_of : List ℕ → Result ℕ LogFault
time_of text = time_in_unit (unit_of («from» is_of_unit text)) (before is_of_unit text)

-- Which lines of an input are read, whether one of them says anything, and the times of the ports behind them, with how
-- many lines fell (this profile's own rule).
use Rattle.std.specs.Prelude.{◌≡◌, ◌||◌, not, ℕ, Bool, false, List, [], ◌∷◌, Option, Ok, Err}
use Rattle.gp_log.specs.declared.fault.LogFault.{LogFault}
use Rattle.gp_log.specs.declared.line.LogLine.{LogLine}
use Rattle.gp_log.specs.Line.{Reads, says_nothing}
use Rattle.gp_times.specs.declared.frames.Frames.{Frames}
use Rattle.gp_times.specs.declared.frames.Outside.{Outside}
use Rattle.gp_times.specs.Times.{TimesState, outside_of, times_after, times_begun}

-- a line of a trace or a log, an empty one, or a remark
abbrev pub IsRead : List ℕ → Type 0
IsRead text = (line : LogLine) × Reads text (Ok line)

-- each of these lines is read, and whether one of them says anything
abbrev pub AreRead : List (List ℕ) → Bool → Type 0
AreRead [] heard = heard ≡ false
AreRead (text ∷ texts) heard =
    (said : LogLine) × (rest : Bool) × Reads text (Ok said) × AreRead texts rest
    × (heard ≡ (not (says_nothing said) || rest))

-- any other line, and what is wrong with it
abbrev pub IsUnread : List ℕ → Type 0
IsUnread text = (fault : LogFault) × Reads text (Err fault)

-- each of these lines is read, and leads from some times of the ports to others
abbrev pub Lead : List (List ℕ) → TimesState → TimesState → Type 0
Lead [] from to = to ≡ from
Lead (text ∷ texts) from to = (line : LogLine) × Reads text (Ok line) × Lead texts (times_after line from) to

-- these lines were read, and where all that was heard in them is, if all of it is before the first of the wanted frames,
-- or all of it behind the last
pub record IsWhere (frames : Frames) (texts : List (List ℕ)) (outside : Option Outside) : Type 0 where
  pub times : TimesState
  pub lead : Lead texts times_begun times
  pub is : outside ≡ outside_of frames times

-- these lines were read, and so many of them fell: the time of each was before that of its port
pub record HaveFallen (texts : List (List ℕ)) (fallen : ℕ) : Type 0 where
  pub times : TimesState
  pub lead : Lead texts times_begun times
  pub is : fallen ≡ times.fallen

-- How far an input was read, and what was written meanwhile (this profile's own rule).
use Rattle.std.specs.Prelude.{◌≡◌, ℕ, ◌+◌, ◌⊎◌, ◌||◌, not, Bool, false, List, [], Option, None, Some, is_some, map, Ok}
use Rattle.gp_flow.specs.Lines.{Speech, WholeLines, most_lines}
use Rattle.gp_explain.specs.declared.fault.NoLine.{NoLine}
use Rattle.gp_explain.specs.declared.fault.NoLine.TheVariants.{NotALine, TooLong}
use Rattle.gp_ploam.specs.declared.check.Mask.{Mask}
use Rattle.gp_log.specs.declared.line.LogLine.{LogLine}
use Rattle.gp_log.specs.Line.{Reads, says_nothing}
use Rattle.gp_finding.specs.declared.codes.Codes.{Codes}
use Rattle.gp_finding.specs.Codes.{codes_after, no_codes}
use Rattle.gp_times.specs.declared.frames.Frames.{Frames}
use Rattle.gp_times.specs.Times.{TimesState, falls, times_after, times_begun}
use Rattle.gp_times.specs.Lines.{IsRead, IsUnread}
use Rattle.gp_waves.specs.Hearing.{FibreState, HearsLine, no_fibre}
use Rattle.gp_waves.specs.Writing.{Spills, Written, unwritten}

-- how many lines came, whether one of them says anything, why the last of them ended it, if it did, the times of the
-- ports, with how many lines fell, the frames that are dumped, the mask of the codes, how many codes came, with how
-- many of them are garbled, what is kept of the ports with the changes that are held back, and what is written
pub record WavesState : Type 0 where
  pub lines : ℕ
  pub heard : Bool
  pub ended : Option NoLine
  pub times : TimesState
  pub frames : Frames
  pub mask : Mask
  pub codes : Codes
  pub fibre : FibreState
  pub written : Written

-- no line came, and nothing is written
abbrev pub opened : Frames → Mask → WavesState
opened frames mask = record {
  lines = 0;
  heard = false;
  ended = None;
  times = times_begun;
  frames = frames;
  mask = mask;
  codes = no_codes;
  fibre = no_fibre;
  written = unwritten;
}

-- one line more came, which says this; this is kept of the ports, and this is written by now
abbrev pub counted : LogLine → FibreState → Written → WavesState → WavesState
counted line fibre written state =
    record state {
      lines = state.lines + 1;
      heard = state.heard || not (says_nothing line);
      times = times_after line state.times;
      codes = codes_after state.mask line state.codes;
      fibre = fibre;
      written = written;
    }

-- one line more came, and ended it
abbrev pub ended_by : NoLine → WavesState → WavesState
ended_by why state = record state { lines = state.lines + 1; ended = Some why }

-- with a line that is read changes may be held back, and of those that are too many the first are written; any other
-- line ends it
abbrev pub SaysToText : WavesState → List ℕ → List ℕ → WavesState → Type 0
SaysToText old text said new =
    ((line : LogLine) × Reads text (Ok line) × (heard : FibreState)
    × HearsLine old.frames old.mask text line (times_after line old.times) (falls line old.times) old.fibre heard
    × Spills heard.held old.written said new.fibre.held new.written
    × (new ≡ counted line (record { ports = heard.ports; held = new.fibre.held }) new.written old))
    ⊎ (IsUnread text × (said ≡ []) × (new ≡ ended_by NotALine old))

-- by what ended it before: nothing is looked at any more; a line that is too long ends it
abbrev pub SaysFrom : Option NoLine → WavesState → Option (List ℕ) → List ℕ → WavesState → Type 0
SaysFrom (Some why) old line said new = (said ≡ []) × (new ≡ old)
SaysFrom None old None said new = (said ≡ []) × (new ≡ ended_by TooLong old)
SaysFrom None old (Some text) said new = SaysToText old text said new

abbrev pub Says : WavesState → Option (List ℕ) → List ℕ → WavesState → Type 0
Says old line said new = SaysFrom old.ended old line said new

-- this line is read, and a count may not go on with it, or a change have no variable
abbrev pub MayFill : Option (List ℕ) → Type 0
MayFill None = ⊥
MayFill (Some text) = IsRead text

-- why no more lines can be taken: it has not ended, and so many have come as can be counted, or this one is read
abbrev pub IsFull : WavesState → Option (List ℕ) → Type 0
IsFull state line = (state.ended ≡ None) × ((state.lines ≡ most_lines) ⊎ MayFill line)

abbrev pub Dumping : Speech WavesState
Dumping = WholeLines IsFull Says

-- lines that are handed on whole
abbrev pub whole_lines : List (List ℕ) → List (Option (List ℕ))
whole_lines texts = map (λ (text : List ℕ). let line : Option (List ℕ) = Some text in line) texts

-- it has ended
abbrev pub has_ended : WavesState → Bool
has_ended state = is_some state.ended

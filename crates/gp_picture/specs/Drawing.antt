-- How far an input was read (this profile's own rule). What is drawn of a line is tested, and not said here.
use Rattle.std.specs.Prelude.{◌≡◌, ℕ, ◌+◌, ◌⊎◌, ◌||◌, not, Bool, false, List, [], Option, None, Some, is_some, Ok, map}
use Rattle.gp_flow.specs.Lines.{Speech, WholeLines, most_lines}
use Rattle.gp_explain.specs.declared.fault.NoLine.{NoLine}
use Rattle.gp_explain.specs.declared.fault.NoLine.TheVariants.{NotALine, TooLong}
use Rattle.gp_ploam.specs.declared.check.Mask.{Mask}
use Rattle.line_columns.specs.Layout.{LayoutState, plain_of}
use Rattle.gp_log.specs.declared.line.LogLine.{LogLine}
use Rattle.gp_log.specs.declared.line.LogLine.TheVariants as line
use Rattle.gp_log.specs.declared.said.Said.{Said}
use Rattle.gp_log.specs.declared.said.Said.TheVariants as said
use Rattle.gp_log.specs.Line.{Reads, says_nothing}
use Rattle.gp_finding.specs.declared.codes.Codes.{Codes}
use Rattle.gp_finding.specs.Codes.{codes_after, no_codes}
use Rattle.gp_times.specs.Times.{TimesState, times_after, times_begun}
use Rattle.gp_times.specs.Lines.{IsUnread}

-- how many lines came, whether one of them says anything, why the last of them ended it, if it did, the times of the
-- ports, with how many lines fell, the mask of the codes, how many codes came, with how many of them are garbled, and
-- how lines are laid out
pub record DrawState : Type 0 where
  pub lines : ℕ
  pub heard : Bool
  pub ended : Option NoLine
  pub times : TimesState
  pub mask : Mask
  pub codes : Codes
  pub layout : LayoutState

-- before the first line
abbrev pub opened : Mask → LayoutState → DrawState
opened mask layout =
    record {
      lines = 0;
      heard = false;
      ended = None;
      times = times_begun;
      mask = mask;
      codes = no_codes;
      layout = layout;
    }

-- one line more came, which says this
abbrev pub counted : LogLine → DrawState → DrawState
counted line state =
    record state {
      lines = state.lines + 1;
      heard = state.heard || not (says_nothing line);
      times = times_after line state.times;
      codes = codes_after state.mask line state.codes;
    }

-- one line more came, and ended it
abbrev pub ended_by : NoLine → DrawState → DrawState
ended_by why state = record state { lines = state.lines + 1; ended = Some why }

-- a text that is read is counted; any other ends it
abbrev pub DrawsText : DrawState → List ℕ → DrawState → Type 0
DrawsText old text new =
    ((line : LogLine) × Reads text (Ok line) × (new ≡ counted line old))
    ⊎ (IsUnread text × (new ≡ ended_by NotALine old))

-- by what ended it before: nothing is looked at any more; a line that is too long ends it; of another line what its
-- layout makes of it is read
abbrev pub DrawsFrom : Option NoLine → DrawState → Option (List ℕ) → DrawState → Type 0
DrawsFrom (Some why) old line new = new ≡ old
DrawsFrom None old None new = new ≡ ended_by TooLong old
DrawsFrom None old (Some text) new = DrawsText old (plain_of old.layout text) new

-- nothing is said to a line
abbrev pub Draws : DrawState → Option (List ℕ) → List ℕ → DrawState → Type 0
Draws old line said new = (said ≡ []) × DrawsFrom old.ended old line new

-- this is said, and it is a burst
abbrev pub IsBurst : Option Said → Type 0
IsBurst None = ⊥
IsBurst (Some (said.Down code)) = ⊥
IsBurst (Some (said.Up code delay)) = Unit {0}
IsBurst (Some (said.Grant grant)) = ⊥

-- a line tells of a burst
abbrev pub TellsBurst : LogLine → Type 0
TellsBurst line.Remark = ⊥
TellsBurst (line.Log port time heard) = IsBurst (Some heard)
TellsBurst (line.Trace port is_frame first second) = IsBurst first ⊎ IsBurst second

-- the asks of a unit may not be counted any more with this line: only a burst asks
abbrev pub MayAsk : LayoutState → Option (List ℕ) → Type 0
MayAsk layout None = ⊥
MayAsk layout (Some text) = (line : LogLine) × Reads (plain_of layout text) (Ok line) × TellsBurst line

-- why no more lines can be taken: it has not ended, and so many have come as can be counted, or asks can't be
abbrev pub IsFull : DrawState → Option (List ℕ) → Type 0
IsFull state line = (state.ended ≡ None) × ((state.lines ≡ most_lines) ⊎ MayAsk state.layout line)

abbrev pub Drawing : Speech DrawState
Drawing = WholeLines IsFull Draws

-- it has ended
abbrev pub has_ended : DrawState → Bool
has_ended state = is_some state.ended

-- what is read of lines by their layout
abbrev pub plains : LayoutState → List (List ℕ) → List (List ℕ)
plains layout lines = map (plain_of layout) lines

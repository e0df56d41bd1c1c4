-- What a line of a trace is in a log (this profile's own rule). Lines come without their line feeds.
use Rattle.std.specs.Prelude.{◌≡◌, ℕ, ◌+◌, ◌*◌, ◌<◌, ◌≤◌, ◌^◌, Bool, true, false, List, [], ◌++◌, Option, None, Some, Ok, codes, slice_index, slice_set, ⊤}
use Rattle.gp_log.specs.declared.line.LogLine.TheVariants as line
use Rattle.gp_log.specs.declared.said.Said.{Said}
use Rattle.gp_log.specs.Line.{Reads}
use Rattle.gp_log.specs.Text.{CanBeWritten, entry_text}
use Rattle.gp_log.specs.Time.{frame_time}

-- a line is read as one of a trace: this was said, first and second
abbrev pub ReadsAs : List ℕ → ℕ → Bool → Option Said → Option Said → Type 0
ReadsAs text port is_frame first second = Reads text (Ok (line.Trace port is_frame first second))

-- it is read as some line of a trace
abbrev pub IsTraceRead : List ℕ → Type 0
IsTraceRead text =
    (port : ℕ) × (is_frame : Bool) × (first second : Option Said) × ReadsAs text port is_frame first second

-- one frame more of its port, where a line is one's
abbrev pub frames_with : Bool → ℕ → ℕ
frames_with true frames = frames + 1
frames_with false frames = frames

-- the line of a log of what was said, if something was, with its line feed
abbrev pub said_line : ℕ → ℕ → Option Said → List ℕ
said_line port frames None = []
said_line port frames (Some said) = entry_text port frames said ++ codes "\n"

-- the lines of what was said first and second
abbrev pub said_lines : ℕ → ℕ → Option Said → Option Said → List ℕ
said_lines port frames first second = said_line port frames first ++ said_line port frames second

-- what was said, if something was, can be written and read back
abbrev pub CanBeLogged : ℕ → ℕ → Option Said → Type 0
CanBeLogged port frames None = ⊤
CanBeLogged port frames (Some said) = CanBeWritten port frames said

-- a line of a trace can't be written: its port would have had more frames than 64 bits hold the nanoseconds of
pub record HasTooManyFrames (old : List ℕ) (text : List ℕ) : Type 0 where
  pub port : ℕ
  pub is_frame : Bool
  pub first : Option Said
  pub second : Option Said
  pub read : ReadsAs text port is_frame first second
  pub many : 2 ^ 64 ≤ frames_with is_frame (slice_index old port) * frame_time

-- a line of a trace is written as lines of a log: by the frames that each port has had before it, and what these are
-- behind it
pub record Transcribes (old : List ℕ) (text said : List ℕ) (new : List ℕ) : Type 0 where
  pub port : ℕ
  pub is_frame : Bool
  pub first : Option Said
  pub second : Option Said
  pub read : ReadsAs text port is_frame first second
  -- the frames of its port, this line's too
  pub frames : ℕ
  pub counted : frames ≡ frames_with is_frame (slice_index old port)
  -- 64 bits hold their nanoseconds
  pub fits : frames * frame_time < 2 ^ 64
  -- what is said can be written and read back
  pub can : CanBeLogged port frames first × CanBeLogged port frames second
  pub written : said ≡ said_lines port frames first second
  pub next : new ≡ slice_set old port frames

-- How drawing a trace or a log may end (this profile's own rule).
use Rattle.std.specs.Prelude.{◌≡◌, ◌≢◌, ◌<◌, ◌⊎◌, ℕ, ◌+◌, true, List, [], ◌∷◌, ◌++◌, length, codes, Option, Some, None, Result, Ok, Err}
use Rattle.std.specs.Io.KnownBytes.{Appends, Consumes}
use Rattle.std.specs.List.{All}
use Rattle.gp_flow.specs.declared.fault.Unanswered.TheVariants.{OutOfMemory, Full}
use Rattle.gp_flow.specs.declared.fault.LinesFault.TheVariants as faults
use Rattle.gp_flow.specs.Lines.{ServesFull, lines_of, longest_line}
use Rattle.gp_stream.specs.declared.sink.WriteStopped.{WriteStopped}
use Rattle.gp_stream.specs.Sink.{SinkState, KeepsNothing, WritesWhole}
use Rattle.gp_stream.specs.Source.{SourceState, ReadsWhole}
use Rattle.line_columns.specs.Layout.{LayoutState, plain_of}
use Rattle.gp_explain.specs.declared.fault.ExplainFault.{ExplainFault}
use Rattle.gp_explain.specs.declared.fault.ExplainFault.TheVariants.{Refused, Lines}
use Rattle.gp_explain.specs.declared.fault.NoLine.{NoLine}
use Rattle.gp_explain.specs.declared.fault.NoLine.TheVariants.{NotALine, TooLong}
use Rattle.gp_ploam.specs.declared.check.Mask.{Mask}
use Rattle.gp_finding.specs.Codes.{HaveCodes}
use Rattle.gp_picture.specs.declared.running.PictureSum.{PictureSum}
use Rattle.gp_times.specs.declared.frames.Frames.{Frames}
use Rattle.gp_times.specs.Lines.{AreRead, HaveFallen, IsRead, IsUnread, IsWhere}
use Rattle.gp_times.specs.Times.{outside_of}
use Rattle.gp_picture.specs.Drawing.{DrawState, Drawing, opened, plains}

-- a whole SVG document (W3C, Scalable Vector Graphics 1.1). What stands in it is tested, and not said here.
abbrev pub IsSvg : List ℕ → Type 0
IsSvg text = (inside : List ℕ) × (text ≡ codes "<svg " ++ inside ++ codes "</svg>\n")

-- the whole input was read, each of its lines is read by its layout, and the writer got one picture
pub record IsDrawn {R W : Type 0} (layout : LayoutState) (frames : Frames) (mask : Mask) (from to : SourceState R)
    (before after : SinkState W) (sum : PictureSum) : Type 0 where
  pub text : List ℕ
  pub read : ReadsWhole from to text
  pub all : AreRead (plains layout (lines_of text)) sum.heard
  pub count : length (lines_of text) ≡ sum.lines
  pub outside : IsWhere frames (plains layout (lines_of text)) sum.outside
  pub fallen : HaveFallen (plains layout (lines_of text)) sum.fallen
  pub codes : HaveCodes mask (plains layout (lines_of text)) sum.codes
  -- the writer got all of it, and keeps nothing back
  pub picture : List ℕ
  pub svg : IsSvg picture
  pub written : Appends before.held after.held (before.gathered ++ picture)
  pub kept : KeepsNothing after

-- why a text is no line of a trace or a log
abbrev pub IsNone : LayoutState → NoLine → List ℕ → Type 0
IsNone layout NotALine text = IsUnread (plain_of layout text)
IsNone layout TooLong text = longest_line < length text

-- the lines before this one are read, this one is not, and no picture is written
pub record IsRefused {R W : Type 0} (layout : LayoutState) (from to : SourceState R) (before after : SinkState W)
    (line : ℕ) (why : NoLine) : Type 0 where
  -- what was read
  pub bytes : List ℕ
  pub came : Consumes from.remaining to.remaining bytes
  -- its lines: those before, this one, and others
  pub first : List (List ℕ)
  pub text : List ℕ
  pub others : List (List ℕ)
  pub lines : lines_of bytes ≡ first ++ text ∷ others
  pub all : All IsRead (plains layout first)
  pub number : length first + 1 ≡ line
  pub none : IsNone layout why text
  pub written : Appends before.held after.held before.gathered
  pub kept : KeepsNothing after

-- of what was handed in before, and of a picture, if there was to be one, the writer got a prefix, and nothing else
pub record IsBegun {R W : Type 0} (from to : SourceState R) (before after : SinkState W) : Type 0 where
  pub bytes : List ℕ
  pub came : Consumes from.remaining to.remaining bytes
  pub picture : List ℕ
  pub svg : (picture ≡ []) ⊎ IsSvg picture
  pub written : List ℕ
  pub unwritten : List ℕ
  pub all : written ++ unwritten ≡ before.gathered ++ picture
  pub appended : Appends before.held after.held written

-- how it may end; a failed read, and the bound of reads, are told as such. Memory may run out before anything was read.
-- That no more lines can be taken is told only where one of the lines is why.
abbrev pub DrawsTrace : {R W : Type 0} → LayoutState → Frames → Mask → SourceState R → SourceState R → SinkState W
    → SinkState W → Result PictureSum ExplainFault → Type 0
DrawsTrace layout frames mask from to before after (Ok sum) = IsDrawn layout frames mask from to before after sum
DrawsTrace layout frames mask from to before after (Err (Refused line why)) =
    IsRefused layout from to before after line why
DrawsTrace layout frames mask from to before after (Err (Lines faults.Read)) =
    IsBegun from to before after × ((to.failed ≡ true) ⊎ (to.left ≡ 0))
DrawsTrace layout frames mask from to before after (Err (Lines (faults.Line fault))) =
    (IsBegun from to before after ⊎ ((fault ≡ OutOfMemory) × (to ≡ from) × (after ≡ before)))
    × (fault ≡ Full → ServesFull Drawing longest_line from to (opened mask layout))

-- how a picture is written, if it is
abbrev pub WritesPicture : {W : Type 0} → SinkState W → SinkState W → Result (Unit {0}) ExplainFault → Type 0
WritesPicture before after (Ok done) =
    (picture : List ℕ) × IsSvg picture
    × WritesWhole {T = Unit {0}} {E = WriteStopped} before after picture (Ok done)
WritesPicture before after (Err (Refused line why)) = ⊥
WritesPicture before after (Err (Lines faults.Read)) = ⊥
WritesPicture before after (Err (Lines (faults.Line fault))) =
    (fault ≢ Full)
    × ((after ≡ before)
    ⊎ ((picture : List ℕ) × IsSvg picture
    × (stopped : WriteStopped) × WritesWhole {T = Unit {0}} before after picture (Err stopped)))

-- how it ends behind the last line
abbrev pub EndsAs : {W : Type 0} → Frames → Option NoLine → DrawState → SinkState W → SinkState W
    → Result PictureSum ExplainFault → Type 0
EndsAs frames (Some why) drawn before after answer = (answer ≡ Err (Refused drawn.lines why)) × (after ≡ before)
EndsAs frames None drawn before after (Ok sum) =
    (sum.lines ≡ drawn.lines) × (sum.heard ≡ drawn.heard) × (sum.outside ≡ outside_of frames drawn.times)
    × (sum.fallen ≡ drawn.times.fallen) × (sum.codes ≡ drawn.codes) × WritesPicture before after (Ok (tt {0}))
EndsAs frames None drawn before after (Err fault) = WritesPicture before after (Err fault)

abbrev pub Ends : {W : Type 0} → Frames → DrawState → SinkState W → SinkState W → Result PictureSum ExplainFault → Type 0
Ends frames drawn before after answer = EndsAs frames drawn.ended drawn before after answer

-- What a trace says on the fibre, and the same in the log that is written of it (this profile's own rule).
use Rattle.std.specs.Prelude.{◌≡◌, ℕ, ◌*◌, Bool, List, [], ◌∷◌, ◌++◌, Option, None, Some, Ok, slice_index, slice_set, ⊤}
use Rattle.gp_log.specs.declared.line.LogLine.{LogLine}
use Rattle.gp_log.specs.declared.line.LogLine.TheVariants as line
use Rattle.gp_log.specs.declared.said.Said.{Said}
use Rattle.gp_log.specs.Line.{Reads}
use Rattle.gp_log.specs.Time.{frame_time}
use Rattle.gp_transcribe.specs.Entries.{ReadsAs, frames_with}

-- what was said at a port at a time of so many frames, in nanoseconds, if something was
abbrev pub entry_at : ℕ → ℕ → Option Said → List LogLine
entry_at port frames None = []
entry_at port frames (Some said) = line.Log port (frames * frame_time) said ∷ []

abbrev pub entries_at : ℕ → ℕ → Option Said → Option Said → List LogLine
entries_at port frames first second = entry_at port frames first ++ entry_at port frames second

-- a line of a trace says this, by the frames that each port has had before it, and what these are behind it
pub record TraceSays (old : List ℕ) (text : List ℕ) (entries : List LogLine) (new : List ℕ) : Type 0 where
  pub port : ℕ
  pub is_frame : Bool
  pub first : Option Said
  pub second : Option Said
  pub read : ReadsAs text port is_frame first second
  pub says : entries ≡ entries_at port (frames_with is_frame (slice_index old port)) first second
  pub next : new ≡ slice_set old port (frames_with is_frame (slice_index old port))

-- these lines of a trace say this, one after another
abbrev pub TraceSaysAll : List ℕ → List (List ℕ) → List LogLine → Type 0
TraceSaysAll frames [] entries = entries ≡ []
TraceSaysAll frames (text ∷ texts) entries =
    (first rest : List LogLine) × (next : List ℕ) × TraceSays frames text first next × TraceSaysAll next texts rest
    × (entries ≡ first ++ rest)

-- these lines are read as this
abbrev pub AreRead : List (List ℕ) → List LogLine → Type 0
AreRead [] [] = ⊤
AreRead (text ∷ texts) (entry ∷ entries) = Reads text (Ok entry) × AreRead texts entries
AreRead [] (entry ∷ entries) = ⊥
AreRead (text ∷ texts) [] = ⊥

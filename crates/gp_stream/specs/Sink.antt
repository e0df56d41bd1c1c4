-- What a sink is to its callers, and what handing bytes to it means (this profile's own rule).
use Rattle.std.specs.Prelude.{◌≡◌, ◌≤◌, ◌<◌, ◌+◌, ◌||◌, ℕ, Bool, true, false, List, [], ◌++◌, length, Option, Result, OnOk, OnErr, IsOk, IsErr, is_err}
use Rattle.std.specs.Io.KnownBytes.{Appends}

-- a sink over a writer
pub record SinkState (W : Type 0) : Type 0 where
  -- the writer below
  pub writer : W
  -- what the writer holds. A writer that doesn't tell its bytes (standard output) has None here; then nothing below
  -- says what it got
  pub held : Option (List ℕ)
  -- what was handed in and is not yet written
  pub gathered : List ℕ
  -- a write has failed or taken nothing, or a flush has failed
  pub stopped : Bool
  -- the writer was flushed since it was last written to, so that it keeps nothing back
  pub flushed : Bool
  -- how many bytes it gathers at most
  pub room : ℕ

-- nothing that was handed in is kept back
abbrev pub KeepsNothing : {W : Type 0} → SinkState W → Type 0
KeepsNothing sink = (sink.gathered ≡ []) × (sink.flushed ≡ true)

-- the bytes were handed in: of what was gathered and of them, the writer took a prefix, and the rest is gathered
pub record Takes {W : Type 0} (old new : SinkState W) (bytes : List ℕ) : Type 0 where
  -- the prefix that the writer took
  pub written : List ℕ
  -- it stands behind what the writer held
  pub appended : Appends old.held new.held written
  -- what is gathered now is all the rest
  pub rest : old.gathered ++ bytes ≡ written ++ new.gathered

-- of what was gathered and of the bytes, the writer took a prefix and nothing else
pub record TakesPrefix {W : Type 0} (old new : SinkState W) (bytes : List ℕ) : Type 0 where
  -- the prefix that the writer took
  pub written : List ℕ
  -- what the writer didn't take
  pub unwritten : List ℕ
  -- the prefix stands behind what the writer held
  pub appended : Appends old.held new.held written
  -- the two are all that there was
  pub rest : old.gathered ++ bytes ≡ written ++ unwritten

-- bytes were handed in, with this answer; the sink may have handed on some of them
pub record Gives {W T E : Type 0} (old new : SinkState W) (bytes : List ℕ) (answer : Result T E) : Type 0 where
  pub ok : OnOk answer (Takes old new bytes)
  pub error : OnErr answer (TakesPrefix old new bytes)
  -- an error stops the sink, and nothing else does
  pub stopped : new.stopped ≡ (old.stopped || is_err answer)
  -- a stopped sink writes nothing
  pub refused : old.stopped ≡ true → IsErr answer × (new.writer ≡ old.writer)
  -- whatever was written was flushed
  pub flushed : old.flushed ≡ true → OnOk answer (new.flushed ≡ true)
  pub room : old.room ≤ new.room

-- bytes were put in, with this answer
pub record Puts {W T E : Type 0} (old new : SinkState W) (bytes : List ℕ) (answer : Result T E) : Type 0 where
  pub gives : Gives old new bytes answer
  -- where there is room for them nothing is written
  pub fits : old.stopped ≡ false → length old.gathered + length bytes ≤ old.room
      → IsOk answer × (new.writer ≡ old.writer)
  -- else what was gathered before is written, and they are gathered if there is ever room for so many
  pub gathers : old.stopped ≡ false → old.room < length old.gathered + length bytes → length bytes ≤ old.room
      → OnOk answer (new.gathered ≡ bytes)

-- all that was gathered was written out, with this answer
pub record Finishes {W T E : Type 0} (old new : SinkState W) (answer : Result T E) : Type 0 where
  pub gives : Gives old new [] answer
  -- nothing is gathered any more
  pub empty : OnOk answer (new.gathered ≡ [])
  -- with nothing gathered nothing is written
  pub idle : old.stopped ≡ false → old.gathered ≡ [] → IsOk answer × (new.writer ≡ old.writer)

-- bytes were put in and then all that was gathered was written out, with this answer
pub record WritesWhole {W T E : Type 0} (old new : SinkState W) (bytes : List ℕ) (answer : Result T E) : Type 0 where
  pub gives : Gives old new bytes answer
  -- nothing is gathered any more
  pub empty : OnOk answer (new.gathered ≡ [])
  -- and the sink has not stopped
  pub finished : OnOk answer (new.stopped ≡ false)

-- What a source is to its callers, and what reading it means (this profile's own rule).
use Rattle.std.specs.Prelude.{◌≡◌, ◌≢◌, ◌<◌, ◌≤◌, ◌+◌, ◌||◌, ◌⊎◌, ◌↔◌, ℕ, Bool, true, false, List, length, vec_len, Option, Some, Result, Err, IfOk, is_err}
use Rattle.std.specs.Global.{Vec}
use Rattle.std.specs.Io.{ReadsAtMost}
use Rattle.std.specs.Io.KnownBytes.{Consumes, IsAtEnd, ReadConsumes}
use Rattle.gp_stream.specs.declared.reading.SourceFault.{SourceFault}
use Rattle.gp_stream.specs.declared.reading.SourceFault.TheVariants as faults

-- the most bytes that an input may have
abbrev pub max_bytes : ℕ
max_bytes = 1048576

-- the most reads that are made of a source, unless it is endless
abbrev pub max_reads : ℕ
max_reads = 2097152

-- a source over a reader
pub record SourceState (R : Type 0) : Type 0 where
  -- the reader below
  pub reader : R
  -- the bytes still to come. A reader that doesn't tell its bytes (a file, standard input) has None here; then
  -- nothing below says which bytes came
  pub remaining : Option (List ℕ)
  -- how many reads may still be made
  pub left : ℕ
  -- a read has failed
  pub failed : Bool

-- one read was made of those that are left, with this answer
pub record Reads {R E : Type 0} (old new : SourceState R) (buffer : List ℕ) (answer : Result ℕ E) : Type 0 where
  pub bound : ReadsAtMost answer buffer
  pub bytes : ReadConsumes old.remaining new.remaining answer buffer
  pub counted : new.left + 1 ≡ old.left
  pub failed : new.failed ≡ (old.failed || is_err answer)

-- these bytes are all that there was, where the reader tells its bytes, and no read failed
pub record ReadsWhole {R : Type 0} (old new : SourceState R) (bytes : List ℕ) : Type 0 where
  -- they came first of what was still to come
  pub consumed : Consumes old.remaining new.remaining bytes
  -- nothing is left behind them
  pub end : IsAtEnd new.remaining
  -- no read failed
  pub unfailed : new.failed ≡ false

-- some bytes came, no more than the limit, and no read failed
pub record ReadsSome {R : Type 0} (limit : ℕ) (old new : SourceState R) : Type 0 where
  -- the bytes that came
  pub bytes : List ℕ
  -- they came first of what was still to come
  pub consumed : Consumes old.remaining new.remaining bytes
  -- one came at least
  pub some : 0 < length bytes
  -- no more came than the limit
  pub few : length bytes ≤ limit
  -- no read failed
  pub unfailed : new.failed ≡ false

-- more than the limit came, and no read failed
pub record ReadsTooMuch {R : Type 0} (limit : ℕ) (old new : SourceState R) : Type 0 where
  -- the bytes that came
  pub bytes : List ℕ
  -- they came first of what was still to come
  pub consumed : Consumes old.remaining new.remaining bytes
  -- more came than the limit
  pub more : limit < length bytes
  -- no read failed
  pub unfailed : new.failed ≡ false

-- the input is known, no read of it failed, and a read was still left
pub record WasReadable {R : Type 0} (old new : SourceState R) (input : List ℕ) : Type 0 where
  -- the reader tells its bytes, and they are the input
  pub known : old.remaining ≡ Some input
  -- no read failed
  pub unfailed : new.failed ≡ false
  -- a read is left
  pub left : 0 < new.left

-- a source was asked for all its bytes, with this answer
pub record ReadsAll {R : Type 0} (old new : SourceState R) (answer : Result (Vec ℕ) SourceFault) : Type 0 where
  pub whole : IfOk answer (λ bytes. ReadsWhole old new bytes.items)
  pub short : IfOk answer (λ bytes. vec_len bytes ≤ max_bytes)
  pub memory : answer ≡ Err faults.OutOfMemory → ReadsSome max_bytes old new
  pub too_long : answer ≡ Err faults.TooLong → ReadsTooMuch max_bytes old new
  -- a read failed, or none is left
  pub read : answer ≡ Err faults.Read → (new.failed ≡ true) ⊎ (new.left ≡ 0)
  -- a failed read is always told
  pub failed : new.failed ≡ true → answer ≡ Err faults.Read
  -- of a source with a failed read nothing more is read
  pub refused : old.failed ≡ true → (answer ≡ Err faults.Read) × (new ≡ old)
  -- each read but the last gives a byte, so the bound of reads is met only by a source of which as few are left
  pub counted : old.left ≤ new.left + max_bytes + 1
  -- of a known input, memory aside, the length alone decides
  pub exact : (input : List ℕ) → WasReadable old new input → answer ≢ Err faults.OutOfMemory
      → (max_bytes < length input) ↔ (answer ≡ Err faults.TooLong)

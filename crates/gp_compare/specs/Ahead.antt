-- A source of which a block is read ahead (this profile's own rule).
-- Inside: no public contract cites this.
use Rattle.std.specs.Prelude.{◌≡◌, ℕ, List, [], ◌++◌, false, Result, OnOk}
use Rattle.std.specs.Io.KnownBytes.{Consumes, IsAtEnd}
use Rattle.gp_stream.specs.Source.{SourceState}
use Rattle.gp_compare.specs.declared.fault.CompareFault.{CompareFault}
use Rattle.gp_compare.specs.declared.fault.CompareFault.TheVariants as faults
use Rattle.gp_compare.specs.Fault.{IsStopped}

-- a source, and what was read of it and is not passed
pub record AheadState (R : Type 0) : Type 0 where
  pub source : SourceState R
  pub rest : List ℕ

-- octets were read, of which there may be none, and stand behind the rest
pub record ReadsOn {R : Type 0} (old new : AheadState R) (octets : List ℕ) : Type 0 where
  pub consumed : Consumes old.source.remaining new.source.remaining octets
  pub rest : new.rest ≡ old.rest ++ octets

-- no read failed, and nothing is left, neither in the rest nor in the source
pub record IsOver {R : Type 0} (ahead : AheadState R) : Type 0 where
  pub rest : ahead.rest ≡ []
  pub unfailed : ahead.source.failed ≡ false
  pub end : IsAtEnd ahead.source.remaining

-- nothing more is read for this fault: of a read, where one failed or none is left
abbrev pub StopsBy : {R : Type 0} → AheadState R → CompareFault → Type 0
StopsBy ahead faults.Read = IsStopped ahead.source
StopsBy ahead faults.OutOfMemory = Unit {0}

-- a block was read where there was no rest, with this answer: if there is none then, the source is at its end
pub record Fills {R T E : Type 0} (old new : AheadState R) (answer : Result T E) : Type 0 where
  pub octets : List ℕ
  pub reads : ReadsOn old new octets
  pub over : OnOk answer (new.rest ≡ [] → IsOver new)

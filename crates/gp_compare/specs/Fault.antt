-- Why a text was not compared to its end (this profile's own rule).
use Rattle.std.specs.Prelude.{◌≡◌, ◌⊎◌, true}
use Rattle.gp_stream.specs.Source.{SourceState}
use Rattle.gp_compare.specs.declared.fault.CompareError.{CompareError}
use Rattle.gp_compare.specs.declared.fault.CompareError.TheVariants as errors
use Rattle.gp_compare.specs.declared.fault.CompareFault.{CompareFault}
use Rattle.gp_compare.specs.declared.fault.CompareFault.TheVariants as faults

-- a read failed, or none is left
abbrev pub IsStopped : {R : Type 0} → SourceState R → Type 0
IsStopped source = (source.failed ≡ true) ⊎ (source.left ≡ 0)

-- that the source can't be read is told only of one of which a read failed or none is left
abbrev pub HasFailed : {R : Type 0} → CompareError R → Type 0
HasFailed (errors.Read source) = IsStopped source
HasFailed errors.OutOfMemory = Unit {0}

-- the fault of an error
abbrev pub fault_of : {R : Type 0} → CompareError R → CompareFault
fault_of (errors.Read source) = faults.Read
fault_of errors.OutOfMemory = faults.OutOfMemory

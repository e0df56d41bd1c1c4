-- Units behind what was found.
use Rattle.std.proofs.Common.{◌≡◌, ℕ, Option, Some, Result, Ok, subst, sym, refl}
use Rattle.std.specs.declared.alloc.AllocError.{AllocError}
use Rattle.std.specs.declared.alloc.Global.{Global}
use Rattle.std.specs.declared.vec.Vec.{Vec}
use Rattle.gp_stream.specs.declared.sink.WriteStopped.{WriteStopped}
use Rattle.gp_stream.specs.Sink.{SinkState, WritesWhole}
use Rattle.gp_verify.specs.declared.outcome.CheckFault.{CheckFault}
use Rattle.gp_with_units.specs.Verifying.{WritesUnits, found_behind}

-- their text was handed to the sink, with this answer
pub text_behind : {W : Type 0} (units : Option (Result (Vec ℕ Global) AllocError)) (text : Vec ℕ Global) (found : Result ℕ CheckFault) (old new : SinkState W)
    (written : Result (Unit {0}) WriteStopped) → units ≡ Some (Ok text) → WritesWhole old new text.items written → WritesUnits units found old new (found_behind found written)
text_behind units text found old new written is w =
    subst (λ (u : Option (Result (Vec ℕ Global) AllocError)). WritesUnits u found old new (found_behind found written)) (sym is) (written, w, refl)

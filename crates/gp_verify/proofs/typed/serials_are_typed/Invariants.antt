use Rattle.std.proofs.Common.{◌≡◌, All, length, take}
use Rattle.gp_ploam.specs.declared.message.Serial.{Serial}
use Rattle.gp_verify.proofs.typed.serials_are_typed.Given as goal

abbrev pub invariant-loop-serial : goal.invariant-loop-serial
invariant-loop-serial l = All (λ (serial : Serial). length serial.0 ≡ 8) (take l.serial-index l.serials)

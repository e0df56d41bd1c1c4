use Rattle.std.proofs.Common.{◌≡◌, length}
use Rattle.std.proofs.lemmas.List.{take_all}
use Rattle.std.proofs.lemmas.List.Elements.{All-more}
use Rattle.gp_ploam.specs.declared.message.Serial.{Serial}
use Rattle.gp_verify.proofs.typed.serials_are_typed.Goals as goal

pub loop-serial-preserved : goal.loop-serial-preserved
loop-serial-preserved c =
    All-more (λ (serial : Serial). length serial.0 ≡ 8) c.args.serials.now c.loop-serial.serial-index _ c.loop-serial-test.true c.loop-serial.invariant c.serial_is_typed.ensures

pub returns : goal.returns
returns c = rw (take_all c.loop-serial.serial-index c.args.serials.now c.loop-serial-test.false) at c.loop-serial.invariant

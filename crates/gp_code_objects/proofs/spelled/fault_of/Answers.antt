use Rattle.std.proofs.Common.{sym, ◌∙◌, inr, arith}
use Rattle.gp_decode.proofs.Digits.{other_length}
use Rattle.gp_code_objects.proofs.spelled.fault_of.Goals as goal

pub returns-clause-fault : goal.returns-clause-fault
returns-clause-fault c mask =
    inr (other_length c.args.text.now c.requires.0 (omega (arith, c.if-text-eq1.false)) (sym c.are_digits.ensures ∙ c.if-not-are_digits.false) c.requires.1)

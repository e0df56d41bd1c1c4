use Rattle.gp_code.proofs.PairLemmas.{digit_told}
use Rattle.gp_code.proofs.digits.digit_value.Goals as goal

pub returns-clause-value : goal.returns-clause-value
returns-clause-value c = (digit_told c.args.digit c.requires).0

pub returns-clause-within : goal.returns-clause-within
returns-clause-within c = (digit_told c.args.digit c.requires).1

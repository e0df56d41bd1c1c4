use Rattle.hear_rules.proofs.Auditing.{terminal_is_not_blamed, terminal_is_not_blamed_anywhere}
use Rattle.hear_rules.proofs.laws.terminal_is_not_blamed.Goals as goal

pub returns : goal.returns
returns c =
    record {
      whole = terminal_is_not_blamed c.one_outcome.ensures.hears;
      anywhere = terminal_is_not_blamed_anywhere c.one_outcome.ensures.hears;
    }

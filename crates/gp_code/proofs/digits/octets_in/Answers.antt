use Rattle.std.proofs.Common.{sym, ◌∙◌}
use Rattle.gp_code.proofs.PairLemmas.{no_octets_length, no_octets_digits}
use Rattle.gp_code.proofs.digits.octets_in.Goals as goal
use Rattle.gp_code.proofs.digits.octets_in.Goals.{else-text-via-then-text+else-are_hex_digits, else-text-via-else-text}

pub returns-else-text-clause-none : goal.returns-else-text-clause-none
returns-else-text-clause-none g c =
    elim c.else-text.branch [
      | else-text-via-then-text+else-are_hex_digits w ↦ no_octets_digits g.row.N c.args.text.now (sym w.are_hex_digits.ensures ∙ w.if-are_hex_digits.false)
      | else-text-via-else-text w ↦ no_octets_length g.row.N c.args.text.now (λ is. w.if-text.false is)
    ]

use Rattle.std.proofs.Common.{◌-◌, length, take, drop, slice_index, sym, ◌∙◌, arith}
use Rattle.std.proofs.lemmas.Bool.Decides.{Decides-eqb}
use Rattle.gp_log.proofs.UsualLemmas.{two_fronts, begun}
use Rattle.gp_log.proofs.usual.behind_port.Goals as goal
use Rattle.gp_log.proofs.usual.behind_port.Goals.{then-parting-eq32, else-parting-eq32}

pub returns : goal.returns
returns c =
    let rest = c.in_ok-number.rest.now in
    two_fronts c.args.whole.now c.args.text.now (take (length rest - 1) (drop 1 rest)) c.args.port c.in_ok-number.number c.args.parting (slice_index rest 0) c.if-parting-eq32.result
    c.requires (begun c.args.text.now rest c.in_ok-number.number c.in_ok-number.ensures c.in-len1-up.len_at_least (sym c.is_separator.ensures ∙ c.if-not-is_separator.false))
    (omega arith) (λ is.
    elim c.if-parting-eq32.branch [
      | then-parting-eq32 w ↦ (w.if-parting-eq32.true, (Decides-eqb (slice_index rest 0) 32).0 (sym w.result-is ∙ is))
      | else-parting-eq32 w ↦ absurd (w.if-parting-eq32.false ((Decides-eqb c.args.parting 32).0 (sym w.result-is ∙ is)))
    ])

use Rattle.std.proofs.Common.{◌-◌, length, take, drop, slice_index, sym, ◌∙◌}
use Rattle.gp_log.proofs.UsualLemmas.{one_front, begun}
use Rattle.gp_log.proofs.usual.front_of.Goals as goal

pub behind_port-requires : goal.behind_port-requires
behind_port-requires c =
    begun c.args.text.now c.in_ok-first.rest.now c.in_ok-first.first c.in_ok-first.ensures c.in-len1-up.len_at_least (sym c.is_separator.ensures ∙ c.if-not-is_separator.false)

pub returns-in_default-rest : goal.returns-in_default-rest
returns-in_default-rest c =
    let rest = c.in_ok-first.rest.now in
    one_front c.args.text.now (take (length rest - 1) (drop 1 rest)) c.in_ok-first.first (slice_index rest 0)
    (begun c.args.text.now rest c.in_ok-first.first c.in_ok-first.ensures c.in-len1-up.len_at_least (sym c.is_separator.ensures ∙ c.if-not-is_separator.false))

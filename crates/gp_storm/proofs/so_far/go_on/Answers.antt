use Rattle.std.proofs.Common.{◌<◌, Some, ap, arith, length, refl, rules, sym, ◌∙◌}
use Rattle.std.proofs.lemmas.Bool.{false≢true}
use Rattle.gp_storm.proofs.RoundLemmas.{as_many_pieces, goes_on_at, goes_on_more}
use Rattle.gp_storm.proofs.so_far.go_on.Goals as goal

pub returns-then-ends-pieces : goal.returns-then-ends-pieces
returns-then-ends-pieces c = (
  λ t. absurd (false≢true t),
  λ go. absurd (omega (arith, c.if-ends-pieces.true, as_many_pieces c.args.ends.now c.args.pieces.now go)),
)

pub returns-then-not-goes_on : goal.returns-then-not-goes_on
returns-then-not-goes_on c =
    let within : c.loop-port.port < length c.args.pieces.now = search rules in (
      λ t. absurd (false≢true t),
      λ go. absurd (false≢true (c.if-not-goes_on.ensures.1
          (ap (λ piece. piece.from) c.index-pieces-port.is
          ∙ goes_on_at c.args.ends.now c.args.pieces.now c.loop-port.port c.index-ends-port.result c.index-pieces-port.result go within
          ∙ ap (λ end. Some end) (sym c.index-ends-port.is)))),
    )

pub loop-port-preserved : goal.loop-port-preserved
loop-port-preserved c =
    let inv = c.loop-port.invariant in
    let within : c.loop-port.port < length c.args.pieces.now = search rules in
    record {
      same = inv.same;
      before =
          goes_on_more c.args.ends.now c.args.pieces.now c.loop-port.port c.index-ends-port.result c.index-pieces-port.result (omega (arith, within, inv.same)) within inv.before
          (sym (ap (λ piece. piece.from) c.index-pieces-port.is) ∙ c.if-not-goes_on.ensures.0 refl ∙ ap (λ end. Some end) c.index-ends-port.is);
    }

use Rattle.std.proofs.Common.{◌≤◌, ◌<◌, length, rules, sym, ◌∙◌}
use Rattle.std.proofs.lemmas.List.{take_rest}
use Rattle.gp_flow.proofs.PieceLemmas.{rest_shorter}
use Rattle.gp_compare.proofs.PlaceLemmas.{behind_last, behind_line}
use Rattle.gp_compare.proofs.place.Place.pass.Goals as goal

pub overflow_add-rest : goal.overflow_add-rest
overflow_add-rest c =
    let low : c.in-Some.at < length c.lines.rest.now = c.in-Some.ensures.0.high in
    let within : length c.lines.rest.now ≤ length c.args.octets.now = c.lines.invariant.within in
    search rules

pub lines-smaller : goal.lines-smaller
lines-smaller c = rest_shorter _ _ c.in-Some.ensures

pub lines-preserved : goal.lines-preserved
lines-preserved c = record {
  same = rw (c.pass_feed.ensures, take_rest) (sym (behind_line _ _ _ c.in-Some.ensures) ∙ c.lines.invariant.same);
  within = search rules;
}

pub returns : goal.returns
returns c =
    c.in_ok-pass_open.ensures.place
    ∙ sym (behind_last _ _ (record { short = c.pass_open.ensures.short; small = c.pass_open.ensures.small }) c.in_default.ensures)
    ∙ c.lines.invariant.same

use Rattle.std.proofs.Common.{◌-◌, arith, length, length-drop, take, ap, refl}
use Rattle.std.proofs.lemmas.List.{length-take-le, take_rest}
use Rattle.gp_lines.proofs.DigitLemmas.{zeros_within, without_zeros_same}
use Rattle.gp_lines.proofs.fields.without_zeros.Goals as goal

pub slice_bounds-result-count : goal.slice_bounds-result-count
slice_bounds-result-count c =
    let text = c.args.text.now in
    let last = length text - 1 in
    let most = zeros_within (take last text) last c.unwrap_or-zeros.result c.first_other.result (length-take-le last text (omega arith)) c.first_other.ensures c.unwrap_or-zeros.ensures in
    omega (arith, most)

pub slice_bounds-result-start : goal.slice_bounds-result-start
slice_bounds-result-start c =
    let text = c.args.text.now in
    let last = length text - 1 in
    let most = zeros_within (take last text) last c.unwrap_or-zeros.result c.first_other.result (length-take-le last text (omega arith)) c.first_other.ensures c.unwrap_or-zeros.ensures in
    omega (arith, most)

pub returns : goal.returns
returns c =
    let text = c.args.text.now in
    let last = length text - 1 in
    let most = zeros_within (take last text) last c.unwrap_or-zeros.result c.first_other.result (length-take-le last text (omega arith)) c.first_other.ensures c.unwrap_or-zeros.ensures in
    record {
      value = λ low high.
          without_zeros_same low high text (take last text) _ last c.unwrap_or-zeros.result c.first_other.result (omega arith) refl c.first_other.ensures c.unwrap_or-zeros.ensures
          (take_rest text c.unwrap_or-zeros.result);
      some = let rest = ap length (take_rest text c.unwrap_or-zeros.result) in let long = length-drop c.unwrap_or-zeros.result text in omega (arith, most, rest, long);
    }

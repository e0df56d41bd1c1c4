use Rattle.std.proofs.Common.{ℕ, List, ◌++◌, codes, decimal, subst}
use Rattle.gp_stream.specs.Sink.{Gives}
use Rattle.gp_verify.specs.Ending.{few_begun, wanted_lines}
use Rattle.gp_verify.proofs.EndingLemmas.{gives_parts, gives_shorter}
use Rattle.gp_verify.proofs.ending.put_few_object.Goals as goal

pub returns-in_err-put_count : goal.returns-in_err-put_count
returns-in_err-put_count g c =
    let begun : List ℕ = c.few_begun.result.now ++ decimal c.args.lines ++ codes ",\"wanted\":" in
    let wanted = decimal (wanted_lines c.args.at_least) in
    subst (λ (l : List ℕ). Gives c.args.sink.now c.put_count.new.sink (l ++ decimal c.args.lines ++ codes ",\"wanted\":" ++ wanted ++ codes "}\n") c.from_residual.result)
    c.few_begun.ensures (gives_shorter _ _ _ begun wanted (codes "}\n") _ _ c.from_residual.ensures.1 c.in_err-put_count.ensures)

pub returns : goal.returns
returns g c =
    let begun : List ℕ = c.few_begun.result.now ++ decimal c.args.lines ++ codes ",\"wanted\":" in
    let whole = gives_parts _ _ _ begun (decimal c.wanted_lines.result) (codes "}\n") _ c.put_count-2.result c.in_ok-put_count.ensures c.put_count-2.ensures in
    subst (λ (l : List ℕ). Gives c.args.sink.now c.put_count-2.new.sink (l ++ decimal c.args.lines ++ codes ",\"wanted\":" ++ decimal (wanted_lines c.args.at_least) ++ codes "}\n") c.put_count-2.result)
    c.few_begun.ensures
    (subst (λ (n : ℕ). Gives c.args.sink.now c.put_count-2.new.sink (begun ++ decimal n ++ codes "}\n") c.put_count-2.result) c.wanted_lines.ensures whole)

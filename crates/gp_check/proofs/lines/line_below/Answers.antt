use Rattle.std.proofs.Common.{ℕ, ◌+◌, List, Option, Bor, map, unwrap_or, ap, sym, ◌∙◌}
use Rattle.std.specs.Option.{option_copied}
use Rattle.std.proofs.lemmas.List.{take_rest}
use Rattle.gp_check.specs.Lines.{key_line, line_below}
use Rattle.gp_check.proofs.LinesLemmas.{key_below}
use Rattle.gp_check.proofs.lines.line_below.Goals as goal

pub returns-in-Some : goal.returns-in-Some
returns-in-Some c =
    c.unwrap_or.ensures
    ∙ ap (λ (found : Option ℕ). unwrap_or found c.args.header)
    (c.key_line.ensures ∙ ap (λ (rest : List (Bor (List ℕ))). key_line c.in-Some.name.now (c.args.header + 1) (map (λ line. line.now) rest)) (take_rest c.args.lines.now c.args.header))
    ∙ key_below c.in-Some.name.now c.args.lines.now c.args.header
    ∙ ap (λ (key : Option (Bor (List ℕ))). line_below (option_copied key) (map (λ line. line.now) c.args.lines.now) c.args.header) (sym c.in-Some.is)

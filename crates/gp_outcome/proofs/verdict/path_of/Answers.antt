use Rattle.std.proofs.Common.{◌≡◌, ◌≢◌, ℕ, false, List, [], IfOk, rules, string_bytes, subst, sym}
use Rattle.gp_outcome.specs.Line.{is_joined}
use Rattle.gp_outcome.proofs.PathLemmas.{path_other}
use Rattle.gp_outcome.proofs.verdict.path_of.Goals as goal

pub returns-else-is_joined : goal.returns-else-is_joined
returns-else-is_joined c =
    let some : c.args.file.now ≢ [] = search rules in
    let other : is_joined c.args.folder.now ≡ false = search rules in
    subst (λ (z : List ℕ). IfOk c.format-else-is_joined.result (λ path. string_bytes path ≡ z)) (sym (path_other c.args.folder.now c.args.file.now some other))
    c.format-else-is_joined.ensures.ok

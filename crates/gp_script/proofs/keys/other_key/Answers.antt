use Rattle.std.proofs.Common.{rules, map, not, None, Some, option_map, string_bytes, sym, ap, ◌∙◌}
use Rattle.std.proofs.lemmas.Iterator.Consumers.{YieldsList-from_rest}
use Rattle.std.proofs.lemmas.Iterator.Search.{find_from_yields_List}
use Rattle.gp_script.specs.Keys.{is_one_of}
use Rattle.gp_script.proofs.NamesLemmas.{other_key_view}
use Rattle.gp_script.proofs.keys.other_key.Goals as goal
use borrow.Author.Tests.{tests}

pub returns-in-None : goal.returns-in-None
returns-in-None c =
    ap (option_map string_bytes)
    (find_from_yields_List (λ k. not (is_one_of c.args.keys.now (string_bytes k))) _ _ None c.in-None.ensures.ran (YieldsList-from_rest (map (λ e. e.0) c.args.table.now.entries) c.keys.ensures.rest) (λ x b q k. search (rules, tests)))
    ∙ sym (other_key_view c.args.keys.now c.args.table.now.entries)

pub returns-in-Some : goal.returns-in-Some
returns-in-Some c =
    ap (λ bytes. Some bytes) c.as_str.ensures.value
    ∙ ap (option_map string_bytes)
    (find_from_yields_List (λ k. not (is_one_of c.args.keys.now (string_bytes k))) _ _ (Some c.in-Some.name) c.in-Some.ensures.ran (YieldsList-from_rest (map (λ e. e.0) c.args.table.now.entries) c.keys.ensures.rest) (λ x b q k. search (rules, tests)))
    ∙ sym (other_key_view c.args.keys.now c.args.table.now.entries)

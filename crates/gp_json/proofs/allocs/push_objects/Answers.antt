use Rattle.std.proofs.Common.{refl, sym, rules}
use Rattle.std.proofs.lemmas.List.Quantifiers.{position-Some}
use Rattle.gp_json.specs.Allocs.{is_comma}
use Rattle.gp_json.proofs.AllocLemmas.{object_last, object_more, shorter}
use Rattle.gp_json.proofs.allocs.push_objects.Goals as goal

pub overflow_add-rest : goal.overflow_add-rest
overflow_add-rest c =
    let found = position-Some is_comma c.parts.rest.now c.in-Some.at 0 (sym c.in-Some.ensures) in
    let below = c.parts.invariant.0 in
    search (rules, found.0, below)

pub parts-preserved : goal.parts-preserved
parts-preserved c = (
  shorter c.parts.rest.now c.args.text.now c.in-Some.at c.parts.invariant.0,
  object_more c.args.out.now c.parts.out c.parts.rest.now c.args.text.now _ c.push_next.new.out c.in-Some.at
      c.parts.invariant.1 c.in-Some.ensures c.in_ok-push_next.ensures refl,
)

pub returns : goal.returns
returns c =
    object_last c.push_alloc.result c.args.out.now c.parts.out c.parts.rest.now c.args.text.now c.push_alloc.new.out
    c.parts.invariant.1 c.in_default.ensures c.push_alloc.ensures

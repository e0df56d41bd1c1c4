use Rattle.std.proofs.Common.{refl, rules}
use Rattle.gp_json.proofs.FieldLemmas.{allocs_told}
use Rattle.gp_json.proofs.field.push_allocs.Goals as goal

pub returns : goal.returns
returns c = (
  refl,
  allocs_told c.args.slot c.args.part.now c.args.out.now c.push_opening.new.out c.put_quoted.new.self c.put.new.self c.push_list.new.out
      (search rules) (search rules) c.in_ok-put.ensures (search rules),
)

use Rattle.std.proofs.Common.{rules}
use Rattle.gp_json.proofs.PartsLemmas.{leads_end, leads_told}
use Rattle.gp_json.proofs.object.push_fields.Goals as goal

pub parts-preserved : goal.parts-preserved
parts-preserved c =
    leads_told c.in_ok-push_part.field-0 c.args.mask _ c.parts.slot _ c.cut.result.0.now _ _ c.args.out.now c.parts.out c.push_part.new.out (search rules) c.parts.invariant (search rules)
    c.in_ok-push_part.ensures c.after-slot.ensures

pub returns : goal.returns
returns c = leads_end c.args.mask _ c.parts.slot _ c.args.out.now c.parts.out c.is_end.result c.parts.invariant (search rules) c.is_end.ensures

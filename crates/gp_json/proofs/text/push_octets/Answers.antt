use Rattle.std.proofs.Common.{refl}
use Rattle.std.proofs.lemmas.List.{take_rest}
use Rattle.gp_json.proofs.RunsLemmas.{appended_both}
use Rattle.gp_json.proofs.text.push_octets.Goals as goal

pub returns : goal.returns
returns c =
    appended_both c.push_each.result c.args.out.now.items c.extend_from_slice.new.self.items c.push_each.new.out.items c.args.text.now _ _ c.first_escaped.result c.unwrap_or-plain.result
    c.first_escaped.ensures c.unwrap_or-plain.ensures refl (take_rest c.args.text.now c.unwrap_or-plain.result) c.in_ok-extend_from_slice.ensures.items c.push_each.ensures

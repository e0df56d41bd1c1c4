use Rattle.std.proofs.Common.{refl}
use Rattle.gp_decode.proofs.TextLemmas.{group_last, group_more}
use Rattle.gp_code_objects.proofs.spelled.push_digits.Goals as goal

pub groups-preserved : goal.groups-preserved
groups-preserved c =
    rw c.in_ok-extend_from_slice.ensures.items
    (group_more c.args.out.now.items c.groups.out.items c.without_prefix.result.now _ c.groups.rest.now c.args.text.now c.in-Some.at
    c.groups.invariant c.in-Some.ensures c.without_prefix.ensures refl)

pub returns : goal.returns
returns c =
    group_last _ c.args.out.now.items c.groups.out.items c.without_prefix-2.result.now c.groups.rest.now c.args.text.now c.extend_from_slice-2.new.self.items
    c.groups.invariant c.in_default.ensures c.without_prefix-2.ensures c.extend_from_slice-2.ensures.items

use Rattle.gp_fibre.proofs.Asking.{asks_nobody, empty_more}
use Rattle.gp_fibre.proofs.asked_units.AskedUnits.begin.Goals as goal

pub loop-preserved : goal.loop-preserved
loop-preserved c =
    empty_more c.args.units c.loop.by_onu_id c.push_reserved.new.self c.loop.counter c.ended_at.result c.loop.invariant c.ended_at.ensures
    c.push_reserved.ensures.items c.push_reserved.ensures.len c.push_reserved.ensures.capacity

pub returns : goal.returns
returns c =
    asks_nobody c.args.units (record { searched = c.ended_at-2.result; by_onu_id = c.loop.by_onu_id.items }) c.ended_at-2.ensures c.loop.invariant.each

use Rattle.std.proofs.lemmas.Grind.{common_steps}
use Rattle.std.proofs.Common.{rules, ◌<◌, length, arith}
use Rattle.std.proofs.lemmas.List.Elements.{All-get_or}
use Rattle.gp_script.specs.declared.script.ScriptEvent.TheVariants.{Frames}
use Rattle.gp_script.specs.View.{NamesOneOf}
use Rattle.gp_storm.proofs.plan.plan_of.Goals as goal

pub add-requires : goal.add-requires
add-requires c =
    let script = c.args.script.now in
    let within : c.loop-event.event-index < length script.events.items = search rules in
    let named = All-get_or (NamesOneOf (length script.ports.items) (length script.units.items)) script.events.items c.loop-event.event-index (Frames 0 0) within c.requires.events in
    (length script.units.items, rw (c.loop-event.invariant.ports, c.deref-event-items.ensures.value) named)

pub loop-event-preserved : goal.loop-event-preserved
loop-event-preserved c = grind (arith, common_steps)

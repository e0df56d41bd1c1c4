use Rattle.std.proofs.Common.{◌≡◌, true, false, List, length, sym, subst, rules}
use Rattle.std.specs.Prelude.{set}
use Rattle.gp_machine.specs.declared.entry.Entry.{Entry}
use Rattle.gp_fibre.specs.Parts.{PortPuts}
use Rattle.gp_fibre.specs.Step.{FibreInput}
use Rattle.gp_fibre.specs.Schedule.{is_due, is_lost}
use Rattle.gp_fibre.proofs.Parts.{arrives_one, proper_push, puts_one, written_last}
use Rattle.gp_fibre.proofs.running.arrive.Goals as goal

pub returns-clause-puts : goal.returns-clause-puts
returns-clause-puts g c =
    let before = c.args.entries.now.items in
    let due : is_due c.args.frame c.args.flight ≡ true = search rules in
    let kept : is_lost c.args.lost.now c.args.flight.number ≡ false = search rules in
    let place : c.len-place.result ≡ length before = search (rules, c.len-place.ensures) in
    let after : List Entry = set c.push_reserved.new.self.items c.len-place.result c.take_into.new.entry in
    subst (λ (is : List FibreInput). PortPuts c.args.fibre.now.world is before after c.take_into.new.self.world)
    (sym (arrives_one c.args.lost.now c.args.frame c.args.flight due kept))
    (puts_one c.args.fibre.now.world c.take_into.new.self.world c.args.flight.number c.in-Some.burst c.take_into.new.entry before after
    (sym c.in-Some.ensures) c.take_into.ensures.taken (written_last before _ _ c.take_into.new.entry c.len-place.result c.push_reserved.ensures.items place))

pub returns-clause-proper : goal.returns-clause-proper
returns-clause-proper g c =
    let before = c.args.entries.now.items in
    let place : c.len-place.result ≡ length before = search (rules, c.len-place.ensures) in
    proper_push before _ c.take_into.new.entry (written_last before _ _ c.take_into.new.entry c.len-place.result c.push_reserved.ensures.items place) c.requires.proper c.take_into.ensures.proper

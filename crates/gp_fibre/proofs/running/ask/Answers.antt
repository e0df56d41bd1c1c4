use Rattle.std.proofs.Common.{◌≡◌, ◌∙◌, length, rules}
use Rattle.gp_fibre.proofs.Playing.{asked}
use Rattle.gp_fibre.proofs.Coming.{comes_since}
use Rattle.gp_fibre.proofs.Parts.{proper_push, written_last}
use Rattle.gp_fibre.proofs.running.ask.Goals as goal

pub returns-clause-asks : goal.returns-clause-asks
returns-clause-asks g c =
    let before = c.args.entries.now.items in
    let place : c.len-place.result ≡ length before = search (rules, c.len-place.ensures) in
    asked c.args.lost.now c.args.fibre.now.world c.take_into.new.self.world c.pass_on.new.fibre.world c.give_on.new.fibre.world c.copies-copy.result c.grants-grant.result
    c.take_into.new.entry before _ c.take_into.ensures.taken c.copies-copy.ensures.value c.grants-grant.ensures.value
    c.pass_on.ensures.taken c.give_on.ensures.taken c.pass_on.ensures.bursts (written_last before _ _ c.take_into.new.entry c.len-place.result c.push_reserved.ensures.items place)

pub returns-clause-comes : goal.returns-clause-comes
returns-clause-comes g c =
    comes_since c.args.frame c.args.fibre.now.world c.pass_on.new.fibre.world c.give_on.new.fibre.world c.args.flights.now.flights c.give_on.new.flights.flights
    (c.pass_on.ensures.bursts ∙ c.take_into.ensures.taken.bursts) c.give_on.ensures.comes

pub returns-clause-proper : goal.returns-clause-proper
returns-clause-proper g c =
    let before = c.args.entries.now.items in
    let place : c.len-place.result ≡ length before = search (rules, c.len-place.ensures) in
    proper_push before _ c.take_into.new.entry (written_last before _ _ c.take_into.new.entry c.len-place.result c.push_reserved.ensures.items place) c.requires.proper c.take_into.ensures.proper

use Rattle.std.proofs.Common.{sym, rules}
use Rattle.gp_ranging.specs.declared.grant.Grant.TheVariants.{Range, Poll}
use Rattle.gp_port.specs.Answers.{number_given}
use Rattle.gp_port.proofs.Wishes.{heard_wish, poll_gives, range_gives}
use Rattle.gp_port.proofs.port_machine.PortMachine.receive.Goals as goal

pub returns-in-Range-clause-wished : goal.returns-in-Range-clause-wished
returns-in-Range-clause-wished c =
    let m = c.in-Some-heard.message in
    let n = c.in-Range.onu in
    heard_wish c.args.purse c.args.self.now c.args.at c.args.heard c.in-Some.window (Range n) m c.args.wished (number_given c.in_range.result.0) (rw (← c.self.view_is) c.in-Some.is) c.in-Some-heard.is (sym c.in-Range.ensures)
    (range_gives c.args.purse c.args.self.now c.args.at n m)

pub returns-in-Poll-clause-wished : goal.returns-in-Poll-clause-wished
returns-in-Poll-clause-wished c =
    let m = c.in-Some-heard.message in
    let n = c.in-Poll.onu in
    heard_wish c.args.purse c.args.self.now c.args.at c.args.heard c.in-Some.window (Poll n) m c.args.wished (number_given c.in_poll.result.0) (rw (← c.self.view_is) c.in-Some.is) c.in-Some-heard.is (sym c.in-Poll.ensures)
    (poll_gives c.args.purse c.args.self.now c.args.at n m)

pub returns-in-Search-clause-wished : goal.returns-in-Search-clause-wished
returns-in-Search-clause-wished c = search rules

pub returns-in-Search-clause-outcome : goal.returns-in-Search-clause-outcome
returns-in-Search-clause-outcome c = search rules

use Rattle.std.proofs.Common.{rules}
use Rattle.gp_watch.specs.declared.fault.WatchFault.TheVariants.{Full}
use Rattle.gp_watch.specs.Heard.{heard_of}
use Rattle.gp_audit.specs.Failing.{HeardFails}
use Rattle.gp_audit.specs.Hearing.{heard_told}
use Rattle.gp_audit.proofs.BookLemmas.{fails_so}
use Rattle.gp_audit.proofs.PortLemmas.{full_fails, heard_then, rules_fail}
use Rattle.gp_audit.proofs.port.Port.hear.Goals as goal

pub returns-clause-told : goal.returns-clause-told
returns-clause-told c =
    heard_then c.args.options.now c.args.place.now c.args.self.now c.args.said.now (heard_of c.args.heard.now) c.overfills-overfills.result c.args.book.now c.tell_broken.new.book
    c.tell_full.new.book c.overfills-overfills.ensures c.in_ok-tell_broken.ensures.told c.in_ok-tell_full.ensures.told

pub returns-in_err-tell_broken-clause-fault : goal.returns-in_err-tell_broken-clause-fault
returns-in_err-tell_broken-clause-fault c =
    let heard = heard_of c.args.heard.now in
    fails_so c.args.book.now.sum (heard_told c.args.options.now c.args.place.now c.args.self.now c.args.said.now heard) (HeardFails c.args.options.now c.args.self.now heard Full)
    c.in_err-tell_broken.field-0.0 c.from_residual.result (search rules)
    (rules_fail c.args.options.now c.args.place.now c.args.self.now c.args.said.now heard c.args.book.now.sum _ c.in_err-tell_broken.field-0.0 c.in_err-tell_broken.ensures.fault)

pub returns-in_err-tell_full-clause-fault : goal.returns-in_err-tell_full-clause-fault
returns-in_err-tell_full-clause-fault c =
    let heard = heard_of c.args.heard.now in
    fails_so c.args.book.now.sum (heard_told c.args.options.now c.args.place.now c.args.self.now c.args.said.now heard) (HeardFails c.args.options.now c.args.self.now heard Full)
    c.in_err-tell_full.field-0.0 c.from_residual-in_err-tell_full.result (search rules)
    (full_fails c.args.options.now c.args.place.now c.args.self.now c.args.said.now heard c.overfills-overfills.result c.args.book.now c.tell_broken.new.book _ c.in_err-tell_full.field-0.0
    c.overfills-overfills.ensures c.in_ok-tell_broken.ensures.told c.in_err-tell_full.ensures.fault)

use Rattle.std.proofs.Common.{◌≡◌, List, ap, rules, ◌∙◌}
use Rattle.gp_observer.specs.declared.rule.Rule.{Rule}
use Rattle.gp_observer.specs.Heard.{breaks}
use Rattle.gp_observer.specs.Rules.{Settings}
use Rattle.gp_watch.specs.Heard.{heard_of}
use Rattle.gp_audit.specs.Notice.{settings_at}
use Rattle.gp_audit.specs.Port.{PortState}
use Rattle.gp_audit.specs.RuleSet.{is_told}
use Rattle.gp_audit.specs.Hearing.{findings_of, told_rules}
use Rattle.gp_audit.proofs.BookLemmas.{fails_so}
use Rattle.gp_audit.proofs.FindingLemmas.{found_all, found_fails, found_more}
use Rattle.gp_audit.proofs.port.Port.tell_broken.Goals as goal

pub loop-at-preserved : goal.loop-at-preserved
loop-at-preserved c =
    found_more c.args.options.now (is_told c.args.options.now.told (heard_of c.args.heard.now)) c.args.self.now.watch c.args.place.now c.args.said.now c.as_slice-rules.result.now
    c.loop-at.at _ c.args.book.now c.loop-at.book c.tell_rule.new.book c.loop-at-test.true c.loop-at.invariant c.in_ok-tell_rule.ensures.told

pub returns-clause-told : goal.returns-clause-told
returns-clause-told c =
    let heard = heard_of c.args.heard.now in
    let wanted : List Rule = breaks (settings_at c.args.options.now c.args.place.now.port) c.args.self.now.watch heard in
    let same : c.as_slice-rules.result.now ≡ wanted =
    c.as_slice-rules.ensures ∙ c.broken-broken.ensures ∙ ap (λ (s : Settings). breaks s c.self.inside.watch heard) c.settings.ensures
    ∙ ap (λ (p : PortState). breaks (settings_at c.args.options.now c.args.place.now.port) p.watch heard) c.self.view_is in
    found_all c.args.options.now (is_told c.args.options.now.told heard) c.args.self.now.watch c.args.place.now c.args.said.now c.as_slice-rules.result.now wanted
    c.loop-at.at c.args.book.now c.loop-at.book same c.loop-at-test.false c.loop-at.invariant

pub returns-in_err-tell_rule-clause-fault : goal.returns-in_err-tell_rule-clause-fault
returns-in_err-tell_rule-clause-fault c =
    let heard = heard_of c.args.heard.now in
    let wanted : List Rule = breaks (settings_at c.args.options.now c.args.place.now.port) c.args.self.now.watch heard in
    let same : c.as_slice-rules.result.now ≡ wanted =
    c.as_slice-rules.ensures ∙ c.broken-broken.ensures ∙ ap (λ (s : Settings). breaks s c.self.inside.watch heard) c.settings.ensures
    ∙ ap (λ (p : PortState). breaks (settings_at c.args.options.now c.args.place.now.port) p.watch heard) c.self.view_is in
    fails_so c.args.book.now.sum (findings_of c.args.self.now.watch c.args.place.now c.args.said.now (told_rules c.args.options.now c.args.place.now.port c.args.self.now.watch heard)) ⊥
    c.in_err-tell_rule.field-0.0 c.from_residual.result (search rules)
    (found_fails c.args.options.now (is_told c.args.options.now.told heard) c.args.self.now.watch c.args.place.now c.args.said.now c.as_slice-rules.result.now wanted c.loop-at.at _
    c.args.book.now c.loop-at.book c.in_err-tell_rule.field-0.0 same c.loop-at-test.true c.loop-at.invariant c.in_err-tell_rule.ensures.fault)

use Rattle.std.proofs.Common.{rules, subst, OnOk}
use Rattle.gp_waves.specs.declared.port.Scope.{Scope}
use Rattle.gp_waves.specs.Port.{HearsLog, both}
use Rattle.gp_waves.specs.Hearing.{fibre_of, scope_of}
use Rattle.gp_waves.proofs.HearingLemmas.{falls_at, heard_at, logs_at, logs_none, none_at}
use Rattle.gp_waves.proofs.hearing.Waves.hear_log.Goals as goal

pub returns-then-falls-clause-heard : goal.returns-then-falls-clause-heard
returns-then-falls-clause-heard c =
    falls_at c.args.falls c.args.number (HearsLog (scope_of c.args.self.now.options.frames c.args.self.now.options.mask c.args.number) c.args.time c.args.said.now) (fibre_of c.args.self.now) (search rules)

pub returns-in-Some-clause-heard : goal.returns-in-Some-clause-heard
returns-in-Some-clause-heard c =
    logs_at c.hear_log.result c.args.falls c.args.number (HearsLog (scope_of c.args.self.now.options.frames c.args.self.now.options.mask c.args.number) c.args.time c.args.said.now) (fibre_of c.args.self.now) _ (search rules)
    (heard_at c.hear_log.result c.args.number c.from.result (HearsLog (scope_of c.args.self.now.options.frames c.args.self.now.options.mask c.args.number) c.args.time c.args.said.now)
    c.args.self.now.ports.items c.in-Some.port.now c.hear_log.new.self c.args.self.now.held c.hear_log.new.held c.from.ensures c.in-Some.ensures.item.3.0
    c.in-Some.ensures.item.1
    (subst (λ (s : Scope). OnOk c.hear_log.result (HearsLog s c.args.time c.args.said.now (both c.in-Some.port.now c.args.self.now.held) (both c.hear_log.new.self c.hear_log.new.held)))
    c.scope_of-scope.ensures c.hear_log.ensures))

pub returns-in-None-clause-heard : goal.returns-in-None-clause-heard
returns-in-None-clause-heard c =
    logs_none c.args.falls c.args.number (HearsLog (scope_of c.args.self.now.options.frames c.args.self.now.options.mask c.args.number) c.args.time c.args.said.now) (fibre_of c.args.self.now) _ (search rules)
    (none_at c.args.number c.from.result (HearsLog (scope_of c.args.self.now.options.frames c.args.self.now.options.mask c.args.number) c.args.time c.args.said.now) c.args.self.now.ports.items
    c.args.self.now.held c.from.ensures (search rules))

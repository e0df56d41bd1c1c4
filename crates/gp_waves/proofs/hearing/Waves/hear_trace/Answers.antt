use Rattle.std.proofs.Common.{rules, subst, OnOk}
use Rattle.gp_waves.specs.declared.port.Scope.{Scope}
use Rattle.gp_waves.specs.Port.{HearsTrace, both}
use Rattle.gp_waves.specs.Hearing.{scope_of}
use Rattle.gp_waves.proofs.HearingLemmas.{heard_at, none_at}
use Rattle.gp_waves.proofs.hearing.Waves.hear_trace.Goals as goal

pub returns-in-Some-clause-heard : goal.returns-in-Some-clause-heard
returns-in-Some-clause-heard c =
    heard_at c.hear_trace.result c.args.number c.from.result
    (HearsTrace (scope_of c.args.self.now.options.frames c.args.self.now.options.mask c.args.number) c.args.time c.args.text.now c.args.is_frame c.args.first.now c.args.second.now)
    c.args.self.now.ports.items c.in-Some.port.now c.hear_trace.new.self c.args.self.now.held c.hear_trace.new.held c.from.ensures c.in-Some.ensures.item.3.0
    c.in-Some.ensures.item.1
    (subst (λ (s : Scope). OnOk c.hear_trace.result (HearsTrace s c.args.time c.args.text.now c.args.is_frame c.args.first.now c.args.second.now
    (both c.in-Some.port.now c.args.self.now.held) (both c.hear_trace.new.self c.hear_trace.new.held))) c.scope_of-scope.ensures c.hear_trace.ensures)

pub returns-in-None-clause-heard : goal.returns-in-None-clause-heard
returns-in-None-clause-heard c =
    none_at c.args.number c.from.result
    (HearsTrace (scope_of c.args.self.now.options.frames c.args.self.now.options.mask c.args.number) c.args.time c.args.text.now c.args.is_frame c.args.first.now c.args.second.now)
    c.args.self.now.ports.items c.args.self.now.held c.from.ensures (search rules)

use Rattle.std.proofs.Common.{[], None, Err, refl, rules}
use Rattle.gp_log.specs.declared.fault.LogFault.TheVariants.{Long}
use Rattle.gp_audit.specs.Audit.{AuditState, Audits}
use Rattle.gp_audit.proofs.ServingLemmas.{all_counted, overfull, unaudited, line_says, stands, stopped_as}
use Rattle.gp_audit.proofs.serving.AuditorLineWork.long_line.Goals as goal

pub returns-in_err-put : goal.returns-in_err-put
returns-in_err-put g c =
    let old : AuditState = record { options = c.self.inside.options; layout = c.self.inside.layout; ports = c.self.inside.ports; sum = c.self.inside.book.sum } in
    let says : Audits c.args.self.now None c.as_slice.result.now (stands old c.self.inside.ports c.tell_error.new.self.sum) =
    line_says old c.args.self.now None (Err Long) [] c.as_slice.result.now c.in_ok-number.number c.begin_line.new.self c.tell_error.new.self c.self.inside.ports c.self.view_is refl refl
    c.in_ok-number.ensures.empty c.in_ok-number.ensures.sum c.in_ok-number.ensures.number c.in_ok-tell_error.ensures.told refl c.as_slice.ensures.value in
    stopped_as {T = Unit {0}} None c.args.self.now _ (stands old c.self.inside.ports c.tell_error.new.self.sum) c.args.sink.now c.put.new.self c.as_slice.result.now _ _ says
    (search rules) c.from_residual-in_err-put.ensures.1

pub returns-in_err-number : goal.returns-in_err-number
returns-in_err-number g c =
    let old : AuditState = record { options = c.self.inside.options; layout = c.self.inside.layout; ports = c.self.inside.ports; sum = c.self.inside.book.sum } in
    unaudited None c.args.self.now _ c.args.sink.now c.in_err-number.field-0.0 _ (search rules) (λ full. all_counted old c.args.self.now None c.self.view_is c.in_err-number.ensures.full)

pub returns-in_err-tell_error : goal.returns-in_err-tell_error
returns-in_err-tell_error g c =
    let old : AuditState = record { options = c.self.inside.options; layout = c.self.inside.layout; ports = c.self.inside.ports; sum = c.self.inside.book.sum } in
    unaudited None c.args.self.now _ c.args.sink.now c.in_err-tell_error.field-0.0 _ (search rules)
    (overfull old c.args.self.now None (Err Long) c.begin_line.new.self.sum c.in_ok-number.number c.in_err-tell_error.field-0.0 c.self.view_is refl c.in_ok-number.ensures.sum
    c.in_ok-number.ensures.number c.in_err-tell_error.ensures.fault)

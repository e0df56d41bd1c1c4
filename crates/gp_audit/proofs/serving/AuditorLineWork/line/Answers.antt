use Rattle.std.proofs.Common.{ℕ, List, Some, refl, rules, subst, sym, ap, ◌∙◌}
use Rattle.gp_flow.proofs.AnswerLemmas.{put_answers}
use Rattle.gp_log.specs.Line.{text_of}
use Rattle.line_columns.specs.Layout.{plain_of}
use Rattle.gp_audit.specs.declared.book.Book.{Book}
use Rattle.gp_audit.specs.Audit.{AuditState, Auditing, Audits}
use Rattle.gp_audit.specs.Places.{IsTraced}
use Rattle.gp_audit.proofs.ReadLemmas.{read_near, read_traced}
use Rattle.gp_audit.proofs.ServingLemmas.{all_counted, overfull, unaudited, again_told, line_says, reads_plain, stands, stopped_as}
use Rattle.gp_audit.proofs.serving.AuditorLineWork.line.Goals as goal

pub tell_in-requires-clause-traced : goal.tell_in-requires-clause-traced
tell_in-requires-clause-traced g c =
    subst (λ (t : List ℕ). IsTraced t c.read_line-read.result) (sym c.text_of.ensures)
    (read_traced c.in_ok-plain.plain.now c.read_line-read.result c.read_line-read.ensures)

pub audit-requires : goal.audit-requires
audit-requires g c = read_near c.in_ok-plain.plain.now c.read_line-read.result c.read_line-read.ensures

pub returns-in_err-put : goal.returns-in_err-put
returns-in_err-put g c =
    let old : AuditState = record { options = c.self.inside.options; layout = c.self.inside.layout; ports = c.self.inside.ports; sum = c.self.inside.book.sum } in
    let told : Book = record { said = c.tell_in.new.out; sum = c.begin_line.new.self.sum } in
    let says : Audits c.args.self.now (Some c.args.text.now) c.as_slice.result.now (stands old c.audit.new.self c.audit.new.book.sum) =
    line_says old c.args.self.now (Some c.args.text.now) c.read_line-read.result c.tell_in.new.out.items c.as_slice.result.now c.in_ok-number.number told c.audit.new.book
    c.audit.new.self c.self.view_is
    (reads_plain c.self.inside.layout c.args.text.now c.in_ok-plain.plain.now c.read_line-read.result c.in_ok-plain.ensures c.read_line-read.ensures)
    (again_told c.self.inside.options.form c.self.inside.again c.self.inside.options.mask c.text_of.result.now (text_of (plain_of c.self.inside.layout c.args.text.now)) c.read_line-read.result c.tell_in.new.out.items
    c.self.invariant (c.text_of.ensures ∙ ap text_of c.in_ok-plain.ensures) c.in_ok-tell_in.ensures.told) refl c.in_ok-number.ensures.sum c.in_ok-number.ensures.number c.in_ok-audit.ensures.told
    c.in_ok-audit.ensures.noted c.as_slice.ensures.value in
    stopped_as {T = Unit {0}} (Some c.args.text.now) c.args.self.now _ (stands old c.audit.new.self c.audit.new.book.sum) c.args.sink.now c.put.new.self c.as_slice.result.now _ _ says
    (search rules) c.from_residual-in_err-put.ensures.1

pub returns : goal.returns
returns g c =
    let old : AuditState = record { options = c.self.inside.options; layout = c.self.inside.layout; ports = c.self.inside.ports; sum = c.self.inside.book.sum } in
    let told : Book = record { said = c.tell_in.new.out; sum = c.begin_line.new.self.sum } in
    let says : Audits c.args.self.now (Some c.args.text.now) c.as_slice.result.now (stands old c.audit.new.self c.audit.new.book.sum) =
    line_says old c.args.self.now (Some c.args.text.now) c.read_line-read.result c.tell_in.new.out.items c.as_slice.result.now c.in_ok-number.number told c.audit.new.book
    c.audit.new.self c.self.view_is
    (reads_plain c.self.inside.layout c.args.text.now c.in_ok-plain.plain.now c.read_line-read.result c.in_ok-plain.ensures c.read_line-read.ensures)
    (again_told c.self.inside.options.form c.self.inside.again c.self.inside.options.mask c.text_of.result.now (text_of (plain_of c.self.inside.layout c.args.text.now)) c.read_line-read.result c.tell_in.new.out.items
    c.self.invariant (c.text_of.ensures ∙ ap text_of c.in_ok-plain.ensures) c.in_ok-tell_in.ensures.told) refl c.in_ok-number.ensures.sum c.in_ok-number.ensures.number c.in_ok-audit.ensures.told
    c.in_ok-audit.ensures.noted c.as_slice.ensures.value in
    put_answers Auditing (Some c.args.text.now) c.args.self.now (stands old c.audit.new.self c.audit.new.book.sum) c.args.sink.now c.put.new.self c.as_slice.result.now c.in_ok-put.field-0
    (tt {0}) says c.in_ok-put.ensures

pub returns-in_err-number : goal.returns-in_err-number
returns-in_err-number g c =
    let old : AuditState = record { options = c.self.inside.options; layout = c.self.inside.layout; ports = c.self.inside.ports; sum = c.self.inside.book.sum } in
    unaudited (Some c.args.text.now) c.args.self.now _ c.args.sink.now c.in_err-number.field-0.0 _ (search rules) (λ full. all_counted old c.args.self.now (Some c.args.text.now) c.self.view_is c.in_err-number.ensures.full)

pub returns-in_err-audit : goal.returns-in_err-audit
returns-in_err-audit g c =
    let old : AuditState = record { options = c.self.inside.options; layout = c.self.inside.layout; ports = c.self.inside.ports; sum = c.self.inside.book.sum } in
    unaudited (Some c.args.text.now) c.args.self.now _ c.args.sink.now c.in_err-audit.field-0.0 _ (search rules)
    (overfull old c.args.self.now (Some c.args.text.now) c.read_line-read.result c.begin_line.new.self.sum c.in_ok-number.number c.in_err-audit.field-0.0 c.self.view_is
    (reads_plain c.self.inside.layout c.args.text.now c.in_ok-plain.plain.now c.read_line-read.result c.in_ok-plain.ensures c.read_line-read.ensures) c.in_ok-number.ensures.sum
    c.in_ok-number.ensures.number c.in_err-audit.ensures.fault)

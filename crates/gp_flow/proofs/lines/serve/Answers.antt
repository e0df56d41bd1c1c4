use Rattle.std.proofs.Common.{◌≡◌, ◌<◌, ◌∙◌, sym, rules, ap, inl, false, take, length}
use Rattle.std.proofs.lemmas.Result.{err_from_is_err_and}
use Rattle.std.proofs.KnownBytes.{Keeps-refl}
use Rattle.gp_flow.proofs.RunLemmas.{reading_start, reading_step, serves_no_memory, serves_over, serves_read, serves_piece_fault, serves_last_fault, serves_end, serves_start_fault, no_read, failed_read}
use Rattle.gp_flow.proofs.lines.serve.Goals as goal

pub returns-in_err-finish : goal.returns-in_err-finish
returns-in_err-finish g c =
    let p = err_from_is_err_and c.from_residual.result c.from_residual.ensures.1 in
    rw (p.1, p.2) (serves_start_fault _ _ _ _ _ _ _ _ _ c.in_err-finish.ensures)

pub returns-in_err-line : goal.returns-in_err-line
returns-in_err-line g c =
    let p = err_from_is_err_and c.from_residual-in_err-line.result c.from_residual-in_err-line.ensures.1 in
    rw (p.1, p.2) (serves_no_memory _ _ _ _ _ _ _ _ c.requires c.in_ok-finish.ensures)

pub reads-init : goal.reads-init
reads-init g c = reading_start _ _ _ _ _ _ _ _ c.in_ok-line.ensures c.requires c.in_ok-finish.ensures

pub returns-in-Err : goal.returns-in-Err
returns-in-Err g c = serves_read _ _ _ _ _ _ _ _ _ c.reads.invariant _ _ c.in-Err.ensures.bytes (inl (failed_read _ _ c.in-Err.ensures.failed))

pub returns-in_err-whole-in-Ok-eq0 : goal.returns-in_err-whole-in-Ok-eq0
returns-in_err-whole-in-Ok-eq0 g c =
    let p = err_from_is_err_and c.from_residual-in_err-whole-in-Ok-eq0.result c.from_residual-in_err-whole-in-Ok-eq0.ensures.1 in
    rw (p.1, p.2) (serves_last_fault _ _ _ _ _ _ _ _ _ c.reads.invariant _ _ _ _ _ _ _ (ap (λ n. take n c.ask.new.piece) c.in-Ok-eq0.field-0-test) c.in-Ok-eq0.ensures.bytes.0 c.in-Ok-eq0.ensures.failed c.in_err-whole-in-Ok-eq0.ensures.answers)

pub returns-in-Ok-eq0 : goal.returns-in-Ok-eq0
returns-in-Ok-eq0 g c =
    let some : 0 < length c.ask.new.piece = search rules in
    let known : c.reads.source.failed ≡ false = search rules in
    rw c.end_of_input.ensures (serves_end _ _ _ _ _ _ _ _ _ c.reads.invariant _ _ _ _ _ _ _ c.in_ok-whole-in-Ok-eq0.ensures.whole (ap (λ n. take n c.ask.new.piece) c.in-Ok-eq0.field-0-test) c.in-Ok-eq0.ensures.bytes.0 (c.in-Ok-eq0.ensures.bytes.1 c.in-Ok-eq0.field-0-test some) known c.in-Ok-eq0.ensures.failed
    c.in_ok-whole-in-Ok-eq0.ensures.answers c.in_ok-whole-in-Ok-eq0.ensures.kept)

pub returns-then-is_over : goal.returns-then-is_over
returns-then-is_over g c =
    let done = c.in_ok-serve_piece-in-Ok.ensures in
    let reading = reading_step _ _ _ _ _ _ _ _ _ c.reads.invariant _ _ _ _ _ _ c.in-Ok.ensures.bytes.0 c.in-Ok.ensures.failed done.answers done.next done.kept in
    serves_over _ _ _ _ _ _ _ _ _ reading _ (sym c.is_over.ensures ∙ c.if-is_over.true)

pub reads-preserved : goal.reads-preserved
reads-preserved g c =
    let done = c.in_ok-serve_piece-in-Ok.ensures in
    reading_step _ _ _ _ _ _ _ _ _ c.reads.invariant _ _ _ _ _ _ c.in-Ok.ensures.bytes.0 c.in-Ok.ensures.failed done.answers done.next done.kept

pub returns-in_err-serve_piece-in-Ok : goal.returns-in_err-serve_piece-in-Ok
returns-in_err-serve_piece-in-Ok g c =
    let p = err_from_is_err_and c.from_residual-in_err-serve_piece-in-Ok.result c.from_residual-in_err-serve_piece-in-Ok.ensures.1 in
    rw (p.1, p.2) (serves_piece_fault _ _ _ _ _ _ _ _ _ c.reads.invariant _ _ _ _ _ _ _ c.in-Ok.ensures.bytes.0 c.in-Ok.ensures.failed c.in_err-serve_piece-in-Ok.ensures.answers)

pub returns : goal.returns
returns g c = serves_read _ _ _ _ _ _ _ _ _ c.reads.invariant _ _ (Keeps-refl _) (no_read _ _ _ c.can_read.ensures c.reads-test.false)

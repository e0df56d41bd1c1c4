use Rattle.std.proofs.Common.{ℕ, List, codes, ◌≤◌, arith, subst}
use Rattle.gp_trace.specs.Writes.{Writes}
use Rattle.std.specs.Fmt.{decimal}
use Rattle.gp_trace.specs.Text.{answer_text, event_text, line_of}
use Rattle.gp_trace.proofs.WritesLemmas.{before, joined, within}
use Rattle.gp_trace.proofs.line.write_before.Goals as goal

pub returns : goal.returns
unfolding line_of
returns c =
    let e = c.args.entry.now in
    let end = before _ _ _ _ _ _ _ _ _ _ c.write_text-at.ensures c.write_answer-at.ensures in
    let gave = before _ _ _ _ _ _ _ _ _ _ end c.write_text-at-2.ensures in
    let event = before _ _ _ _ _ _ _ _ _ _ gave c.write_event-at.ensures in
    let apart = before _ _ _ _ _ _ _ _ _ _ event c.write_text-at-3.ensures in
    let number = before _ _ _ _ _ _ _ _ _ _ apart c.write_u64-at.ensures in
    let behind = before _ _ _ _ _ _ _ _ _ _ number c.write_text-at-4.ensures in
    let port = before _ _ _ _ _ _ _ _ _ _ behind c.write_u8.ensures in
    subst (λ (text : List ℕ). Writes 256 text c.args.line.now c.args.end c.write_u8.new.line c.write_u8.result)
    (joined (decimal c.args.port) (codes " ") (decimal c.args.number) (codes " ") (event_text e.event) (codes " = ") (answer_text c.args.mask e.answer) (codes "\n"))
    (within 255 256 _ _ _ _ _ (omega arith) port)

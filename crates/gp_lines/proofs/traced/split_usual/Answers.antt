use Rattle.std.proofs.Common.{◌≤◌, ◌++◌, arith, codes, refl}
use Rattle.std.proofs.lemmas.Bool.Decides.{Decides-eqb}
use Rattle.std.proofs.lemmas.Slice.Eq.{strip_prefix_is}
use Rattle.gp_lines.proofs.LeadingLemmas.{frame_leads, line_cut}
use Rattle.gp_lines.proofs.traced.split_usual.Goals as goal
use Rattle.gp_machine.specs.declared.event.Event.TheVariants.{Frame}

pub returns-in-Some : goal.returns-in-Some
returns-in-Some c =
    let told = c.in_ok-number.told.now in
    let answer = c.in-Some.answer.now in
    let is = rw c.in-Some.is at (strip_prefix_is Decides-eqb told (codes "frame = ") c.strip_prefix.result c.strip_prefix.ensures.cases) in
    let low : c.in_ok-port.port ≤ 15 = omega arith in
    line_cut c.args.text.now c.in_ok-port.behind.now told (codes " = " ++ answer) answer c.in_ok-port.port c.in_ok-number.number Frame
    c.in_ok-port.ensures c.in_ok-number.ensures (frame_leads told (codes " = " ++ answer) is) refl low

pub returns : goal.returns
returns c =
    let rest = c.in_ok-event.rest.now in
    let behind = rw c.in_ok-answer.was at (strip_prefix_is Decides-eqb rest (codes " = ") c.strip_prefix-2.result c.strip_prefix-2.ensures.cases) in
    let low : c.in_ok-port.port ≤ 15 = omega arith in
    line_cut c.args.text.now c.in_ok-port.behind.now c.in_ok-number.told.now rest c.in_ok-answer.answer.now c.in_ok-port.port c.in_ok-number.number c.in_ok-event.event
    c.in_ok-port.ensures c.in_ok-number.ensures c.in_ok-event.ensures behind low

use Rattle.std.proofs.Common.{◌≡◌, ◌≤◌, [], length, arith, rules, codes, refl, sym, ◌∙◌}
use Rattle.std.proofs.lemmas.Slice.Eq.{bytes_eq-Decides}
use Rattle.gp_machine.specs.declared.event.Event.TheVariants.{Frame}
use Rattle.gp_lines.proofs.LeadingLemmas.{frame_leads, turn_whole}
use Rattle.gp_lines.proofs.turn.usual_turn.Goals as goal

pub returns-then-is_word : goal.returns-then-is_word
returns-then-is_word c = λ mask.
    let told = c.in_ok-port.told.now in
    let is : told ≡ codes "frame" = (bytes_eq-Decides told (codes "frame")).0 (sym c.is_word.ensures ∙ c.if-is_word.true) in
    let low : c.in_ok-port.port ≤ 15 = omega arith in
    turn_whole mask c.args.text.now told [] c.in_ok-port.port Frame c.in_ok-port.ensures (frame_leads told [] is) refl low

pub returns : goal.returns
returns c = λ mask.
    let rest = c.in_ok-event.rest.now in
    let none : length rest ≡ 0 = search rules in
    let low : c.in_ok-port.port ≤ 15 = omega arith in
    turn_whole mask c.args.text.now c.in_ok-port.told.now rest c.in_ok-port.port c.in_ok-event.event c.in_ok-port.ensures c.in_ok-event.ensures none low

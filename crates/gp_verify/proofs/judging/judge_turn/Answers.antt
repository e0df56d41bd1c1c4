use Rattle.std.proofs.Common.{◌∙◌, sym}
use Rattle.gp_verify.proofs.JudgingLemmas.{moves_on, other_number, no_step, spelled_small, told_alone, told_nothing, told_it, turn_room, not_true}
use Rattle.gp_verify.proofs.PortLemmas.{turn_ports}
use Rattle.gp_verify.proofs.judging.judge_turn.Goals as goal

pub event_is_told-requires : goal.event_is_told-requires
event_is_told-requires g c = spelled_small _ c.args.line.event c.requires.split.told.8

pub returns-then-is_line_of-clause-judged : goal.returns-then-is_line_of-clause-judged
returns-then-is_line_of-clause-judged g c =
    told_it c.args.mask c.args.player.now c.tell_turn.new.self c.args.text.now c.args.line.port c.args.line.event c.in_ok-told.ensures.told.receipt c.in_ok-told.ensures.told.taken c.event_is_told.ensures
    (sym c.in_ok-told.ensures.told.line_is ∙ sym c.as_bytes.ensures ∙ c.is_line_of.ensures.0 c.if-is_line_of.true)
    (told_alone c.args.mask c.args.player.now c.tell_turn.new.self c.args.text.now c.args.line.port c.args.line.number c.args.line.event c.args.line.answer.now c.picked-wished.result c.in_ok-told.ensures.told.receipt
    c.requires.few c.requires.room c.stands.ensures c.requires.split c.picked-wished.ensures c.in_ok-told.ensures.told.taken c.in_ok-told.ensures.told.grants)

pub returns-then-is_line_of-clause-moved : goal.returns-then-is_line_of-clause-moved
returns-then-is_line_of-clause-moved g c = (
  moves_on c.args.mask c.args.player.now c.tell_turn.new.self _ c.in_ok-told.ensures.told.receipt c.tell_turn.new.buffer c.in_ok-told.ensures.told.taken c.in_ok-told.ensures.told.line_is,
  sym c.as_bytes.ensures ∙ c.is_line_of.ensures.0 c.if-is_line_of.true,
)

pub returns-then-is_line_of-clause-room : goal.returns-then-is_line_of-clause-room
returns-then-is_line_of-clause-room g c = turn_room _ _ _ _ c.in_ok-told.ensures.told.taken

pub returns-then-is_line_of-clause-stays : goal.returns-then-is_line_of-clause-stays
returns-then-is_line_of-clause-stays g c = turn_ports _ _ _ _ c.in_ok-told.ensures.told.taken

pub returns-then-told-line-clause-judged : goal.returns-then-told-line-clause-judged
returns-then-told-line-clause-judged g c = (
  told_nothing c.args.mask c.args.player.now c.tell_turn.new.self c.args.text.now c.in_ok-told.ensures.told.receipt
      (told_alone c.args.mask c.args.player.now c.tell_turn.new.self c.args.text.now c.args.line.port c.args.line.number c.args.line.event c.args.line.answer.now c.picked-wished.result c.in_ok-told.ensures.told.receipt
      c.requires.few c.requires.room c.stands.ensures c.requires.split c.picked-wished.ensures c.in_ok-told.ensures.told.taken c.in_ok-told.ensures.told.grants)
      (λ e. not_true c.is_line_of.result (c.is_line_of.ensures.1 (c.as_bytes.ensures ∙ c.in_ok-told.ensures.told.line_is ∙ e)) c.if-is_line_of.false),
  other_number c.args.mask c.args.player.now c.tell_turn.new.self c.args.text.now c.tell_turn.new.buffer c.args.line.port c.args.line.number c.args.line.event c.args.line.answer.now c.picked-wished.result
      c.in_ok-told.ensures.told.receipt c.requires.split c.picked-wished.ensures c.in_ok-told.ensures.told.taken c.in_ok-told.ensures.told.grants c.in_ok-told.ensures.told.line_is c.requires.port (λ e. c.if-told-line.true (c.in_ok-told.ensures.told.number_is ∙ e)),
)

pub returns-then-told-line-clause-moved : goal.returns-then-told-line-clause-moved
returns-then-told-line-clause-moved g c =
    moves_on c.args.mask c.args.player.now c.tell_turn.new.self _ c.in_ok-told.ensures.told.receipt c.tell_turn.new.buffer c.in_ok-told.ensures.told.taken c.in_ok-told.ensures.told.line_is

pub returns-then-told-line-clause-room : goal.returns-then-told-line-clause-room
returns-then-told-line-clause-room g c = turn_room _ _ _ _ c.in_ok-told.ensures.told.taken

pub returns-then-told-line-clause-stays : goal.returns-then-told-line-clause-stays
returns-then-told-line-clause-stays g c = turn_ports _ _ _ _ c.in_ok-told.ensures.told.taken

pub returns-clause-judged : goal.returns-clause-judged
returns-clause-judged g c = (
  told_nothing c.args.mask c.args.player.now c.tell_turn.new.self c.args.text.now c.in_ok-told.ensures.told.receipt
      (told_alone c.args.mask c.args.player.now c.tell_turn.new.self c.args.text.now c.args.line.port c.args.line.number c.args.line.event c.args.line.answer.now c.picked-wished.result c.in_ok-told.ensures.told.receipt
      c.requires.few c.requires.room c.stands.ensures c.requires.split c.picked-wished.ensures c.in_ok-told.ensures.told.taken c.in_ok-told.ensures.told.grants)
      (λ e. not_true c.is_line_of.result (c.is_line_of.ensures.1 (c.as_bytes.ensures ∙ c.in_ok-told.ensures.told.line_is ∙ e)) c.if-is_line_of.false),
  no_step c.args.mask c.args.player.now c.tell_turn.new.self c.args.text.now c.tell_turn.new.buffer c.args.line.port c.args.line.number c.args.line.event c.args.line.answer.now c.picked-wished.result
      c.in_ok-told.ensures.told.receipt c.requires.split c.picked-wished.ensures c.in_ok-told.ensures.told.taken c.in_ok-told.ensures.told.grants c.in_ok-told.ensures.told.line_is (sym c.in_ok-told.ensures.told.number_is ∙ c.if-told-line.false),
)

pub returns-clause-moved : goal.returns-clause-moved
returns-clause-moved g c =
    moves_on c.args.mask c.args.player.now c.tell_turn.new.self _ c.in_ok-told.ensures.told.receipt c.tell_turn.new.buffer c.in_ok-told.ensures.told.taken c.in_ok-told.ensures.told.line_is

pub returns-clause-room : goal.returns-clause-room
returns-clause-room g c = turn_room _ _ _ _ c.in_ok-told.ensures.told.taken

pub returns-clause-stays : goal.returns-clause-stays
returns-clause-stays g c = turn_ports _ _ _ _ c.in_ok-told.ensures.told.taken

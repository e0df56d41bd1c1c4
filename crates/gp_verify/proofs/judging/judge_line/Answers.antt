use Rattle.std.proofs.Common.{◌≤◌, length, arith}
use Rattle.gp_verify.proofs.JudgingLemmas.{no_line, no_port}
use Rattle.gp_verify.proofs.judging.judge_line.Goals as goal

pub returns-in_default-clause-judged : goal.returns-in_default-clause-judged
returns-in_default-clause-judged g c = (
  no_line c.args.mask c.args.player.now c.args.text.now c.requires.few c.requires.room c.in_default.ensures.none,
  λ parts. c.in_default.ensures.none parts.port parts.number parts.event parts.answer parts.split,
)

pub returns-then-from-ports-clause-judged : goal.returns-then-from-ports-clause-judged
returns-then-from-ports-clause-judged g c =
    let past : length c.args.player.now.next ≤ c.in-Some.line.port = omega arith in (
      no_port c.args.mask c.args.player.now c.args.text.now c.in-Some.line.port c.in-Some.line.number c.in-Some.line.event c.in-Some.line.answer.now c.requires.few c.requires.room c.in-Some.ensures.found past,
      record {
        parts = record { port = c.in-Some.line.port; number = c.in-Some.line.number; event = c.in-Some.line.event; answer = c.in-Some.line.answer.now; split = c.in-Some.ensures.found };
        past = past;
      },
    )

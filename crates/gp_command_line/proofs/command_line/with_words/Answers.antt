use Rattle.gp_command_line.proofs.Commands.{added, last_added}
use Rattle.gp_command_line.proofs.command_line.with_words.Goals as goal

pub returns : goal.returns
returns c = λ app was.
    let explain = added _ _ _ _ _ c.in_ok-subcommand.ensures was c.in_ok-explain.ensures in
    let decode = added _ _ _ _ _ c.in_ok-subcommand-2.ensures explain c.in_ok-decode.ensures in
    last_added c.subcommand-3.result _ _ _ _ c.subcommand-3.ensures decode c.in_ok-encode.ensures

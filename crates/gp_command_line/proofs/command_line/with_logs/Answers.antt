use Rattle.gp_command_line.proofs.Commands.{added, last_added}
use Rattle.gp_command_line.proofs.command_line.with_logs.Goals as goal

pub returns : goal.returns
returns c = λ app was.
    let verify = added _ _ _ _ _ c.in_ok-subcommand.ensures was c.in_ok-verify.ensures in
    let audit = added _ _ _ _ _ c.in_ok-subcommand-2.ensures verify c.in_ok-audit.ensures in
    let picture = added _ _ _ _ _ c.in_ok-subcommand-3.ensures audit c.in_ok-picture.ensures in
    last_added c.subcommand-4.result _ _ _ _ c.subcommand-4.ensures picture c.in_ok-waves.ensures

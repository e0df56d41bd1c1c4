use Rattle.gp_command_line.proofs.Commands.{added, last_added}
use Rattle.gp_command_line.proofs.command_line.with_scripts.Goals as goal

pub returns : goal.returns
returns c = λ app was.
    let replay = added _ _ _ _ _ c.in_ok-subcommand.ensures was c.in_ok-replay.ensures in
    let storm = added _ _ _ _ _ c.in_ok-subcommand-2.ensures replay c.in_ok-storm.ensures in
    let drive = added _ _ _ _ _ c.in_ok-subcommand-3.ensures storm c.in_ok-drive.ensures in
    let check = added _ _ _ _ _ c.in_ok-subcommand-4.ensures drive c.in_ok-check.ensures in
    let test = added _ _ _ _ _ c.in_ok-subcommand-5.ensures check c.in_ok-test.ensures in
    last_added c.subcommand-6.result _ _ _ _ c.subcommand-6.ensures test c.in_ok-generate.ensures

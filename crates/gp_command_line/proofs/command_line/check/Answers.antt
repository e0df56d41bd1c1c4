use Rattle.std.proofs.Common.{◌≡◌, ◌∷◌, [], codes}
use Rattle.clap.specs.Words.{new_app}
use Rattle.gp_command_line.specs.CommandLine.{ReadsAs, command, check_rules}
use Rattle.gp_command_line.proofs.Commands.{begun, ruled_by}
use Rattle.gp_command_line.proofs.command_line.check.Goals as goal

pub returns : goal.returns
unfolding command
returns c =
    let start : ReadsAs (new_app (codes "check")) c.after_help.result = begun _ _ _ _ _ _ c.new.ensures.app c.new.ensures.local c.about.ensures c.after_help.ensures in
    let same : c.in_ok-args.args.items ≡ c.flag-storm.result ∷ c.quiet.result ∷ c.format-format.result ∷ c.files.result ∷ [] = c.in_ok-args.ensures.items in
    ruled_by c.args-2.result (check_rules c.args.formats) _ _ _ _ start same
    (c.flag-storm.ensures, (c.quiet.ensures, (c.format-format.ensures, (c.files.ensures, tt)))) c.args-2.ensures

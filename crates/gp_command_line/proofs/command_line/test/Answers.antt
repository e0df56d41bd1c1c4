use Rattle.std.proofs.Common.{◌≡◌, ◌∷◌, [], codes}
use Rattle.clap.specs.Words.{new_app}
use Rattle.gp_command_line.specs.CommandLine.{ReadsAs, command, test_rules}
use Rattle.gp_command_line.proofs.Commands.{begun, ruled_by}
use Rattle.gp_command_line.proofs.command_line.test.Goals as goal

pub returns : goal.returns
unfolding command
returns c =
    let start : ReadsAs (new_app (codes "test")) c.after_help.result = begun _ _ _ _ _ _ c.new.ensures.app c.new.ensures.local c.about.ensures c.after_help.ensures in
    let same : c.in_ok-args.args.items ≡ c.number-jobs.result ∷ c.flag-bless.result ∷ c.valued-junit.result ∷ c.only_failed.result ∷ c.format-format.result ∷ c.folders.result ∷ [] = c.in_ok-args.ensures.items in
    ruled_by c.args-2.result (test_rules c.args.formats) _ _ _ _ start same
    (c.number-jobs.ensures, (c.flag-bless.ensures, (c.valued-junit.ensures, (c.only_failed.ensures, (c.format-format.ensures, (c.folders.ensures, tt)))))) c.args-2.ensures

use Rattle.std.proofs.Common.{◌≡◌, ◌∷◌, [], codes}
use Rattle.clap.specs.Words.{new_app}
use Rattle.gp_command_line.specs.CommandLine.{ReadsAs, command, drive_rules}
use Rattle.gp_command_line.proofs.Commands.{begun, ruled_by}
use Rattle.gp_command_line.proofs.command_line.drive.Goals as goal

pub returns : goal.returns
unfolding command
returns c =
    let start : ReadsAs (new_app (codes "drive")) c.after_help.result = begun _ _ _ _ _ _ c.new.ensures.app c.new.ensures.local c.about.ensures c.after_help.ensures in
    let same : c.in_ok-args.args.items ≡ c.explained_always.result ∷ c.flag-done.result ∷ c.flag-units.result ∷ c.in_words.result ∷ c.timed.result ∷ c.form.result ∷ c.required-script.result ∷ [] = c.in_ok-args.ensures.items in
    ruled_by c.args-2.result (drive_rules c.args.formats) _ _ _ _ start same
    (c.explained_always.ensures, (c.flag-done.ensures, (c.flag-units.ensures, (c.in_words.ensures, (c.timed.ensures, (c.form.ensures, (c.required-script.ensures, tt))))))) c.args-2.ensures

use Rattle.std.proofs.Common.{◌≡◌, ◌∷◌, [], codes}
use Rattle.clap.specs.Words.{new_app}
use Rattle.gp_command_line.specs.CommandLine.{ReadsAs, command, replay_rules}
use Rattle.gp_command_line.proofs.Commands.{begun, ruled_by}
use Rattle.gp_command_line.proofs.command_line.replay.Goals as goal

pub returns : goal.returns
unfolding command
returns c =
    let start : ReadsAs (new_app (codes "replay")) c.after_help.result = begun _ _ _ _ _ _ c.new.ensures.app c.new.ensures.local c.about.ensures c.after_help.ensures in
    let same : c.in_ok-args.args.items ≡ c.explained.result ∷ c.progress.result ∷ c.in_words.result ∷ c.timed.result ∷ c.units_told.result ∷ c.summary.result ∷ c.form.result ∷ c.file.result ∷ [] = c.in_ok-args.ensures.items in
    ruled_by c.args-2.result (replay_rules c.args.formats) _ _ _ _ start same
    (c.explained.ensures, (c.progress.ensures, (c.in_words.ensures, (c.timed.ensures, (c.units_told.ensures, (c.summary.ensures, (c.form.ensures, (c.file.ensures, tt)))))))) c.args-2.ensures

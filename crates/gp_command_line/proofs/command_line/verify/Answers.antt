use Rattle.std.proofs.Common.{◌≡◌, ◌∷◌, [], codes}
use Rattle.clap.specs.Words.{new_app}
use Rattle.gp_command_line.specs.CommandLine.{ReadsAs, command, verify_rules}
use Rattle.gp_command_line.proofs.Commands.{begun, ruled_by}
use Rattle.gp_command_line.proofs.command_line.verify.Goals as goal

pub returns : goal.returns
unfolding command
returns c =
    let start : ReadsAs (new_app (codes "verify")) c.after_help.result = begun _ _ _ _ _ _ c.new.ensures.app c.new.ensures.local c.about.ensures c.after_help.ensures in
    let same : c.in_ok-args.args.items ≡ c.explained_always.result ∷ c.at_least.result ∷ c.progress.result ∷ c.flag-words.result ∷ c.flag-units.result ∷ c.format-format.result ∷ c.required-script.result ∷ c.trace.result ∷ [] = c.in_ok-args.ensures.items in
    ruled_by c.args-2.result (verify_rules c.args.formats) _ _ _ _ start same
    (c.explained_always.ensures, (c.at_least.ensures, (c.progress.ensures, (c.flag-words.ensures, (c.flag-units.ensures, (c.format-format.ensures, (c.required-script.ensures, (c.trace.ensures, tt)))))))) c.args-2.ensures

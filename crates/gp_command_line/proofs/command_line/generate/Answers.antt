use Rattle.std.proofs.Common.{◌≡◌, ◌∷◌, [], codes}
use Rattle.clap.specs.Words.{new_app}
use Rattle.gp_command_line.specs.CommandLine.{ReadsAs, command, generate_rules}
use Rattle.gp_command_line.proofs.Commands.{begun, ruled_by}
use Rattle.gp_command_line.proofs.command_line.generate.Goals as goal

pub returns : goal.returns
unfolding command
returns c =
    let start : ReadsAs (new_app (codes "generate")) c.after_help.result = begun _ _ _ _ _ _ c.new.ensures.app c.new.ensures.local c.about.ensures c.after_help.ensures in
    let same : c.in_ok-args.args.items ≡ c.number-seed.result ∷ c.number-ports.result ∷ c.number-units.result ∷ c.number-events.result ∷ c.number-mistakes.result ∷ [] = c.in_ok-args.ensures.items in
    ruled_by c.args-2.result (generate_rules) _ _ _ _ start same
    (c.number-seed.ensures, (c.number-ports.ensures, (c.number-units.ensures, (c.number-events.ensures, (c.number-mistakes.ensures, tt))))) c.args-2.ensures

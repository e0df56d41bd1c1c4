use Rattle.std.proofs.Common.{◌≡◌, ◌∷◌, [], codes}
use Rattle.clap.specs.Words.{new_app}
use Rattle.gp_command_line.specs.CommandLine.{ReadsAs, command, explain_rules}
use Rattle.gp_command_line.proofs.Commands.{begun, ruled_by}
use Rattle.gp_command_line.proofs.command_line.explain.Goals as goal

pub returns : goal.returns
unfolding command
returns c =
    let start : ReadsAs (new_app (codes "explain")) c.after_help.result = begun _ _ _ _ _ _ c.new.ensures.app c.new.ensures.local c.about.ensures c.after_help.ensures in
    let same : c.in_ok-args.args.items ≡ c.mask.result ∷ c.timed.result ∷ c.form.result ∷ c.flag-as_log.result ∷ c.flag-units.result ∷ c.flag-counts_alone.result ∷ c.trace.result ∷ [] = c.in_ok-args.ensures.items in
    ruled_by c.args-2.result (explain_rules c.args.masks c.args.formats) _ _ _ _ start same
    (c.mask.ensures, (c.timed.ensures, (c.form.ensures, (c.flag-as_log.ensures, (c.flag-units.ensures, (c.flag-counts_alone.ensures, (c.trace.ensures, tt))))))) c.args-2.ensures

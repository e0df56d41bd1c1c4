use Rattle.std.proofs.Common.{◌≡◌, ◌∷◌, [], codes}
use Rattle.clap.specs.Words.{new_app}
use Rattle.gp_command_line.specs.CommandLine.{ReadsAs, command, encode_rules}
use Rattle.gp_command_line.proofs.Commands.{begun, ruled_by}
use Rattle.gp_command_line.proofs.command_line.encode.Goals as goal

pub returns : goal.returns
unfolding command
returns c =
    let start : ReadsAs (new_app (codes "encode")) c.after_help.result = begun _ _ _ _ _ _ c.new.ensures.app c.new.ensures.local c.about.ensures c.after_help.ensures in
    let same : c.in_ok-args.args.items ≡ c.up.result ∷ c.mask.result ∷ c.format-format.result ∷ c.several-words.result ∷ [] = c.in_ok-args.ensures.items in
    ruled_by c.args-2.result (encode_rules c.args.masks c.args.formats) _ _ _ _ start same
    (c.up.ensures, (c.mask.ensures, (c.format-format.ensures, (c.several-words.ensures, tt)))) c.args-2.ensures

use Rattle.std.proofs.lemmas.Str.Ascii.{trim_ascii_end_is}
use Rattle.line_columns.specs.Texts.{trimmed_end}
use Rattle.line_columns.proofs.text.trimmed_end.Goals as goal

pub returns : goal.returns
unfolding trimmed_end
returns c = trim_ascii_end_is c.args.text.now c.trim_ascii_end.result.now c.trim_ascii_end.ensures.value

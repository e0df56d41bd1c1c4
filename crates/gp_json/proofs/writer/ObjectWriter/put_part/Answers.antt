use Rattle.std.proofs.Common.{sym, ◌∙◌, rules}
use Rattle.gp_json.proofs.RunsLemmas.{spelled_plain}
use Rattle.gp_json.proofs.WriterLemmas.{put_as_it_is}
use Rattle.gp_json.proofs.writer.ObjectWriter.put_part.Goals as goal

pub returns-then-is_plain : goal.returns-then-is_plain
returns-then-is_plain c =
    put_as_it_is c.put.result c.args.self.now c.put.new.self c.args.part.now (spelled_plain c.args.part.now (sym c.is_plain.ensures ∙ c.if-is_plain.true)) (search rules)

use Rattle.std.proofs.Common.{rules}
use Rattle.gp_json.proofs.RunsLemmas.{spelled_plain}
use Rattle.gp_json.proofs.WriterLemmas.{put_as_it_is}
use Rattle.gp_json.proofs.writer.ObjectWriter.put_plain.Goals as goal

pub returns : goal.returns
returns c = put_as_it_is c.put.result c.args.self.now c.put.new.self c.args.part.now (spelled_plain c.args.part.now c.requires) (search rules)

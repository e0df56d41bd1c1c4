use Rattle.std.proofs.Common.{rules}
use Rattle.gp_json.proofs.PlainLemmas.{number_spelled}
use Rattle.gp_json.proofs.WriterLemmas.{put_as_it_is}
use Rattle.std.specs.Prelude.{decimal}
use Rattle.gp_json.proofs.writer.ObjectWriter.put_number.Goals as goal

pub returns-clause-part : goal.returns-clause-part
returns-clause-part c =
    put_as_it_is c.put.result c.args.self.now c.put.new.self (decimal c.args.number) (number_spelled c.args.number c.ranges.number.fits) (search rules)

use Rattle.std.proofs.Common.{refl, rules}
use Rattle.gp_generate.specs.Tables.{all_admitted, admitted_text}
use Rattle.gp_generate.proofs.GrowingLemmas.{more}
use Rattle.gp_generate.proofs.tables.push_all_admitted.Goals as goal

pub units-preserved : goal.units-preserved
units-preserved c = more (all_admitted c.args.port) (admitted_text c.args.port) c.units.unit c.args.out.now.items c.units.out.items c.push_admitted.new.out.items refl c.units.invariant (search rules)

use Rattle.std.proofs.Common.{length}
use Rattle.std.specs.Option.{option_copied}
use Rattle.gp_lines.specs.Parts.{parts_behind, parts_of}
use Rattle.gp_json.proofs.PartsLemmas.{Leads}
use Rattle.gp_json.proofs.object.push_fields.Given as goal

abbrev pub invariant-parts : goal.invariant-parts
invariant-parts l = Leads l.mask (parts_of l.text) l.slot (parts_behind (option_copied l.rest)) l.fn.out l.out

abbrev pub decreases-parts : goal.decreases-parts
decreases-parts l = length (parts_behind (option_copied l.rest))

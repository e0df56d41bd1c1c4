-- What stands behind a space is one part at least.
use Rattle.std.proofs.Common.{◌≡◌, ℕ, List, Err, ap}
use Rattle.gp_lines.specs.declared.fault.LineFault.TheVariants as fault
use Rattle.gp_lines.specs.Parts.{parts_of}
use Rattle.gp_lines.proofs.PartsLemmas.{parts_some}
use Rattle.gp_encode.specs.Fields.{ended}

pub more_parts : (text : List ℕ) → ended (parts_of text) ≡ Err fault.Word
more_parts text = let p = parts_some text in ap ended p.2

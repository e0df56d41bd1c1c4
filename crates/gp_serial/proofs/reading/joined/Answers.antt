use Rattle.gp_serial.proofs.SpellingLemmas.{halves_written}
use Rattle.gp_serial.proofs.reading.joined.Goals as goal

pub returns : goal.returns
returns c = halves_written c.args.vendor.now c.args.number.now c.copy_from_slice.new.self c.copy_from_slice-2.new.self c.requires c.told-number c.copy_from_slice.ensures.after c.copy_from_slice-2.ensures.after

use Rattle.std.proofs.Common.{◌∙◌, ap, map}
use Rattle.std.specs.Char.{to_ascii_uppercase}
use Rattle.gp_serial.proofs.TextLemmas.{encode_lower-raised, written_if}
use Rattle.gp_serial.proofs.text.write_digits.Goals as goal

pub returns : goal.returns
returns c =
    let written = written_if c.encode_to_slice.result c.encode_to_slice.ensures.written (c.encode_to_slice.ensures.fits.1 c.requires) in
    c.make_ascii_uppercase.ensures.after ∙ ap (map to_ascii_uppercase) written ∙ encode_lower-raised c.args.octets.now

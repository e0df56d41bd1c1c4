use Rattle.std.proofs.Common.{◌≡◌, rules}
use Rattle.gp_serial.specs.Spelling.{serial_of_text}
use Rattle.gp_serial.proofs.reading.parse_serial.Goals as goal

pub returns-clause-spelling : goal.returns-clause-spelling
returns-clause-spelling c =
    let same : c.read.result ≡ serial_of_text c.args.text.now = search rules in
    λ serial. rw same (c.spellings_are_read.ensures.spelling c.args.text.now serial)

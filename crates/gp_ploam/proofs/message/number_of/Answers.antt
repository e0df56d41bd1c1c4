use Rattle.std.proofs.Common.{◌≡◌, length, rules}
use Rattle.gp_ploam.proofs.Serials.{serial_of_number}
use Rattle.gp_ploam.proofs.message.number_of.Goals as goal

pub returns : goal.returns
returns c =
    let long : length c.args.octets.now ≡ 8 = search rules in
    serial_of_number (record { 0 = c.args.octets.now }) c.from_be_bytes.result long c.fits-octets c.from_be_bytes.ensures

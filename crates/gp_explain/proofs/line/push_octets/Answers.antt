use Rattle.std.proofs.Common.{rules}
use Rattle.gp_explain.proofs.CodeLemmas.{told_garbled}
use Rattle.gp_explain.proofs.line.push_octets.Goals as goal

pub returns-in-Err-Crc : goal.returns-in-Err-Crc
returns-in-Err-Crc c =
    told_garbled c.push_garbled.result c.args.upstream c.args.mask c.args.part.now c.args.octets.now c.args.out.now.items c.extend_from_slice.new.self.items c.push_words_of.new.out.items
    c.push_garbled.new.out.items c.in-Err-Crc.field-0 (search rules) c.in-Err-Crc.field-0-is c.in-Err-Crc.ensures.fault c.in-Err-Crc.ensures.kept c.push_garbled.ensures

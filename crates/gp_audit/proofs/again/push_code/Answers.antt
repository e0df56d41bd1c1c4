use Rattle.std.proofs.Common.{rules}
use Rattle.gp_audit.proofs.AgainLemmas.{told_wrong}
use Rattle.gp_audit.proofs.again.push_code.Goals as goal

pub returns-in-Err-Crc : goal.returns-in-Err-Crc
returns-in-Err-Crc c =
    told_wrong c.push_wanted.result c.args.upstream c.args.mask c.args.code.now c.args.out.now.items c.extend_from_slice.new.self.items c.push_words_of.new.out.items
    c.push_wanted.new.out.items c.in-Err-Crc.field-0 (search rules) c.in-Err-Crc.field-0-is c.in-Err-Crc.ensures.fault c.in-Err-Crc.ensures.kept c.push_wanted.ensures

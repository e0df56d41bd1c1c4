use Rattle.std.proofs.Common.{rules}
use Rattle.gp_json.specs.declared.slot.Kind.TheVariants.{UnitCode, TerminalCode}
use Rattle.gp_json.proofs.FieldLemmas.{by_kind}
use Rattle.gp_json.proofs.field.push_part.Goals as goal

pub returns-in-UnitCode : goal.returns-in-UnitCode
returns-in-UnitCode c = by_kind c.push_code.result UnitCode c.args.mask c.args.slot c.args.part.now c.args.out.now c.push_code.new.out (search rules) c.push_code.ensures

pub returns-in-TerminalCode : goal.returns-in-TerminalCode
returns-in-TerminalCode c =
    by_kind c.push_code-in-TerminalCode.result TerminalCode c.args.mask c.args.slot c.args.part.now c.args.out.now c.push_code-in-TerminalCode.new.out (search rules) c.push_code-in-TerminalCode.ensures

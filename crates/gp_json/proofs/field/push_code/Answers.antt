use Rattle.std.proofs.Common.{rules}
use Rattle.gp_json.proofs.FieldLemmas.{code_told}
use Rattle.gp_json.proofs.PlainLemmas.{code_plain}
use Rattle.gp_json.proofs.field.push_code.Goals as goal

pub put_quoted_plain-requires : goal.put_quoted_plain-requires
put_quoted_plain-requires c = code_plain 13 c.args.part.now c.in-Some.octets c.in-Some.ensures.octets

pub returns : goal.returns
returns c =
    code_told c.args.upstream c.args.mask c.args.slot c.args.part.now c.in-Some.octets c.args.out.now c.push_opening.new.out c.put_quoted_plain.new.self c.push_message.new.out
    c.in-Some.ensures.octets (search rules) (search rules) c.in_ok-push_message.ensures

use Rattle.std.proofs.Common.{rules, true}
use Rattle.gp_json.proofs.MessageLemmas.{told_up, told_null}
use Rattle.gp_json.proofs.field.push_up_message.Goals as goal

pub returns-in_ok-put-in-Ok-2 : goal.returns-in_ok-put-in-Ok-2
returns-in_ok-put-in-Ok-2 c =
    told_up c.push_up_object.result c.args.mask c.args.octets.now c.args.out.now c.put.new.self c.put_up_words.new.out c.put-in-Ok.new.self c.push_up_object.new.out c.in-Ok.message
    c.in-Ok.ensures.read c.in_ok-put-in-Ok.ensures c.in_ok-put_up_words-in-Ok.ensures c.in_ok-put-in-Ok-2.ensures c.push_up_object.ensures

pub returns-in-Err : goal.returns-in-Err
returns-in-Err c = told_null c.put-in-Err.result true c.args.mask c.args.octets.now c.args.out.now c.put-in-Err.new.self (search rules) c.put-in-Err.ensures

use Rattle.std.proofs.Common.{rules, false}
use Rattle.gp_json.proofs.MessageLemmas.{told_down, told_null}
use Rattle.gp_json.proofs.field.push_down_message.Goals as goal

pub returns-in_ok-put-in-Ok-2 : goal.returns-in_ok-put-in-Ok-2
returns-in_ok-put-in-Ok-2 c =
    told_down c.push_down_object.result c.args.mask c.args.octets.now c.args.out.now c.put.new.self c.put_down_words.new.out c.put-in-Ok.new.self c.push_down_object.new.out c.in-Ok.message
    c.in-Ok.ensures.read c.in_ok-put-in-Ok.ensures c.in_ok-put_down_words-in-Ok.ensures c.in_ok-put-in-Ok-2.ensures c.push_down_object.ensures

pub returns-in-Err : goal.returns-in-Err
returns-in-Err c = told_null c.put-in-Err.result false c.args.mask c.args.octets.now c.args.out.now c.put-in-Err.new.self (search rules) c.put-in-Err.ensures

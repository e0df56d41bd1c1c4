use Rattle.std.proofs.Common.{None, Some, sym, ◌∙◌, arith}
use Rattle.std.proofs.lemmas.Str.Pattern.{split_once_first}
use Rattle.gp_audit.specs.Delays.{delay_of_port}
use Rattle.gp_audit.proofs.DelayLemmas.{of_all, of_one}
use Rattle.gp_audit.proofs.delays.with_text.Goals as goal

pub returns-in-None : goal.returns-in-None
returns-in-None c =
    let none = split_once_first 61 c.args.text.now None c.in-None.ensures.cases (omega arith) in
    c.of_all_ports.ensures ∙ sym (of_all c.args.delays.now c.args.text.now none)

pub returns-in-Some : goal.returns-in-Some
returns-in-Some c =
    let parts = split_once_first 61 c.args.text.now (Some (c.in-Some.port, c.in-Some.delay)) c.in-Some.ensures.cases (omega arith) in
    c.with_port.ensures ∙ (λ i. delay_of_port c.args.delays.now (parts.1 i) (parts.2 i)) ∙ sym (of_one c.args.delays.now c.args.text.now parts.0)

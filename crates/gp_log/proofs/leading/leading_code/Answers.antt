use Rattle.gp_lines.proofs.LeadingLemmas.{joined}
use Rattle.gp_log.proofs.PlainLemmas.{plain_read}
use Rattle.gp_log.proofs.leading.leading_code.Goals as goal

pub returns : goal.returns
returns c =
    let split = c.in_ok-digits.ensures.cases in
    plain_read c.args.text.now c.in_ok-digits.digits.now c.in_ok-digits.rest.now c.in_ok-octets.octets
    (joined 26 c.args.text.now c.in_ok-digits.digits.now c.in_ok-digits.rest.now split.1 split.2) c.in_ok-octets.ensures.octets

use Rattle.std.proofs.Common.{◌<◌, ◌^◌, ap, arith, codes}
use Rattle.std.proofs.lemmas.Bool.Decides.{Decides-eqb}
use Rattle.std.proofs.lemmas.Slice.Eq.{strip_prefix_is}
use Rattle.gp_lines.specs.Reading.{octets_or_fault}
use Rattle.gp_lines.proofs.LeadingLemmas.{joined, burst_leads}
use Rattle.gp_lines.proofs.leading.leading_burst.Goals as goal

pub returns : goal.returns
returns c =
    let fields = rw c.in_ok-fields.was at (strip_prefix_is Decides-eqb c.args.text.now (codes "burst ") c.strip_prefix.result c.strip_prefix.ensures.cases) in
    let split = c.in_ok-digits.ensures.cases in
    let cut = joined 26 c.in_ok-at.behind.now c.in_ok-digits.digits.now c.in_ok-digits.rest.now split.1 split.2 in
    let below : c.in_ok-at.at < 2 ^ 32 = omega arith in
    burst_leads c.args.text.now c.in_ok-fields.fields.now c.in_ok-at.behind.now c.in_ok-digits.digits.now c.in_ok-digits.rest.now c.in_ok-bytes.bytes c.in_ok-at.at
    fields c.in_ok-at.ensures cut (ap octets_or_fault c.in_ok-bytes.ensures.octets) below

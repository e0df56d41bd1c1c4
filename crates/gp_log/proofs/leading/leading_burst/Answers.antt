use Rattle.std.proofs.Common.{◌<◌, ◌^◌, ◌++◌, ap, arith, codes, refl, subst}
use Rattle.std.proofs.lemmas.Bool.Decides.{Decides-eqb}
use Rattle.std.proofs.lemmas.Slice.Eq.{strip_prefix_is}
use Rattle.gp_machine.specs.declared.event.Event.TheVariants.{Burst}
use Rattle.gp_lines.specs.Leading.{EventLeads}
use Rattle.gp_lines.specs.Reading.{octets_or_fault}
use Rattle.gp_lines.proofs.LeadingLemmas.{joined, burst_leads}
use Rattle.gp_log.proofs.UsualLemmas.{behind_space}
use Rattle.gp_log.proofs.leading.leading_burst.Goals as goal

pub returns : goal.returns
returns c =
    let text = c.args.text.now in
    let at = c.in_ok-at.at in
    let fields = c.in_ok-fields.fields.now in
    let digits = c.in_ok-digits.digits.now in
    let rest = c.in_ok-digits.rest.now in
    let space = rw c.in_ok-fields.was at (strip_prefix_is Decides-eqb c.in_ok-at.behind.now (codes " ") c.strip_prefix.result c.strip_prefix.ensures.cases) in
    let behind = rw c.in_ok-answer.was at (strip_prefix_is Decides-eqb rest (codes " = ") c.strip_prefix-2.result c.strip_prefix-2.ensures.cases) in
    let split = c.in_ok-digits.ensures.cases in
    let below : at < 2 ^ 32 = omega arith in
    let leads = burst_leads (codes "burst " ++ text) text fields digits rest c.in_ok-bytes.bytes at refl (behind_space text c.in_ok-at.behind.now fields at c.in_ok-at.ensures space)
    (joined 26 fields digits rest split.1 split.2) (ap octets_or_fault c.in_ok-bytes.ensures.octets) below in
    subst (EventLeads (codes "burst " ++ text) (Burst at c.in_ok-bytes.bytes)) behind leads

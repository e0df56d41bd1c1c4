use Rattle.std.proofs.Common.{sym, ◌∙◌, codes}
use Rattle.std.proofs.lemmas.Bool.Decides.{Decides-eqb}
use Rattle.std.proofs.lemmas.Slice.Eq.{strip_prefix_is, strip_suffix_is}
use Rattle.gp_lines.proofs.LeadingLemmas.{joined}
use Rattle.gp_log.proofs.UsualLemmas.{event_told, read_ok}
use Rattle.gp_log.proofs.leading.event_before.Goals as goal

pub returns : goal.returns
returns c =
    let front = c.split_at.result.0.now in
    let back = c.split_at.result.1.now in
    let before = rw c.in_ok-told.was at (strip_suffix_is Decides-eqb front (codes " ") c.strip_suffix.result c.strip_suffix.ensures.cases) in
    let behind = rw c.in_ok-answer.was at (strip_prefix_is Decides-eqb back (codes "= ") c.strip_prefix.result c.strip_prefix.ensures.cases) in
    let whole = joined c.args.at c.args.text.now front back c.split_at.ensures.front c.split_at.ensures.back in
    let read = read_ok c.parse_event.result c.in_ok-event.event (sym c.ok.ensures.value ∙ c.in_ok-event.was) in
    event_told c.args.text.now front back c.in_ok-told.told.now c.in_ok-answer.answer.now c.in_ok-event.event whole before behind
    ((c.parse_event.ensures.event c.in_ok-event.event).0 read)

use Rattle.std.proofs.Common.{sym, ◌∙◌, inr, codes}
use Rattle.std.proofs.lemmas.Bool.Decides.{Decides-eqb}
use Rattle.std.proofs.lemmas.Slice.Eq.{strip_prefix_is}
use Rattle.gp_machine.specs.declared.event.Event.TheVariants.{Frame}
use Rattle.gp_log.specs.Usual.{written}
use Rattle.gp_log.proofs.UsualLemmas.{traced_read, frame_told, no_trace_line}
use Rattle.gp_log.proofs.usual.read_traced.Goals as goal

pub returns-in-Some : goal.returns-in-Some
returns-in-Some c =
    let is = rw c.in-Some.is at (strip_prefix_is Decides-eqb c.args.told.now (codes "frame = ") c.strip_prefix.result c.strip_prefix.ensures.cases) in
    traced_read c.args.text.now c.args.told.now c.in-Some.answer.now c.args.port Frame (written c.frame_line.result c.frame_line.new.line) c.requires
    (frame_told c.args.told.now c.in-Some.answer.now is) c.frame_line.ensures

pub returns-in-None : goal.returns-in-None
returns-in-None c =
    inr (no_trace_line c.args.text.now c.args.told.now c.args.port c.requires (sym c.in-None.is ∙ c.first_equals.ensures), c.entry_in.ensures)

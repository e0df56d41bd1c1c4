-- Why nothing is drawn of a line.
-- Inside: no public contract cites this.
use Rattle.gp_flow.specs.declared.fault.Unanswered.{Unanswered}
use Rattle.gp_flow.specs.declared.fault.Unanswered.TheVariants as lines
use Rattle.gp_watch.specs.declared.fault.WatchFault.{WatchFault}
use Rattle.gp_watch.specs.declared.fault.WatchFault.TheVariants as watches
use Rattle.gp_picture.specs.declared.fault.PictureFault.{PictureFault}
use Rattle.gp_picture.specs.declared.fault.PictureFault.TheVariants as drawn

abbrev pub of_watch : WatchFault → PictureFault
of_watch watches.OutOfMemory = drawn.OutOfMemory
of_watch watches.Full = drawn.Full

abbrev pub undrawn : PictureFault → Unanswered
undrawn drawn.OutOfMemory = lines.OutOfMemory
undrawn drawn.Full = lines.Full

-- why nothing is drawn: there is no memory; or, where no count can go on, this
abbrev pub DrawingFails : Type 0 → PictureFault → Type 0
DrawingFails uncounted drawn.OutOfMemory = Unit {0}
DrawingFails uncounted drawn.Full = uncounted

-- Why a line is not dumped.
-- Inside: no public contract cites this.
use Rattle.gp_flow.specs.declared.fault.Unanswered.{Unanswered}
use Rattle.gp_flow.specs.declared.fault.Unanswered.TheVariants as lines
use Rattle.gp_watch.specs.declared.fault.WatchFault.{WatchFault}
use Rattle.gp_watch.specs.declared.fault.WatchFault.TheVariants as watches
use Rattle.gp_waves.specs.declared.fault.WavesFault.{WavesFault}
use Rattle.gp_waves.specs.declared.fault.WavesFault.TheVariants as waves

abbrev pub of_watch : WatchFault → WavesFault
of_watch watches.OutOfMemory = waves.OutOfMemory
of_watch watches.Full = waves.Full

abbrev pub undumped : WavesFault → Unanswered
undumped waves.OutOfMemory = lines.OutOfMemory
undumped waves.Full = lines.Full

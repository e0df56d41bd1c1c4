use Rattle.std.proofs.Common.{true, false, ◌∙◌, eq-eqb}
use Rattle.std.proofs.lemmas.Bool.{ne_eqb}
use Rattle.gp_watch.proofs.Noting.{noted_pop_up}
use Rattle.gp_watch.proofs.watch.PortWatch.note_pop_up.Goals as goal

pub returns-then-onu-eq-BROADCAST_ONU : goal.returns-then-onu-eq-BROADCAST_ONU
returns-then-onu-eq-BROADCAST_ONU c = c.clear_delays.ensures ∙ noted_pop_up c.args.self.now c.args.onu true (eq-eqb c.args.onu 255 c.if-onu-eq-BROADCAST_ONU.true)

pub returns-else-onu-eq-BROADCAST_ONU : goal.returns-else-onu-eq-BROADCAST_ONU
returns-else-onu-eq-BROADCAST_ONU c = noted_pop_up c.args.self.now c.args.onu false (ne_eqb c.args.onu 255 c.if-onu-eq-BROADCAST_ONU.false)

use Rattle.gp_verify.proofs.JudgingLemmas.{opened_holds}
use Rattle.gp_verify.proofs.PortLemmas.{opened_ports}
use Rattle.gp_verify.proofs.checking.open_verify.Goals as goal

pub on-requires-clause-few : goal.on-requires-clause-few
on-requires-clause-few g c =
    (opened_holds c.args.script.ports.items c.args.script.licences c.in_ok-player.field-0.player c.in_ok-player.ensures.player c.requires.playable.few_ports).0

pub on-requires-clause-room : goal.on-requires-clause-room
on-requires-clause-room g c =
    (opened_holds c.args.script.ports.items c.args.script.licences c.in_ok-player.field-0.player c.in_ok-player.ensures.player c.requires.playable.few_ports).1

pub on-requires-clause-orderly : goal.on-requires-clause-orderly
on-requires-clause-orderly g c =
    opened_ports c.args.script.ports.items c.args.script.licences c.in_ok-player.field-0.player c.in_ok-player.ensures.player (rw c.as_slice.ensures.value at c.configs_are_typed.ensures)

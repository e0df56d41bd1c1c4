use Rattle.gp_machine.proofs.SoundFrames.{sound_opening}
use Rattle.gp_port.proofs.follower.PortFollower.begin.Goals as goal

pub invariant_of-result : goal.invariant_of-result
invariant_of-result c =
    let opening = rw c.in_ok-machine.was at c.begin.ensures.opening in
    record { limits = rw opening (rw c.in_ok-machine.was at c.begin.ensures.within); sound = rw opening (sound_opening c.args.config.now) }

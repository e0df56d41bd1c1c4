use Rattle.std.proofs.Common.{subst, sym, arith}
use Rattle.gp_replay.specs.Chassis.{HasRoom, PlayState}
use Rattle.gp_replay.proofs.RoomLemmas.{opening_room}
use Rattle.gp_program_tests.proofs.turns.told_on.Goals as goal

pub all_told-said-requires-clause-room : goal.all_told-said-requires-clause-room
all_told-said-requires-clause-room g c =
    subst (λ (p : PlayState). HasRoom 18 p) (sym c.in_ok-player.ensures) (opening_room 18 c.args.config.now.ports.items c.args.config.now.licences (omega arith))

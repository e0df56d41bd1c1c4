use Rattle.std.proofs.Common.{take}
use Rattle.gp_replay.specs.Playing.{HasGrant}
use Rattle.gp_replay.proofs.world_playing.has_grant.Given as goal

abbrev pub invariant-entries : goal.invariant-entries
invariant-entries l = HasGrant l.grant (take l.entry-index l.entries) → ⊥

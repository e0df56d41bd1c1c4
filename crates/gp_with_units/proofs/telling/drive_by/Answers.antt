use Rattle.std.proofs.Common.{refl, rules}
use Rattle.gp_with_units.proofs.Written.{tells_drive}
use Rattle.gp_with_units.proofs.telling.drive_by.Goals as goal

pub returns-clause-drives : goal.returns-clause-drives
returns-clause-drives g c =
    tells_drive c.in_ok-sink.sink c.drive_script-driven.new.sink c.into_inner.result c.into_inner.ensures.writer (search rules, search rules)
    c.into_inner.ensures.held g.B.Began.manner c.args.manner _ c.args.turns.now c.drive_script-driven.new.turns c.drive_script-driven.result
    _ _ _ c.end_told.result.ended refl c.drive_script-driven.ensures c.end_told.ensures

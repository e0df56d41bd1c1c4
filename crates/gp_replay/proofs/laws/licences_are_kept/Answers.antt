use Rattle.gp_replay.specs.Laws.{LicencesAreKept}
use Rattle.gp_replay.specs.ScriptPlay.{ByChassis, ByFibre}
use Rattle.gp_replay.proofs.LawsLemmas.{all_licences}
use Rattle.gp_replay.proofs.WorldRunLemmas.{world_licences}
use Rattle.gp_replay.proofs.laws.licences_are_kept.Goals as goal

pub returns : goal.returns
returns c = kept
  where
    kept : LicencesAreKept
    kept script receipts (ByChassis none play) = all_licences c.balance_lasts.ensures script receipts play
    kept script receipts (ByFibre some play) = world_licences c.frames_are_runs.ensures c.runs_in_parts.ensures c.keeps_licences.ensures script receipts play

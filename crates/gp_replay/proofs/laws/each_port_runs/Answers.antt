use Rattle.gp_replay.specs.Laws.{EachPortRuns}
use Rattle.gp_replay.specs.ScriptPlay.{ByChassis, ByFibre}
use Rattle.gp_replay.proofs.LawsLemmas.{port_runs}
use Rattle.gp_replay.proofs.WorldRunLemmas.{world_runs}
use Rattle.gp_replay.proofs.laws.each_port_runs.Goals as goal

pub returns : goal.returns
returns c = runs
  where
    runs : EachPortRuns
    runs script receipts (ByChassis none play) = port_runs c.ports_replay.ensures script receipts play
    runs script receipts (ByFibre some play) = world_runs c.frames_are_runs.ensures c.runs_in_parts.ensures c.port_runs.ensures script receipts play

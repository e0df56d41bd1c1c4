use Rattle.oltctl.proofs.replaying.end_replay.Goals as goal

pub returns : goal.returns
returns g c = (c.args.outcome.now, c.requires.mismatch, c.requires.journal_full, c.end_run.ensures)

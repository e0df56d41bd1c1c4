use Rattle.gp_laws.proofs.PollAlarms.{raises_los, raises_loam, raises_loa}
use Rattle.gp_laws.proofs.polls.alarms_follow_poll_windows.Goals as goal

pub returns : goal.returns
returns c = record { los = raises_los; loam = raises_loam; loa = raises_loa }

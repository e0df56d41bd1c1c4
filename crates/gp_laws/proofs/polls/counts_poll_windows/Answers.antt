use Rattle.gp_laws.proofs.PollAlarms.{dark_windows, garbled_windows, waited_windows}
use Rattle.gp_laws.proofs.polls.counts_poll_windows.Goals as goal

pub returns : goal.returns
returns c = record { dark = dark_windows; garbled = garbled_windows; waited = waited_windows }

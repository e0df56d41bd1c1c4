use Rattle.gp_laws.proofs.RunMessages.{opening_sends, run_sends, run_owes}
use Rattle.gp_laws.proofs.messages.sends_each_message_three_times.Goals as goal

pub returns : goal.returns
returns c = record { opening = opening_sends; any_start = run_sends; owes = run_owes }

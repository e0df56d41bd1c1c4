-- What a port does in a frame in which no window is open and nothing is owed (this profile's own rule; the common
-- states are those of G.984.3, clause 10).
use Rattle.std.specs.Prelude.{ℕ, zero, suc, Bool, true, false, Option, None, Some}
use Rattle.gp_ranging.specs.declared.grant.Grant.TheVariants.{Search, Range, Poll}
use Rattle.gp_common.specs.declared.common.Common.{Common}
use Rattle.gp_common.specs.declared.common.Common.TheVariants.{Standby, Acquisition, Measuring}
use Rattle.gp_common.specs.declared.decision.Decision.{Decision}
use Rattle.gp_common.specs.declared.decision.Decision.TheVariants.{Nothing, Overhead, Ask}

-- a ranging unit is asked for its round-trip delay; with none left the port stands by
abbrev pub measurement_of : Option ℕ → Common × Decision
measurement_of (Some onu) = (Measuring, Ask (Range onu))
measurement_of None = (Standby, Nothing)

-- in standby a ranging unit comes first, and else the operating unit whose turn it is
abbrev pub standby_decision_of : Option ℕ → Option ℕ → Common × Decision
standby_decision_of None (Some onu) = (Standby, Ask (Poll onu))
standby_decision_of ranging next_poll = measurement_of ranging

-- the next common state and the decision, from: the common state; whether an acquisition is wanted; the least
-- ranging ONU-ID; the operating ONU-ID whose turn it is to be polled; the search windows of an acquisition
abbrev pub decision_of : Common → Bool → Option ℕ → Option ℕ → ℕ → Common × Decision
decision_of Standby true ranging next_poll cycles = (Acquisition cycles, Overhead)
decision_of Standby false ranging next_poll cycles = standby_decision_of ranging next_poll
decision_of (Acquisition (suc left)) wanted ranging next_poll cycles = (Acquisition left, Ask Search)
decision_of (Acquisition zero) wanted ranging next_poll cycles = measurement_of ranging
decision_of Measuring wanted ranging next_poll cycles = measurement_of ranging

-- What holds of every decision, and of the decisions of an acquisition (this profile's own rule).
use Rattle.std.specs.Prelude.{◌≡◌, ℕ, suc, Bool, true, false, Option, None, Some, List, [], ◌∷◌, length, replicate}
use Rattle.gp_ranging.specs.declared.grant.Grant.TheVariants.{Search, Range, Poll}
use Rattle.gp_common.specs.declared.common.Common.{Common}
use Rattle.gp_common.specs.declared.common.Common.TheVariants.{Standby, Acquisition, Measuring}
use Rattle.gp_common.specs.declared.decision.Decision.{Decision}
use Rattle.gp_common.specs.declared.decision.Decision.TheVariants.{Nothing, Overhead, Ask}
use Rattle.gp_common.specs.Decision.{decision_of}

-- no search window of an acquisition is left to open
abbrev pub HasNoSearchLeft : Common → Type 0
HasNoSearchLeft common = (left : ℕ) → common ≡ Acquisition (suc left) → ⊥

-- why a decision was right: an acquisition begins only in standby, and if it is wanted; a search window opens only
-- while some are left, and one fewer is left then; a unit is ranged only if it is the ranging unit, no search window is
-- left to open, and in standby no acquisition is wanted; a unit is polled only in standby, if it is its turn, no
-- acquisition is wanted and no unit is ranging; nothing is done only if no search window is left to open and no unit is
-- ranging, in standby only if also no acquisition is wanted and it is no unit's turn
abbrev pub IsReasonFor : Common → Bool → Option ℕ → Option ℕ → ℕ → Common × Decision → Type 0
IsReasonFor common wanted ranging next_poll cycles (next, Overhead) =
    (common ≡ Standby) × (wanted ≡ true) × (next ≡ Acquisition cycles)
IsReasonFor common wanted ranging next_poll cycles (next, Ask Search) =
    (left : ℕ) × ((common ≡ Acquisition (suc left)) × (next ≡ Acquisition left))
IsReasonFor common wanted ranging next_poll cycles (next, Ask (Range onu)) =
    HasNoSearchLeft common × (common ≡ Standby → wanted ≡ false) × (ranging ≡ Some onu) × (next ≡ Measuring)
IsReasonFor common wanted ranging next_poll cycles (next, Ask (Poll onu)) =
    (common ≡ Standby) × (wanted ≡ false) × (ranging ≡ None) × (next_poll ≡ Some onu) × (next ≡ Standby)
IsReasonFor common wanted ranging next_poll cycles (next, Nothing) =
    HasNoSearchLeft common × (common ≡ Standby → (wanted ≡ false) × (next_poll ≡ None)) × (ranging ≡ None)
    × (next ≡ Standby)

-- each decision has its reason
abbrev pub EachDecisionHasItsReason : Type 0
EachDecisionHasItsReason =
    (common : Common) (wanted : Bool) (ranging next_poll : Option ℕ) (cycles : ℕ)
    → IsReasonFor common wanted ranging next_poll cycles (decision_of common wanted ranging next_poll cycles)

-- what a decision is made from, beside the common state: whether an acquisition is wanted, the least ranging ONU-ID,
-- whose turn it is, and the search windows of an acquisition
pub record Situation : Type 0 where
  pub wanted : Bool
  pub ranging : Option ℕ
  pub next_poll : Option ℕ
  pub cycles : ℕ

-- what the port does in a situation
abbrev pub decision_in : Common → Situation → Common × Decision
decision_in common now = decision_of common now.wanted now.ranging now.next_poll now.cycles

-- the decisions in one situation after another
abbrev pub decisions_in : Common → List Situation → List Decision
decisions_in common [] = []
decisions_in common (now ∷ later) = (decision_in common now).1 ∷ decisions_in (decision_in common now).0 later

-- the common state after them
abbrev pub common_after : Common → List Situation → Common
common_after common [] = common
common_after common (now ∷ later) = common_after (decision_in common now).0 later

-- in as many situations as search windows are left, each decision is to search, and then none is left
abbrev pub OpensEachSearchWindow : Type 0
OpensEachSearchWindow =
    (situations : List Situation)
    → (decisions_in (Acquisition (length situations)) situations ≡ replicate (length situations) (Ask Search))
    × (common_after (Acquisition (length situations)) situations ≡ Acquisition 0)

pub mod AccountedCounts
pub mod PlanLemmas
pub mod Serves
pub mod ServedCounts
pub mod TotalsLemmas
pub mod RoundLemmas
pub mod OutcomeLemmas

pub mod Plan
pub mod Serving
pub mod Totals
pub mod Rounds
pub mod Faults
pub mod Outcome

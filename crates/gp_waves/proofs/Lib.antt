pub mod HeldLemmas
pub mod PortLemmas
pub mod HearingLemmas
pub mod WritingLemmas
pub mod ServingLemmas
pub mod CourseLemmas
pub mod OutcomeLemmas

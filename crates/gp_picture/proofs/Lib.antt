pub mod CourseLemmas
pub mod OutcomeLemmas
pub mod ServingLemmas

pub mod Cases
pub mod ReadLemmas
pub mod ServingLemmas
pub mod CourseLemmas
pub mod OutcomeLemmas
pub mod BackLemmas

pub mod PartsLemmas
pub mod ServingLemmas
pub mod TellingLemmas
pub mod CourseLemmas
pub mod OutcomeLemmas
pub mod RunLemmas
pub mod CodeLemmas

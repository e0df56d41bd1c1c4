pub mod ReadLemmas
pub mod WithinLemmas
pub mod StepLemmas

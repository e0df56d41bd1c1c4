pub mod CodeLemmas
pub mod SpaceLemmas
pub mod StepLemmas
pub mod EventLemmas
pub mod AnswerLemmas
pub mod LineLemmas

pub mod TurnLemmas
pub mod AnswerLemmas
pub mod DriveLemmas
pub mod RunsLemmas

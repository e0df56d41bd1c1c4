pub mod Entries
pub mod Lines
pub mod CapitalLemmas
pub mod AnswerLemmas
pub mod LineLemmas

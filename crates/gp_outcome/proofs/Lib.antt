pub mod JudgingLemmas
pub mod ObjectLemmas
pub mod PathLemmas
pub mod PlayingLemmas

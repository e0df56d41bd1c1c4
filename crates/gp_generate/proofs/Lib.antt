pub mod GrowingLemmas
pub mod ChanceLemmas
pub mod ScriptLemmas

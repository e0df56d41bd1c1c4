pub mod SpellingLemmas
pub mod TextLemmas
pub mod IndexLemmas
pub mod KeyLemmas

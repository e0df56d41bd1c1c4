pub mod TextLemmas
mod KeysLemmas
pub mod LinesLemmas

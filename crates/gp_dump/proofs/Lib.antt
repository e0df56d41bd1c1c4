pub mod HeadLemmas
pub mod DumpLemmas
pub mod PartLemmas

pub mod CutLemmas
pub mod FieldLemmas
pub mod PartLemmas
pub mod PlaceLemmas
pub mod QuotedLemmas
pub mod ReturnLemmas

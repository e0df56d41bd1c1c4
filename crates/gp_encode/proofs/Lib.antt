pub mod EndLemmas
pub mod FieldLemmas
pub mod DownLemmas
pub mod UpLemmas
pub mod LineLemmas

pub mod FieldLemmas
pub mod PartsLemmas
pub mod RunsLemmas
pub mod WriterLemmas
pub mod PlainLemmas
pub mod MessageLemmas
pub mod AllocLemmas

pub mod DecodedLemmas
pub mod EncodedLemmas
pub mod AloneLemmas

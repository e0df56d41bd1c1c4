pub mod NumberLemmas
pub mod AllocsLemmas
pub mod WritesLemmas

pub mod StemLemmas

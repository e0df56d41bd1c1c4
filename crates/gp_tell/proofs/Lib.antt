pub mod EndingLemmas
pub mod OctetsLemmas
pub mod TellerLemmas

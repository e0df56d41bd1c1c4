pub mod AheadLemmas
pub mod ComparerLemmas
pub mod PlaceLemmas
pub mod ReadingLemmas
pub mod ShownLemmas
pub mod TextLemmas

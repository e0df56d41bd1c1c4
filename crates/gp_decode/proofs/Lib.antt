pub mod Appending
pub mod Faults
pub mod LawLemmas
pub mod Digits
pub mod Ascii
pub mod LineLemmas
pub mod TextLemmas
pub mod DecoderLemmas

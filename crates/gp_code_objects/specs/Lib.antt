pub mod Object
pub mod Decoded
pub mod Encoded

pub mod Fields
pub mod Words
pub mod Encoding
pub mod Said
pub mod Lines

pub mod Texts
pub mod Fields
pub mod Rows
pub mod Layout
pub mod Heading
pub mod Asked
pub mod AskedParts
pub mod Wanted

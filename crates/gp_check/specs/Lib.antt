pub mod Keys
pub mod Words
pub mod Lines
pub mod Check
pub mod Object
pub mod Telling

pub mod Judging
pub mod Junit
pub mod Line
pub mod Object
pub mod Playing
pub mod Tally
pub mod Words

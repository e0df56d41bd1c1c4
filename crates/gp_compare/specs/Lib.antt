pub mod Ahead
pub mod Comparer
pub mod Difference
pub mod Fault
pub mod Place
pub mod Reading
pub mod Shown
pub mod Texts

pub mod Values
pub mod Index
pub mod Rows
pub mod Units
pub mod Table
pub mod Active
pub mod Awake

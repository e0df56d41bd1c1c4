pub mod Options
pub mod Sides

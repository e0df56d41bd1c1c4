pub mod States
pub mod Decision
pub mod Laws

pub mod Times
pub mod Lines

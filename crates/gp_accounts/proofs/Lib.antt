pub mod Marks
pub mod Reconciles
pub mod Numbers
pub mod Standing

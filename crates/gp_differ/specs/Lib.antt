pub mod Parts
pub mod Alike
pub mod NoLine
pub mod Reasons

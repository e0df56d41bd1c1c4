pub mod Copies
pub mod Queue
pub mod Volley
pub mod Images

pub mod Spelling
pub mod Admitted

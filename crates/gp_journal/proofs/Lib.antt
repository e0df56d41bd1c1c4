pub mod Configs
pub mod Runs
pub mod Pieces
pub mod Recording

pub mod Kept
pub mod Recording
pub mod Replays
pub mod Piece

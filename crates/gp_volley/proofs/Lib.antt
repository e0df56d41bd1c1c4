pub mod Copies
pub mod SameCopies
pub mod Imaged

pub mod Folder
pub mod Names

pub mod Text
pub mod Head
pub mod Dump

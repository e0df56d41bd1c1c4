pub mod Told
pub mod Tally
pub mod Ports
pub mod Text
pub mod Counter
pub mod Counting
pub mod Entries

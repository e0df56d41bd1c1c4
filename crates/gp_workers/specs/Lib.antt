pub mod Chassis
pub mod Totals
pub mod Closing
pub mod Asked
pub mod Ring

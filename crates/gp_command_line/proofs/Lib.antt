pub mod Rows
pub mod RuleSteps
pub mod Commands

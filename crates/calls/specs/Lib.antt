pub mod Outcome
pub mod Counted
pub mod Steps
pub mod Mode

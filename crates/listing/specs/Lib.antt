-- What the functions of the crate ask and ensure.
pub mod Starts
pub mod Writing
pub mod Marks
pub mod Names
pub mod Finding
pub mod Preparing
pub mod Answers
pub mod Listed

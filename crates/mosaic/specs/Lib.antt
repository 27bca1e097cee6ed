pub mod Moved
pub mod JobWords

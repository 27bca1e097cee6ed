-- The writer by its stages, and what it says of a map that it wrote.
pub mod Stages
pub mod Answering
pub mod Made

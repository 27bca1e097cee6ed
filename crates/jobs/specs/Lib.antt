-- The writer's bytes from the words of the stores, and the numbers and answers of the salvage code.
pub mod Kinds
pub mod Stored
pub mod Writes
pub mod Salvaging

-- The job file: what the writer makes of a map, what the reader paints, and what the salvage tool keeps.
pub mod JobFile
pub mod Entries
pub mod Painted
pub mod Salvage

-- Segments read forward or backwards: each crack is one step of one reference.
pub mod Backwards
pub mod Steps
pub mod Ends
pub mod OutEntries

-- Walks and segments: every walk ends, and the traced segments describe the picture.
pub mod Walks
pub mod Partition
pub mod Bends
pub mod Counts
pub mod Along

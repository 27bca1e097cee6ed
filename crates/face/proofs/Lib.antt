-- The counts of a map, from its islands and its contours.
pub mod Flags
pub mod Counting

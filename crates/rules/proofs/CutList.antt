-- The cut list: what its words determine, and that no two pictures share one.
pub mod Lengths
pub mod Records
pub mod Counts
pub mod Values
pub mod Parts
pub mod Agree
pub mod Placed
pub mod Words
pub mod Unshared

pub mod Planes
pub mod Walk
pub mod Words
pub mod Todo
pub mod Nodes
pub mod Stage
pub mod Extracted

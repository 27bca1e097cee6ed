-- From the words of the planes to the whole graph.
pub mod Loops
pub mod Growing
pub mod Slots
pub mod Along
pub mod Numbering
pub mod Listing
pub mod Stages
pub mod Outs
pub mod Tracing
pub mod Whole

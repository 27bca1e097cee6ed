-- How much veneer is in each piece: an island's sides against its pixels, and the walk that sums.
pub mod Integers
pub mod Signed
pub mod Rims
pub mod Area
pub mod Pieces
pub mod Loops
pub mod Summing
pub mod Walking
pub mod Finding
pub mod Rows
pub mod Numbering
pub mod Facing
pub mod Answering
pub mod OneOutcome

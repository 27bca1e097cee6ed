-- One call of the mover, the corners of a segment both ways, what a run over a cut list says, the call for a sheet with its table, and that no move leaves the sheet.
pub mod Calls
pub mod Corners
pub mod Runs
pub mod Moves
pub mod OnSheet
pub mod Table
pub mod Floats
pub mod Within
pub mod Strict
pub mod Stays
pub mod Lengths

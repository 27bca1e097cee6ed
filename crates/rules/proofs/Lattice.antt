-- Corners, darts and cracks: a crack lies inside the frame, turning swaps its sides, and a corner with two cracks has one way on.
pub mod Frame
pub mod Directions
pub mod Darts
pub mod Corners
pub mod WayOn
pub mod Grid
pub mod Edges

-- Contours: the turn with a region on the left is injective, so every contour closes and each painted side is in one.
pub mod Turns
pub mod Rounds
pub mod Discovery
pub mod Painted
pub mod Sides
pub mod Loops
pub mod Easts
pub mod Counts
pub mod Few

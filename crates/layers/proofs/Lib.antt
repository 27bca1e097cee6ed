-- What the checks say, what of a layer lies over the canvas, what painting leaves, and what the call's promise means.
pub mod Masks
pub mod Spans
pub mod Stamps
pub mod Layering
pub mod Refusals
pub mod Labels

-- The maps worked by hand, and the theory of the rules in the order of the argument.
pub mod Worked
pub mod Ground
pub mod Lattice
pub mod Tracing
pub mod References
pub mod Contours
pub mod Islands
pub mod Faces
pub mod CutList
pub mod Waste

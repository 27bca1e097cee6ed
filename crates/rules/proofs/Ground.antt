-- Lists, tests and orbits: what the theory needs that is not about pictures.
pub mod Booleans
pub mod Lists
pub mod Pigeonhole
pub mod Order
pub mod Rearranging
pub mod Sums
pub mod Orbits
pub mod Walking
pub mod Cycles

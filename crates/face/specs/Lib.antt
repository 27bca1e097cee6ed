-- What the functions of the crate ask and ensure.
pub mod Islands
pub mod Contours
pub mod Order
pub mod Counts

pub mod Size
pub mod Planes
pub mod Dirs
pub mod Around
pub mod Walker

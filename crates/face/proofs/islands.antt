-- Islands: trees that grow, the neighbours before a pixel, all pixels linked, and their roots' numbers.
pub mod Trees
pub mod Neighbours
pub mod Linking
pub mod Settling

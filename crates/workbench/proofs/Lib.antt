pub mod Assembled
pub mod Benched
pub mod Together
pub mod Demands

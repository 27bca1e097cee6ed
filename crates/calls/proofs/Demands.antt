pub mod Answered
pub mod Held
pub mod Unshared
pub mod Sharp
pub mod Listed
pub mod Witness

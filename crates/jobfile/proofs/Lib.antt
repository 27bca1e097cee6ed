-- Files worked by hand, and the theory of the job file in the order of the argument.
pub mod Worked
pub mod Paint
pub mod Bytes
pub mod Places
pub mod Readback
pub mod Small
pub mod Soundness
pub mod FileLength
pub mod Round
pub mod Planes
pub mod Flooding
pub mod Leading
pub mod Certified
pub mod Checked
pub mod Again
pub mod Fronts

-- What a tray of maps means, as definitions; what the steps of the code ask and leave.
pub mod Tray
pub mod Steps

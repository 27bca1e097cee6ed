-- What holds while a tray is laid, what each map of one gets, and what refused maps leave.
pub mod Worked
pub mod Passing
pub mod Runs
pub mod Single
pub mod Progress
pub mod Trays
pub mod Alone
pub mod Refused
pub mod Cut

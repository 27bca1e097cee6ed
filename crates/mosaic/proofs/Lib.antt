pub mod Outcomes
pub mod Moved
pub mod OneListing
pub mod OneMeasure
pub mod JobOutcomes

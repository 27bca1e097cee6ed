-- What a bench is given of a panel: the listing and its call, then what two maps have in common.
pub mod Listing
pub mod Benches

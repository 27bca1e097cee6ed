-- The named islands chosen, and their contours found, strung and written, step by step.
pub mod Words
pub mod Steps
pub mod Chains
pub mod Pieces
pub mod Marking
pub mod Naming
pub mod Keeping
pub mod Marked
pub mod Codes
pub mod Rows
pub mod Finding
pub mod Threading
pub mod Choosing
pub mod Preparing
pub mod Listings

-- Listings of pieces: what a listing depends on (#110, #114), and a scan of the map that finds its contours in their order.
pub mod Earlier
pub mod Starts
pub mod ByFirstStep
pub mod Arranged
pub mod SameTurns
pub mod Stays
pub mod Pieces
pub mod MapPairs
pub mod SameListing
pub mod TwoBenches
pub mod OnePixel
pub mod Scan
pub mod Lengths
pub mod WorkedListings

-- The rules of docs/RULES.md, as definitions: read them in this order.
pub mod Lists
pub mod Picture
pub mod Graph
pub mod Describes
pub mod Face
pub mod Records
pub mod Calls
pub mod Refusals

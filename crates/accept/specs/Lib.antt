-- What a graph from another writer must be, and what the code checks of it: read them in this order.
pub mod Given
pub mod Accepts
pub mod Test
pub mod Walks
pub mod Going
pub mod Checked
pub mod Segmenting
pub mod Fields

-- Laws about words of a body, scanning, and bytes put into a store.
pub mod Bodies
pub mod Scanning
pub mod Putting
pub mod Standing
pub mod OneSalvage

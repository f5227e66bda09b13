-- The specs of inbox.
pub mod Deliveries
pub mod Entries
pub mod Holding
pub mod Reading
pub mod Spots

-- The specs of hub_laws.
pub mod Chain
pub mod DeliveredThrough
pub mod Replies
pub mod Seats
pub mod SomeChain

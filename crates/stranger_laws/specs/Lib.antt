-- The specs of stranger_laws.
pub mod AtSite
pub mod Belonging
pub mod Brought
pub mod Delivery
pub mod Heads
pub mod NoRoom
pub mod Receipting
pub mod Taken
pub mod Timely

-- The specs of handler.
pub mod Hosts
pub mod Announcing
pub mod Stores
pub mod Crews
pub mod Dismissal
pub mod Endings
pub mod Opening
pub mod Working
pub mod Handling
pub mod Served

-- The specs of workers.
pub mod Bounds
pub mod Endings
pub mod Guests
pub mod Turns

-- The specs of hub_world.
pub mod Delivered
pub mod Ends
pub mod States
pub mod Transcript
pub mod Trios

-- The specs of drill_world.
pub mod Disks
pub mod Endpoints
pub mod Events
pub mod Relaying
pub mod States
pub mod Transcript

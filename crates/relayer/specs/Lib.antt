-- The specs of relayer.
pub mod Ends
pub mod Relaying
pub mod Running

-- The specs of msh_state.
pub mod Again
pub mod Places
pub mod Reading
pub mod Rooms
pub mod Standing
pub mod Totals
pub mod Waiting

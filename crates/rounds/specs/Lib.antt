-- The specs of rounds.
pub mod Endings
pub mod Receiving
pub mod Rounds

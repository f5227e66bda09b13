pub mod Ran
pub mod Cases
pub mod Exchanges
pub mod Heads
pub mod Plays

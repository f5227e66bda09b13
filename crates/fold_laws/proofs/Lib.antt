pub mod GivenBack
pub mod Held
pub mod OneFold
pub mod ReachedLemmas
pub mod Replays
pub mod SomeFold
pub mod Sound
pub mod Standing

pub mod HoldingLemmas
pub mod EmptiedLemmas

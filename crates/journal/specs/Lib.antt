pub mod Leaf
pub mod Reading
pub mod Store
pub mod Settled
pub mod Faults
pub mod State
pub mod Passing
pub mod Calls

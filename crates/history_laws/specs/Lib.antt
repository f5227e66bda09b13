-- The specs of history_laws.
pub mod Agreeing
pub mod Asking
pub mod Following
pub mod Gates
pub mod Holding
pub mod Inside
pub mod TwoOffices

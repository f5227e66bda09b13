-- The specs of fold_laws.
pub mod Reached
pub mod Written

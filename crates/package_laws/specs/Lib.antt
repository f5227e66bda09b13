-- The part of a payload.
pub mod Written

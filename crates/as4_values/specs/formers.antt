-- The formers of the crate's types.
pub mod lists

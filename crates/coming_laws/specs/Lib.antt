-- How large a tree is.
pub mod Sizes

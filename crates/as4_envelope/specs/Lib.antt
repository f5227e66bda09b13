-- Trees of elements: their texts, which of them can be written, and the representations of bytes and attributes.
pub mod Markup
pub mod Tree
pub mod Writable
pub mod Kept
pub mod Held

-- How media types and the heads of parts are read and written.
pub mod Classes
pub mod Fields
pub mod Known
pub mod Lent
pub mod Loops
pub mod MediaTypes
pub mod WrittenParts
pub mod WrittenTypes

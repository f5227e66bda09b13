-- How the bytes of a document are read into a tree: steps, names, texts, scopes, trees and halts.
pub mod Steps
pub mod Names
pub mod Decoded
pub mod Scopes
pub mod Declarations
pub mod Reading
pub mod Trees
pub mod Documents
pub mod Views
pub mod Halts
pub mod Readable
pub mod Apart

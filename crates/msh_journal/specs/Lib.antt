pub mod Adding
pub mod Fetching
pub mod Frames
pub mod Keeping
pub mod Payloads
pub mod Reading

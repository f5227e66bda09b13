pub mod Flow
pub mod Got
pub mod Put
pub mod InMemory
pub mod Draws
pub mod ClocksInMemory
pub mod Streams

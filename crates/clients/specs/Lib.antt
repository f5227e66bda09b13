-- The specs of clients.
pub mod Answered
pub mod Causes
pub mod Endings
pub mod Lines
pub mod Requests
pub mod Runs
pub mod Sent

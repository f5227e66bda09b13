-- The specs of sessions.
pub mod Answering
pub mod Sending
pub mod Sessions
pub mod Shared

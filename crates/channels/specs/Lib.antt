-- The specs of channels.
pub mod Keeping
pub mod Queues
pub mod Rising

-- The specs of event_code.
pub mod Spelled

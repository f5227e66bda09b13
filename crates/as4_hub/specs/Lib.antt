-- The specs of as4_hub.
pub mod Relaying

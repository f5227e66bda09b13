-- The specs of carrier.
pub mod Carrying

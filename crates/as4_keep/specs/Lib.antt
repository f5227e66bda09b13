-- The specs of as4_keep.
pub mod Connections
pub mod InOrder
pub mod KeptBounds
pub mod KeptGuests
pub mod KeptTurns
pub mod Parts

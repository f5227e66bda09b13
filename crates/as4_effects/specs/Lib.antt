-- The specs of as4_effects.
pub mod Bodies
pub mod Effects
pub mod Lengths
pub mod Marks
pub mod Parts
pub mod Sound
pub mod Whole

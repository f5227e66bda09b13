-- The specs of mode_values.
pub mod ModeFields
pub mod ModeMatch
pub mod ModeRanges

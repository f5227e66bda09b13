-- The specs of pmodes.
pub mod ModeFile
pub mod ModeList
pub mod ModeParts
pub mod Values
pub mod Verdicts

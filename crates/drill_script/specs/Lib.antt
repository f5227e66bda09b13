-- The lines of a drill script, their text, and the reading of both.
pub mod Fronts
pub mod Lacking
pub mod LineParts
pub mod LineText
pub mod Lines
pub mod Scripts

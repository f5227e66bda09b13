-- What a drill makes of its script: loads, modes, and the lines that it writes.
pub mod Loads
pub mod Modes
pub mod Texts

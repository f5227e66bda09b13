-- The parts that a header refers to, the check line, and the meaning of a message.
pub mod Attached
pub mod Line
pub mod Meaning

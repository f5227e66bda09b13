-- Conditions of the laws: results that are the message, media texts without CR, and short envelopes.
pub mod Answers
pub mod Files
pub mod Readable

-- What is submitted, the signals about it, and messages that are read back.
pub mod Answered
pub mod Door
pub mod Submitted

-- The program's words, answers, exit statuses and ends.
pub mod Words
pub mod Command
pub mod Adds
pub mod Answer
pub mod Status
pub mod Suites
pub mod Ends
pub mod Runs
pub mod Service

-- The specs of outbox.
pub mod Failing
pub mod Counting
pub mod Numbering
pub mod Submissions

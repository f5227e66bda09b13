-- The specs of submissions.
pub mod Names

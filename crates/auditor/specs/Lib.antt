-- The specs of auditor.
pub mod Auditing
pub mod Ends
pub mod Lines

-- The specs of as4_audit.
pub mod Audit
pub mod Made
pub mod Start
pub mod Taking

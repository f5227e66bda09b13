-- The specs of as4_doors.
pub mod Asking
pub mod Responses
pub mod Targets
pub mod WrittenText

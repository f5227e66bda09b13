pub mod Cases
pub mod OneOutcome
pub mod OneSubmission
pub mod SameHeader
pub mod SomeOutcome
pub mod SomeStamp
pub mod SomeSubmission
pub mod Signals

-- The specs of drill.
pub mod Ends
pub mod Generated
pub mod Generating
pub mod Next
pub mod Playing
pub mod Running

-- The specs of as4_values.
pub mod Address
pub mod Counts
pub mod Identifiers
pub mod Moment
pub mod Pairing
pub mod Payload
pub mod PlainTexts
pub mod SignalParts
pub mod Stamp
pub mod StampParts
pub mod Texts
pub mod Word
pub mod XmlBytes
pub mod formers

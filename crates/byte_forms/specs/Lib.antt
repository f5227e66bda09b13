pub mod Bytes
pub mod Classes
pub mod Cuts
pub mod Digits
pub mod Forms
pub mod Parted
pub mod Trimmed

-- What an envelope's tree means, element by element, and what a reader returns.
pub mod Elements
pub mod Envelope
pub mod Gives
pub mod Made
pub mod Names
pub mod Signals
pub mod User
pub mod Values

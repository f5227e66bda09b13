-- Messages that are read as themselves, and how a received message is answered.
pub mod ReadBack

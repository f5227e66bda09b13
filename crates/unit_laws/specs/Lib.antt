-- Values and trees that are read back from their text, and trees that are read alike.
pub mod Again
pub mod Alike
pub mod Kept
pub mod Pairs
pub mod ReadAgain

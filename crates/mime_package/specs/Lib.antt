-- How a body is cut into pieces and read as a package, and what its reader returns.
pub mod Answers
pub mod Encoded
pub mod Lent
pub mod Pieces
pub mod Reading
pub mod Steps

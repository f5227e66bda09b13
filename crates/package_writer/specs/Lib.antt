-- The numbers of boundaries, and the room for a part.
pub mod Numbers
pub mod Room

pub mod CountLemmas
pub mod LengthLemmas
pub mod NonceLemmas
pub mod PartLemmas

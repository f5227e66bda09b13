-- The proofs of as4_doors.
pub mod AskedLemmas
pub mod LocalLemmas
pub mod PeerLemmas
pub mod PieceLemmas
pub mod ResponseLemmas
pub mod RespondedLemmas

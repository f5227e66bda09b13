mod AddingLemmas
mod FetchLemmas
mod FoldingLemmas
pub mod KeepingLemmas
mod MoveLemmas
mod OpenEntryLemmas
mod OpeningLemmas
pub mod PayloadLemmas
mod ReadingLemmas
pub mod RunLemmas

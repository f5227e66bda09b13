pub mod FoundLemmas
pub mod ListLemmas
pub mod NumberedLemmas
pub mod PendingLemmas

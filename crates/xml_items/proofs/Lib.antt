pub mod AgainLemmas
pub mod AttributeLemmas
pub mod CommentLemmas
pub mod ItemLaws
pub mod RunLemmas
pub mod SearchLemmas
pub mod TakenLemmas

pub mod EscapeLemmas
pub mod TreeLemmas
pub mod WritableLemmas

pub mod ListLemmas
pub mod ModeLemmas
mod PatternLemmas

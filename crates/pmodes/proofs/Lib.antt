pub mod ExitLemmas
pub mod FileLemmas
pub mod ListLemmas
pub mod TableLemmas
pub mod TextLemmas

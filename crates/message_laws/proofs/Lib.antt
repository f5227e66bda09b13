pub mod AgainLemmas
pub mod AttachLemmas
pub mod CountLemmas
pub mod FileLemmas
pub mod OneLemmas

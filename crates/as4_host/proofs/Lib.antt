pub mod AskedLemmas
pub mod CountLemmas
pub mod KnownLemmas
pub mod RowLemmas

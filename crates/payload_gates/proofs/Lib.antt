pub mod BodyLemmas
pub mod FoldLemmas
pub mod GateLemmas
pub mod OpenLemmas
pub mod RecordLemmas

pub mod DiskLemmas
pub mod EndpointLemmas
pub mod NameLemmas
pub mod OneTranscript
pub mod RelayLemmas
pub mod StateLemmas
pub mod WorldLemmas

pub mod ChainLemmas
pub mod OneTranscript
pub mod ScriptLemmas
pub mod StateLemmas
pub mod TrioLemmas

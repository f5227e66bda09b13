pub mod AttachLemmas
mod CutLemmas
mod DigitLemmas
pub mod MeaningLemmas
mod ReceivedLemmas
mod WireLemmas

pub mod LengthLemmas
pub mod LimitLemmas
pub mod MadeLemmas
pub mod ModeLengthLemmas
pub mod NameLemmas
pub mod NonceLemmas
pub mod PairLemmas
pub mod StepLemmas

pub mod CrashLemmas
pub mod KeepingLemmas
pub mod RelayLemmas
pub mod StepLemmas

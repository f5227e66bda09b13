pub mod ByteLemmas
pub mod RunLemmas
pub mod ImageLemmas
pub mod MemoryLemmas
pub mod CrashLemmas
pub mod StopLemmas

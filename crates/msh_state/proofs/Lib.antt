pub mod HeadLemmas
pub mod KeptLemmas
pub mod LengthLemmas
pub mod NumberLemmas
pub mod QueueLemmas
pub mod StepLemmas
pub mod WaitingLemmas

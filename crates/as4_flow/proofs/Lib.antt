pub mod ClockLemmas
pub mod FlowLemmas
pub mod InMemoryLemmas
pub mod StreamsLemmas

pub mod ElementLemmas
pub mod EnvelopeLemmas
pub mod MadeLemmas
pub mod SignalLemmas
pub mod ValueLemmas

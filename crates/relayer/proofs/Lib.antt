-- The lemmas of relayer.
mod HostLemmas
mod LineLemmas
mod RelayLemmas

-- The lemmas of clients.
mod AddressLemmas
mod AnswerLemmas
mod CauseLemmas
mod CountLemmas
mod EndLemmas
mod EscapeLemmas
mod HostLemmas
mod KeptLemmas
mod LineLemmas
mod SentLemmas
mod TargetLemmas
mod TellingLemmas

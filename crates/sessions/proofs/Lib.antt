-- The lemmas of sessions.
mod CausedLemmas
mod DeliveryLemmas
mod HandledLemmas
mod LegalLemmas
mod SessionLemmas

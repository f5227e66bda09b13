-- The lemmas of workers.
mod GrowthLemmas
mod GuestLemmas
mod KeptLemmas
mod RoundLemmas
mod ServedLemmas
mod SumLemmas
mod TurnLemmas

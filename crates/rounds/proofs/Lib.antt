-- The lemmas of rounds.
mod RoundLemmas

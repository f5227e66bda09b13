-- The lemmas of auditor.
mod LineLemmas
mod ReadingLemmas
mod TextLemmas

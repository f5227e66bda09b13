-- The lemmas of as4_keep.
mod FirstLemmas
mod GrowthLemmas
mod KeepLemmas
mod MeetingLemmas
mod OrderLemmas
mod ReplyLemmas
mod ServedLemmas
mod TurnLemmas

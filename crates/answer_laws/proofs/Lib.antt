pub mod SpelledLemmas
pub mod OnlyLemmas
pub mod SignalLemmas
pub mod SentLemmas
pub mod AnswerLemmas

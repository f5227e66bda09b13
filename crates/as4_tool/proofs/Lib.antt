pub mod AnswerLemmas
pub mod ClapLemmas
pub mod CollectLemmas
pub mod DrillLemmas
pub mod SubmitLemmas
pub mod TaskLemmas
pub mod TellLemmas
mod SuiteLemmas

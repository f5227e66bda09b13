pub mod EventLemmas
pub mod MediaLemmas
pub mod ServedLemmas
pub mod ReplyLemmas
pub mod CarriedLemmas

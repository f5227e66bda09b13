pub mod EndLemmas
pub mod GeneratedLemmas
pub mod KindLemmas
pub mod NextLemmas
pub mod PushLemmas
pub mod SpendLemmas
pub mod UnbrokenLemmas

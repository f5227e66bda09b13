pub mod FilterLemmas
pub mod HeadLemmas
pub mod KeptHeadLemmas
pub mod NameLemmas
pub mod QueueLemmas
pub mod RisingLemmas
pub mod ViewLemmas

pub mod SpentLemmas
pub mod KeptLemmas
pub mod FailingLemmas
pub mod CountingLemmas
pub mod PartsLemmas
pub mod NumberingLemmas
pub mod NumberedLemmas
pub mod StandLemmas

pub mod BodyLemmas
pub mod KindReading
pub mod KindLemmas
pub mod NumberLemmas
pub mod Passing
pub mod RecordReading
pub mod StandingLemmas
pub mod TextReading

mod ApartLemmas
mod FieldLemmas
mod KnownLemmas
mod LineLemmas
mod MediaLemmas
mod ParameterLemmas
pub mod PartAgain
mod PartLemmas
mod PartTakes
mod QuoteLemmas
mod TrimLemmas
pub mod TypeAgain
mod TypeTakes

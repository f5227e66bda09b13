pub mod AgainLemmas
mod BreakLemmas
mod CutLaws
mod DelimiterLemmas
mod EncodedLemmas
mod FreeLemmas
mod FrontLemmas
mod LineLemmas
mod NowhereLemmas
mod ParameterLemmas
mod PartsLemmas
mod RootLemmas
mod RootedLemmas
mod StartLemmas
mod StepLemmas
mod TakenLemmas
mod UpToLemmas
mod WindowLemmas

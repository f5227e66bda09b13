mod RanLemmas
mod VerdictLemmas
mod HeadLemmas
mod CutLemmas
mod PlayLemmas

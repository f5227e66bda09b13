-- The formers of the types of `lists`.
pub mod Seq

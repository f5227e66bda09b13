pub mod BoundaryLemmas
pub mod HexLemmas
pub mod LeastLemmas
pub mod NumberLemmas
pub mod SearchLemmas

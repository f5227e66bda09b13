pub mod FrontLemmas
pub mod HexLemmas
pub mod LineLemmas
pub mod LoadLemmas
pub mod OneLineLemmas
pub mod SpellLemmas
pub mod WordLemmas

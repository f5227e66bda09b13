-- The specs of msh_core.
pub mod Folding
pub mod Machine
pub mod Small

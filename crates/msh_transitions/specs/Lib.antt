-- The specs of msh_transitions.
pub mod Bundled
pub mod Free
pub mod Given
pub mod Naming

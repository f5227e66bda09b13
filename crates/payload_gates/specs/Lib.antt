-- The specs of payload_gates.
pub mod Bodies
pub mod Gates

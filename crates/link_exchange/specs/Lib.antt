-- The specs of link_exchange.
pub mod Exchanges

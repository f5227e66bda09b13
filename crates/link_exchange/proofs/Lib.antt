-- The lemmas of link_exchange.
mod ExchangeLemmas

-- What a drill of a chain shows: its messages were delivered through the hub once.
use Rattle.std.specs.Prelude.{◌≡◌, List}
use Rattle.hub_laws.specs.Chain.{MayAllPass, Passing, chain_after, new_chain}
use Rattle.hub_laws.specs.DeliveredThrough.{IsDelivered}
use Rattle.hub_world.specs.Ends.{Ends, chain_of}

-- a sequence that may pass in a new chain led to this one, and each message was delivered through the hub once
pub record HasDeliveredThrough (ends : Ends) : Type 0 where
  pub all : List Passing
  pub may : MayAllPass all new_chain
  pub leads : chain_after all new_chain ≡ chain_of ends
  pub once : IsDelivered (chain_of ends)

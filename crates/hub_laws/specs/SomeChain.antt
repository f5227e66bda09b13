-- A chain in which a message came through, and both receipts came back.
use Rattle.std.specs.Prelude.{◌≡◌, Some, slice_get}
use Rattle.std.specs.List.{Contains}
use Rattle.as4_effects.specs.declared.mark.Mark.TheVariants.{Receipted}
use Rattle.exchange_model.specs.declared.sent.Sent.{Sent}
use Rattle.hub_laws.specs.Chain.{Chain}
use Rattle.hub_laws.specs.DeliveredThrough.{IsAtHub}

-- the first endpoint holds the receipt of a submission, which is the first entry of the hub's inbox, and the hub holds the
-- receipt of its own first submission
pub record ComesThrough (chain : Chain) : Type 0 where
  pub source : Sent
  pub submitted : Contains chain.first.end.sent source
  pub source_mark : source.mark ≡ Receipted
  pub received : IsAtHub chain.hub source 0
  pub relayed : Sent
  pub there : slice_get chain.hub.sent 0 ≡ Some relayed
  pub relayed_mark : relayed.mark ≡ Receipted

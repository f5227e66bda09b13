-- Compaction: the effects that make an endpoint again from the empty one, each in a record of its own. A growing
-- journal is compacted to these. The endpoint's state doesn't change, except its journal's size.
use Rattle.std.specs.Prelude.{◌≡◌, ℕ, zero, suc, ◌+◌, List, [], ◌∷◌, ◌++◌, take, drop}
use Rattle.std.specs.List.{sum_by}
use Rattle.as4_effects.specs.declared.effect.Effect.{Effect}
use Rattle.as4_effects.specs.declared.effect.Effect.TheVariants as effect
use Rattle.as4_effects.specs.declared.effect.Tick.{Tick}
use Rattle.exchange_model.specs.Apply.{as_carried, record_len}
use Rattle.exchange_model.specs.End.{End}
use Rattle.exchange_model.specs.declared.inbox_entry.InboxEntry.{InboxEntry}
use Rattle.exchange_model.specs.declared.sent.Sent.{Sent}

-- item by item
abbrev pub ItemByItem : {X Y : Type 0} → (X → Y → Type 0) → List X → List Y → Type 0
ItemByItem is [] [] = Unit {0}
ItemByItem is (x ∷ xs) (y ∷ ys) = is x y × ItemByItem is xs ys
ItemByItem is xs ys = ⊥

-- a submission is carried over in its state
abbrev pub CarriesOver : Sent → Effect → Type 0
CarriesOver s (effect.Carried carried) = as_carried carried ≡ s
CarriesOver s other = ⊥

-- only the header of a confirmed entry is kept
abbrev pub KeepsHeader : InboxEntry → Effect → Type 0
KeepsHeader entry (effect.Kept kept) = kept.header ≡ entry.header
KeepsHeader entry other = ⊥

-- any other entry is delivered again, unchanged
abbrev pub DeliversAgain : InboxEntry → Effect → Type 0
DeliversAgain entry (effect.Delivered delivery) = (delivery.header ≡ entry.header) × (delivery.payloads ≡ entry.payloads)
DeliversAgain entry other = ⊥

-- the clock is set, unless it never was
abbrev pub SetsClock : ℕ → List Effect → Type 0
SetsClock zero effects = effects ≡ []
SetsClock (suc moment) effects = (tick : Tick) × (tick.moment ≡ suc moment) × (effects ≡ effect.Ticked tick ∷ [])

-- the effects of an endpoint's compaction: its submissions in order, its inbox in order, its clock
pub record IsFolded (end : End) (effects : List Effect) : Type 0 where
  pub carried : List Effect
  pub kept : List Effect
  pub delivered : List Effect
  pub clock : List Effect
  pub submissions : ItemByItem CarriesOver end.sent carried
  pub taken_over : ItemByItem KeepsHeader (take end.confirmed end.inbox) kept
  pub waiting : ItemByItem DeliversAgain (drop end.confirmed end.inbox) delivered
  pub set : SetsClock end.moment clock
  pub is : effects ≡ carried ++ kept ++ delivered ++ clock

-- the size of the compacted journal: its first nine bytes, and a record for each effect
unfoldable pub folded_size : List Effect → ℕ
folded_size effects = 9 + sum_by (λ (e : Effect). record_len (e ∷ [])) effects

abbrev pub IsFoldedSize : End → ℕ → Type 0
IsFoldedSize end size = (effects : List Effect) × IsFolded end effects × (size ≡ folded_size effects)

-- the endpoint with a journal of another size
abbrev pub resized : ℕ → End → End
resized size end = record end { size = size }

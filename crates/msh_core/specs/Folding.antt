-- The compaction of an endpoint by places, and its size.
use Rattle.std.specs.Prelude.{◌≡◌, ℕ, zero, suc, ◌+◌, ◌-◌, ◌^◌, ◌<◌, ◌≤◌, List, [], ◌∷◌, Option, Some, None, length, min, option_map, slice_get}
use Rattle.as4_effects.specs.Effects.{submission_body}
use Rattle.as4_effects.specs.Marks.{mark_body}
use Rattle.as4_effects.specs.Sound.{delivered_body, kept_body}
use Rattle.as4_effects.specs.declared.effect.Effect.{Effect}
use Rattle.exchange_model.specs.Apply.{applied, first_unfit, record_len}
use Rattle.exchange_model.specs.End.{End}
use Rattle.exchange_model.specs.Fold.{DeliversAgain}
use Rattle.exchange_model.specs.Table.{journal_limit}
use Rattle.exchange_model.specs.declared.inbox_entry.InboxEntry.{InboxEntry}
use Rattle.exchange_model.specs.declared.sent.Sent.{Sent}
use Rattle.inbox.specs.Spots.{Spot}
use Rattle.msh_core.specs.declared.folding.Folding.{Folding}
use Rattle.msh_core.specs.declared.folding.Folding.TheVariants as folding
use Rattle.msh_state.specs.Places.{delivery_len}
use Rattle.msh_state.specs.Rooms.{TablesState}

-- one is found exactly where the other exists, and they are related
abbrev pub OneFor : {X Y : Type 0} → (X → Y → Type 0) → Option X → Option Y → Type 0
OneFor is None None = Unit {0}
OneFor is (Some x) (Some y) = is x y
OneFor is x y = ⊥

-- The effect at this place of the compaction delivers the open entry of a number again. The entry has this identifier;
-- its payloads are in the record at this gate, and a body that delivers it alone has this length.
pub record IsOpenAt (end : End) (places : List Spot) (part : ℕ) (e : Effect) (id : List ℕ) (gate len : ℕ) : Type 0 where
  pub n : ℕ
  pub entry : InboxEntry
  pub at : part ≡ length end.sent + n
  pub waits : end.confirmed ≤ n
  pub there : slice_get end.inbox n ≡ Some entry
  pub place : slice_get places n ≡ Some (record { gate = gate; length = len })
  pub again : DeliversAgain entry e
  pub named : id ≡ entry.header.id
  pub measured : len ≡ delivery_len entry.header entry.payloads

-- no open entry has this place of the compaction
abbrev pub IsNotOpen : End → ℕ → Type 0
IsNotOpen end part = (length end.sent + end.confirmed ≤ part) → (part < length end.sent + length end.inbox) → ⊥

-- What is shown of the effect at this place of the compaction: of a delivery where its payloads are, and of any other
-- effect the effect itself. Nothing is shown where there is no effect.
abbrev pub IsShown : End → List Spot → ℕ → Option Effect → Option Folding → Type 0
IsShown end places part None None = Unit {0}
IsShown end places part (Some e) (Some (folding.Known f)) = (e ≡ f) × IsNotOpen end part
IsShown end places part (Some e) (Some (folding.Open id gate len)) = IsOpenAt end places part e id gate len
IsShown end places part effect found = ⊥

-- The open entry of this number, as the tables have it: its identifier, and where its payloads are.
abbrev pub IsOpenEntry : TablesState → ℕ → Option Folding → Type 0
IsOpenEntry tables n (Some (folding.Open id gate len)) =
    (option_map (λ (entry : InboxEntry). entry.header.id) (slice_get tables.end.inbox n) ≡ Some id)
    × (slice_get tables.places n ≡ Some (record { gate = gate; length = len }))
IsOpenEntry tables n found = ⊥

-- a number, at most the greatest of 64 bits
abbrev pub capped : ℕ → ℕ
capped size = min size (2 ^ 64 - 1)

-- the size of the record of a carried submission, with its tries, its last moment and its mark
unfoldable pub carried_len : Sent → ℕ
carried_len s = length (submission_body s.submission) + 12 + length (mark_body s.mark) + 11

-- of a header that is kept
unfoldable pub kept_len : InboxEntry → ℕ
kept_len entry = length (kept_body entry.header) + 11

-- of a message that is delivered again
unfoldable pub delivered_len : InboxEntry → ℕ
delivered_len entry = length (delivered_body entry.header entry.payloads) + 11

-- and of the clock, unless it was never set
abbrev pub clock_len : ℕ → ℕ
clock_len zero = 0
clock_len (suc moment) = 20

-- the length of an item, if there is one
abbrev pub len_at : {X : Type 0} → (X → ℕ) → Option X → ℕ
len_at len None = 0
len_at len (Some x) = len x

-- `replay` may be called with each effect alone, one after another, and succeeds: each fits, and its record has room
abbrev pub CanBeReplayed : List Effect → End → End → Type 0
CanBeReplayed [] start end = start ≡ end
CanBeReplayed (e ∷ effects) start end =
    (first_unfit (e ∷ []) start ≡ None) × (start.size + record_len (e ∷ []) ≤ journal_limit)
    × CanBeReplayed effects (applied (e ∷ []) start) end

-- The records of a compaction: its deliveries hold the open entries.
use Rattle.std.proofs.Common.{◌≡◌, ℕ, zero, suc, ◌+◌, ◌-◌, ◌<◌, ◌≤◌, List, [], ◌∷◌, ◌++◌, false, Some, length, take, drop, refl, sym, ap, ◌∙◌, subst, append_assoc, arith}
use Rattle.std.specs.Prelude.{slice_get}
use Rattle.std.proofs.lemmas.List.{length-append, length-drop, length-take}
use Rattle.as4_effects.specs.declared.effect.Effect.{Effect}
use Rattle.as4_effects.specs.declared.effect.Effect.TheVariants as effect
use Rattle.exchange_model.specs.End.{End}
use Rattle.exchange_model.specs.Fold.{CarriesOver, DeliversAgain, IsFolded, ItemByItem, KeepsHeader, SetsClock}
use Rattle.exchange_model.specs.declared.inbox_entry.InboxEntry.{InboxEntry}
use Rattle.exchange_model.specs.declared.sent.Sent.{Sent}
use Rattle.inbox.specs.Spots.{Spot}
use Rattle.msh_state.specs.Places.{EachOpen}
use Rattle.payload_gates.specs.Gates.{AreGates, IsHeldIn, delivery_in, is_delivery, moved, one_by_one}
use Rattle.payload_gates.proofs.GateLemmas.{NoDelivery, gates_past, one_by_one_append, one_by_one_cons}
use Rattle.payload_gates.proofs.RecordLemmas.{delivery_first}

-- ---- which effects of a compaction are deliveries

carried_none : (sent : List Sent) (effects : List Effect) → ItemByItem CarriesOver sent effects → NoDelivery effects
carried_none [] [] each = tt
carried_none [] (e ∷ effects) each = absurd each
carried_none (s ∷ sent) [] each = absurd each
carried_none (s ∷ sent) (effect.Carried c ∷ effects) each = (refl, carried_none sent effects each.1)
carried_none (s ∷ sent) (other ∷ effects) each = absurd each.0

kept_none : (inbox : List InboxEntry) (effects : List Effect) → ItemByItem KeepsHeader inbox effects → NoDelivery effects
kept_none [] [] each = tt
kept_none [] (e ∷ effects) each = absurd each
kept_none (entry ∷ inbox) [] each = absurd each
kept_none (entry ∷ inbox) (effect.Kept k ∷ effects) each = (refl, kept_none inbox effects each.1)
kept_none (entry ∷ inbox) (other ∷ effects) each = absurd each.0

clock_none : (moment : ℕ) (effects : List Effect) → SetsClock moment effects → NoDelivery effects
clock_none zero effects set = subst NoDelivery (sym set) tt
clock_none (suc moment) effects (tick, dated, set) = subst NoDelivery (sym set) (refl, tt)

none_both : (front behind : List Effect) → NoDelivery front → NoDelivery behind → NoDelivery (front ++ behind)
none_both [] behind none more = more
none_both (e ∷ front) behind none more = (none.0, none_both front behind none.1 more)

none_at : (effects : List Effect) (part : ℕ) (e : Effect) → NoDelivery effects → slice_get effects part ≡ Some e → is_delivery e ≡ false
none_at [] part e none there = absurd cc
none_at (x ∷ effects) zero e none there = let same : x ≡ e = cc in subst (λ (y : Effect). is_delivery y ≡ false) same none.0
none_at (x ∷ effects) (suc part) e none there = none_at effects part e none.1 there

-- around the middle ones there is none
none_around : (front middle behind : List Effect) (part : ℕ) (e : Effect) → NoDelivery front → NoDelivery behind → slice_get (front ++ (middle ++ behind)) part ≡ Some e
    → (length front ≤ part → part < length front + length middle → ⊥) → is_delivery e ≡ false
none_around [] [] behind part e none more there around = none_at behind part e more there
none_around [] (x ∷ middle) behind zero e none more there around = absurd (around (omega arith) (omega arith))
none_around [] (x ∷ middle) behind (suc part) e none more there around =
    none_around [] middle behind part e none more there (λ at within. around (omega arith) (omega (arith, within)))
none_around (x ∷ front) middle behind zero e none more there around = let same : x ≡ e = cc in subst (λ (y : Effect). is_delivery y ≡ false) same none.0
none_around (x ∷ front) middle behind (suc part) e none more there around =
    none_around front middle behind part e none.1 more there (λ at within. around (omega (arith, at)) (omega (arith, within)))

items_length : {X Y : Type 0} (is : X → Y → Type 0) (xs : List X) (ys : List Y) → ItemByItem is xs ys → length xs ≡ length ys
items_length is [] [] each = refl
items_length is [] (y ∷ ys) each = absurd each
items_length is (x ∷ xs) [] each = absurd each
items_length is (x ∷ xs) (y ∷ ys) each = let rest = items_length is xs ys each.1 in omega (arith, rest)

-- an effect of a compaction that isn't at the place of an open entry is no delivery
pub told_apart : (end : End) (effects : List Effect) (part : ℕ) (e : Effect) → IsFolded end effects → end.confirmed ≤ length end.inbox → slice_get effects part ≡ Some e
    → (length end.sent + end.confirmed ≤ part → part < length end.sent + length end.inbox → ⊥) → is_delivery e ≡ false
told_apart end effects part e h came there around =
    let front : List Effect = h.carried ++ h.kept in
    let are : effects ≡ front ++ (h.delivered ++ h.clock) = h.is ∙ append_assoc front h.delivered h.clock in
    let long : length front ≡ length end.sent + end.confirmed = omega (
      arith,
      came,
      length-append h.carried h.kept,
      items_length CarriesOver end.sent h.carried h.submissions,
      items_length KeepsHeader (take end.confirmed end.inbox) h.kept h.taken_over,
      length-take end.confirmed end.inbox,
    ) in
    let middle : length h.delivered ≡ length end.inbox - end.confirmed = omega (
      arith,
      items_length DeliversAgain (drop end.confirmed end.inbox) h.delivered h.waiting,
      length-drop end.confirmed end.inbox,
    ) in
    none_around front h.delivered h.clock part e
    (none_both h.carried h.kept (carried_none end.sent h.carried h.submissions) (kept_none (take end.confirmed end.inbox) h.kept h.taken_over))
    (clock_none end.moment h.clock h.set) (sym (ap (λ (l : List Effect). slice_get l part) are) ∙ there)
    (λ at within. around (omega (arith, at, long)) (omega (arith, within, long, middle, came)))

-- ---- the deliveries

module _ (gate_of : List (List Effect) → ℕ) where
  -- each waiting entry is in the record of its delivery
  each_waiting : (before : List (List Effect)) (inbox : List InboxEntry) (delivered behind : List Effect) (gates : List ℕ) (spots : List Spot)
      → ItemByItem DeliversAgain inbox delivered → AreGates gate_of before (delivered ++ behind) gates → length spots ≡ length inbox
      → EachOpen (IsHeldIn gate_of (before ++ one_by_one (delivered ++ behind))) zero (moved zero gates spots) inbox
  unfolding AreGates moved
  each_waiting before [] [] behind gates [] each are long = tt
  each_waiting before [] [] behind gates (s ∷ spots) each are long = absurd (omega (arith, long))
  each_waiting before [] (e ∷ delivered) behind gates spots each are long = absurd each
  each_waiting before (entry ∷ inbox) [] behind gates spots each are long = absurd each
  each_waiting before (entry ∷ inbox) (effect.Delivered d ∷ delivered) behind gates [] each are long = absurd (omega (arith, long))
  each_waiting before (entry ∷ inbox) (effect.Delivered d ∷ delivered) behind [] (s ∷ spots) each are long = absurd are
  each_waiting before (entry ∷ inbox) (effect.Delivered d ∷ delivered) behind (gate ∷ gates) (s ∷ spots) each are long =
      let rest = delivered ++ behind in
      let all : before ++ one_by_one (effect.Delivered d ∷ rest) ≡ before ++ (effect.Delivered d ∷ []) ∷ one_by_one rest =
      ap (λ (l : List (List Effect)). before ++ l) (one_by_one_cons (effect.Delivered d) rest) in
      let further : (before ++ (effect.Delivered d ∷ []) ∷ []) ++ one_by_one rest ≡ before ++ one_by_one (effect.Delivered d ∷ rest) =
      append_assoc before ((effect.Delivered d ∷ []) ∷ []) (one_by_one rest) ∙ sym all in
      let found : delivery_in entry.header.id (effect.Delivered d ∷ []) ≡ Some d =
      subst (λ (id : List ℕ). delivery_in id (effect.Delivered d ∷ []) ≡ Some d) (ap (λ h. h.id) each.0.0) (delivery_first d []) in
      let P : List (List Effect) → Type 0 = λ records. EachOpen (IsHeldIn gate_of records) zero (moved zero gates spots) inbox in (
        record {
          before = before;
          effects = effect.Delivered d ∷ [];
          later = one_by_one rest;
          records_are = all;
          gate = are.0;
          brings = record { delivery = d; found = found; header = each.0.0; payloads = each.0.1 };
        },
        subst P further (each_waiting (before ++ (effect.Delivered d ∷ []) ∷ []) inbox delivered behind gates spots each.1 are.1 (omega (arith, long))),
      )
  each_waiting before (entry ∷ inbox) (other ∷ delivered) behind gates spots each are long = absurd each.0

  -- and there are as many gates
  waiting_count : (before : List (List Effect)) (inbox : List InboxEntry) (delivered behind : List Effect) (gates : List ℕ) → NoDelivery behind
      → ItemByItem DeliversAgain inbox delivered → AreGates gate_of before (delivered ++ behind) gates → length gates ≡ length inbox
  unfolding AreGates
  waiting_count before [] [] [] [] none each are = omega arith
  waiting_count before [] [] [] (gate ∷ gates) none each are = absurd are
  waiting_count before [] [] (effect.Delivered d ∷ behind) gates none each are = let delivers = none.0 in absurd cc
  waiting_count before [] [] (other ∷ behind) gates none each are = waiting_count (before ++ (other ∷ []) ∷ []) [] [] behind gates none.1 tt are
  waiting_count before [] (e ∷ delivered) behind gates none each are = absurd each
  waiting_count before (entry ∷ inbox) [] behind gates none each are = absurd each
  waiting_count before (entry ∷ inbox) (effect.Delivered d ∷ delivered) behind [] none each are = absurd are
  waiting_count before (entry ∷ inbox) (effect.Delivered d ∷ delivered) behind (gate ∷ gates) none each are =
      let rest = waiting_count (before ++ (effect.Delivered d ∷ []) ∷ []) inbox delivered behind gates none each.1 are.1 in omega (arith, rest)
  waiting_count before (entry ∷ inbox) (other ∷ delivered) behind gates none each are = absurd each.0

-- the confirmed entries' places stay
each_past : (P : Spot → InboxEntry → Type 0) (confirmed : ℕ) (gates : List ℕ) (spots : List Spot) (inbox : List InboxEntry) → length spots ≡ length inbox
    → EachOpen P zero (moved zero gates (drop confirmed spots)) (drop confirmed inbox) → EachOpen P confirmed (moved confirmed gates spots) inbox
unfolding moved
each_past P zero gates spots inbox long each = each
each_past P (suc n) gates [] [] long each = tt
each_past P (suc n) gates [] (e ∷ inbox) long each = absurd (omega (arith, long))
each_past P (suc n) gates (s ∷ spots) [] long each = absurd (omega (arith, long))
each_past P (suc n) gates (s ∷ spots) (e ∷ inbox) long each = each_past P n gates spots inbox (omega (arith, long)) each

module _ (gate_of : List (List Effect) → ℕ) (end : End) (effects : List Effect) (gates : List ℕ) (h : IsFolded end effects) (are : AreGates gate_of [] effects gates) where
  front : List Effect
  front = h.carried ++ h.kept

  front_none : NoDelivery front
  unfolding front
  front_none = none_both h.carried h.kept (carried_none end.sent h.carried h.submissions) (kept_none (take end.confirmed end.inbox) h.kept h.taken_over)

  parts : effects ≡ front ++ (h.delivered ++ h.clock)
  unfolding front
  parts = h.is ∙ append_assoc (h.carried ++ h.kept) h.delivered h.clock

  waiting_gates : AreGates gate_of (one_by_one front) (h.delivered ++ h.clock) gates
  waiting_gates =
      gates_past gate_of [] front (h.delivered ++ h.clock) gates front_none (subst (λ (l : List Effect). AreGates gate_of [] l gates) parts are)

  pub moves_what_waits : (places : List Spot) → length places ≡ length end.inbox
      → EachOpen (IsHeldIn gate_of (one_by_one effects)) end.confirmed (moved end.confirmed gates places) end.inbox
  moves_what_waits places long =
      let waiting : List InboxEntry = drop end.confirmed end.inbox in
      let spots : List Spot = drop end.confirmed places in
      let same_long : length spots ≡ length waiting = omega (arith, long, length-drop end.confirmed places, length-drop end.confirmed end.inbox) in
      let all : one_by_one front ++ one_by_one (h.delivered ++ h.clock) ≡ one_by_one effects =
      sym (one_by_one_append front (h.delivered ++ h.clock)) ∙ sym (ap one_by_one parts) in
      let P : List (List Effect) → Type 0 = λ records. EachOpen (IsHeldIn gate_of records) zero (moved zero gates spots) waiting in
      each_past (IsHeldIn gate_of (one_by_one effects)) end.confirmed gates places end.inbox long
      (subst P all (each_waiting gate_of (one_by_one front) waiting h.delivered h.clock gates spots h.waiting waiting_gates same_long))

  -- each open entry has one
  pub gates_counted : length gates ≡ length (drop end.confirmed end.inbox)
  gates_counted =
      waiting_count gate_of (one_by_one front) (drop end.confirmed end.inbox) h.delivered h.clock gates (clock_none end.moment h.clock h.set) h.waiting waiting_gates

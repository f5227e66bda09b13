-- The places of open entries, and their measures.
use Rattle.std.proofs.Common.{◌≡◌, ℕ, zero, suc, ◌+◌, ◌<◌, ◌≤◌, List, [], ◌∷◌, ◌++◌, true, Option, Some, None, length, set, refl, sym, ap, subst, ◌∙◌, arith}
use Rattle.std.specs.List.{slice_get}
use Rattle.std.proofs.lemmas.Bool.{and_parts, eqb-true, leb-true}
use Rattle.std.proofs.lemmas.Bool.Decides.{nat_tests}
use Rattle.std.proofs.lemmas.Option.{same_Some}
use Rattle.as4_effects.specs.declared.effect.Effect.{Effect}
use Rattle.as4_effects.specs.declared.effect.Effect.TheVariants as effect
use Rattle.as4_effects.specs.declared.effect.Tick.{Tick}
use Rattle.exchange_model.specs.Apply.{after, after_all, applied, emptied, first_unfit, is_fit}
use Rattle.exchange_model.specs.End.{End, empty_end}
use Rattle.exchange_model.specs.Fold.{resized}
use Rattle.exchange_model.specs.declared.inbox_entry.InboxEntry.{InboxEntry}
use Rattle.fold_laws.proofs.ReachedLemmas.{reached_applied, reached_first, reached_resized}
use Rattle.inbox.specs.Spots.{Spot}
use Rattle.msh_state.specs.Places.{EachOpen, IsMeasured, places_after, places_after_all}
use Rattle.msh_core.specs.Machine.{IsConsistent}
use Rattle.msh_core.proofs.PlanLemmas.{first_fits}
use Rattle.msh_core.proofs.ReplayLemmas.{reached_after}

-- there are as many places as entries
pub each_length : (P : Spot → InboxEntry → Type 0) (confirmed : ℕ) (spots : List Spot) (entries : List InboxEntry)
    → EachOpen P confirmed spots entries → length spots ≡ length entries
each_length P confirmed [] [] each = refl
each_length P confirmed [] (entry ∷ entries) each = absurd each
each_length P zero (spot ∷ spots) [] each = absurd each
each_length P (suc confirmed) (spot ∷ spots) [] each = absurd each
each_length P zero (spot ∷ spots) (entry ∷ entries) each = ap suc (each_length P zero spots entries each.1)
each_length P (suc confirmed) (spot ∷ spots) (entry ∷ entries) each = ap suc (each_length P confirmed spots entries each)

-- an open entry has its place
pub each_at : (P : Spot → InboxEntry → Type 0) (confirmed : ℕ) (spots : List Spot) (entries : List InboxEntry) (n : ℕ) (spot : Spot) (entry : InboxEntry)
    → EachOpen P confirmed spots entries → confirmed ≤ n → slice_get spots n ≡ Some spot → slice_get entries n ≡ Some entry → P spot entry
each_at P confirmed [] entries n spot entry each waits place there = absurd cc
each_at P confirmed (s ∷ spots) [] n spot entry each waits place there = absurd cc
each_at P zero (s ∷ spots) (e ∷ entries) zero spot entry each waits place there =
    subst (λ x. P x entry) (same_Some s spot place) (subst (λ y. P s y) (same_Some e entry there) each.0)
each_at P zero (s ∷ spots) (e ∷ entries) (suc n) spot entry each waits place there =
    each_at P zero spots entries n spot entry each.1 (omega arith) place there
each_at P (suc confirmed) (s ∷ spots) (e ∷ entries) zero spot entry each waits place there = absurd (omega arith)
each_at P (suc confirmed) (s ∷ spots) (e ∷ entries) (suc n) spot entry each waits place there =
    each_at P confirmed spots entries n spot entry each (omega arith) place there

-- one more is open
pub each_push : (P : Spot → InboxEntry → Type 0) (confirmed : ℕ) (spots : List Spot) (entries : List InboxEntry) (spot : Spot) (entry : InboxEntry)
    → EachOpen P confirmed spots entries → P spot entry → EachOpen P confirmed (spots ++ spot ∷ []) (entries ++ entry ∷ [])
each_push P zero [] [] spot entry each is = (is, tt)
each_push P (suc confirmed) [] [] spot entry each is = tt
each_push P confirmed [] (e ∷ entries) spot entry each is = absurd each
each_push P zero (s ∷ spots) [] spot entry each is = absurd each
each_push P (suc confirmed) (s ∷ spots) [] spot entry each is = absurd each
each_push P zero (s ∷ spots) (e ∷ entries) spot entry each is = (each.0, each_push P zero spots entries spot entry each.1 is)
each_push P (suc confirmed) (s ∷ spots) (e ∷ entries) spot entry each is = each_push P confirmed spots entries spot entry each is

-- where all are confirmed, one more is confirmed
each_last_from : (P : Spot → InboxEntry → Type 0) (confirmed : ℕ) (spots : List Spot) (entries : List InboxEntry) (spot : Spot) (entry : InboxEntry)
    → EachOpen P confirmed spots entries → confirmed ≡ length entries → EachOpen P (suc confirmed) (spots ++ spot ∷ []) (entries ++ entry ∷ [])
each_last_from P confirmed [] [] spot entry each all = tt
each_last_from P confirmed [] (e ∷ entries) spot entry each all = absurd each
each_last_from P zero (s ∷ spots) [] spot entry each all = absurd each
each_last_from P (suc confirmed) (s ∷ spots) [] spot entry each all = absurd each
each_last_from P zero (s ∷ spots) (e ∷ entries) spot entry each all = absurd (omega arith)
each_last_from P (suc confirmed) (s ∷ spots) (e ∷ entries) spot entry each all =
    each_last_from P confirmed spots entries spot entry each (omega arith)

pub each_last : (P : Spot → InboxEntry → Type 0) (confirmed : ℕ) (spots : List Spot) (entries : List InboxEntry) (spot : Spot) (entry : InboxEntry)
    → EachOpen P confirmed spots entries → confirmed ≡ length entries → EachOpen P (confirmed + 1) (spots ++ spot ∷ []) (entries ++ entry ∷ [])
each_last P confirmed spots entries spot entry each all =
    let one : suc confirmed ≡ confirmed + 1 = omega arith in
    subst (λ n. EachOpen P n (spots ++ spot ∷ []) (entries ++ entry ∷ [])) one (each_last_from P confirmed spots entries spot entry each all)

-- more are confirmed, and have no payloads any more
pub each_emptied : (P : Spot → InboxEntry → Type 0) (confirmed count : ℕ) (spots : List Spot) (entries : List InboxEntry) → confirmed ≤ count
    → EachOpen P confirmed spots entries → EachOpen P count spots (emptied count entries)
unfolding emptied
each_emptied P zero zero spots entries more each = each
each_emptied P (suc confirmed) zero spots entries more each = absurd (omega arith)
each_emptied P confirmed (suc count) [] [] more each = tt
each_emptied P confirmed (suc count) [] (e ∷ entries) more each = absurd each
each_emptied P zero (suc count) (s ∷ spots) [] more each = absurd each
each_emptied P (suc confirmed) (suc count) (s ∷ spots) [] more each = absurd each
each_emptied P zero (suc count) (s ∷ spots) (e ∷ entries) more each = each_emptied P zero count spots entries (omega arith) each.1
each_emptied P (suc confirmed) (suc count) (s ∷ spots) (e ∷ entries) more each = each_emptied P confirmed count spots entries (omega arith) each

-- a place that is moved keeps its length
pub measured_moved : (confirmed n gate : ℕ) (spots : List Spot) (entries : List InboxEntry) (spot : Spot) → EachOpen IsMeasured confirmed spots entries
    → slice_get spots n ≡ Some spot → EachOpen IsMeasured confirmed (set spots n (record spot { gate = gate })) entries
measured_moved confirmed n gate [] entries spot each place = absurd cc
measured_moved zero n gate (s ∷ spots) [] spot each place = absurd each
measured_moved (suc confirmed) n gate (s ∷ spots) [] spot each place = absurd each
measured_moved zero zero gate (s ∷ spots) (e ∷ entries) spot each place =
    (ap (λ (x : Spot). x.length) (sym (same_Some s spot place)) ∙ each.0, each.1)
measured_moved (suc confirmed) zero gate (s ∷ spots) (e ∷ entries) spot each place = each
measured_moved zero (suc n) gate (s ∷ spots) (e ∷ entries) spot each place =
    (each.0, measured_moved zero n gate spots entries spot each.1 place)
measured_moved (suc confirmed) (suc n) gate (s ∷ spots) (e ∷ entries) spot each place =
    measured_moved confirmed n gate spots entries spot each place

-- one effect of a record was applied
pub places_on : (e : Effect) (rest : List Effect) (gate : ℕ) (places later : List Spot) → later ≡ places_after e gate places
    → places_after_all rest gate later ≡ places_after_all (e ∷ rest) gate places
unfolding places_after_all
places_on e rest gate places later is = ap (places_after_all rest gate) is

-- and after the last none is left
pub places_done : (rest : List Effect) (gate : ℕ) (places : List Spot) → rest ≡ [] → places ≡ places_after_all rest gate places
unfolding places_after_all
places_done rest gate places none = ap (λ effects. places_after_all effects gate places) (sym none)

-- the measures of an endpoint's open entries
abbrev pub AreMeasured : End → List Spot → Type 0
AreMeasured end places = EachOpen IsMeasured end.confirmed places end.inbox

-- they are right after an effect that fits
pub measured_after : (e : Effect) (gate : ℕ) (end : End) (places : List Spot) → is_fit e end ≡ true → AreMeasured end places
    → AreMeasured (after e end) (places_after e gate places)
unfolding after places_after is_fit
measured_after (effect.Submitted submission) gate end places fit each = each
measured_after (effect.Ticked tick) gate end places fit each = each
measured_after (effect.Tried number) gate end places fit each = each
measured_after (effect.Delivered delivery) gate end places fit each = each_push IsMeasured end.confirmed places end.inbox _ _ each refl
measured_after (effect.Receipted number) gate end places fit each = each
measured_after (effect.Refused number code) gate end places fit each = each
measured_after (effect.Confirmed upto) gate end places fit each =
    let waits : end.confirmed ≤ upto = leb-true _ _ (and_parts _ _ fit).0 in
    each_emptied IsMeasured end.confirmed (upto + 1) places end.inbox (omega arith) each
measured_after (effect.Carried carried) gate end places fit each = each
measured_after (effect.Kept kept) gate end places fit each =
    each_last IsMeasured end.confirmed places end.inbox _ _ each (eqb-true _ _ (and_parts _ _ fit).1)

-- and after those of a record
pub measured_after_all : (effects : List Effect) (gate : ℕ) (end : End) (places : List Spot) → first_unfit effects end ≡ None → AreMeasured end places
    → AreMeasured (after_all effects end) (places_after_all effects gate places)
unfolding places_after_all
measured_after_all [] gate end places fit each = each
measured_after_all (e ∷ effects) gate end places fit each =
    let fits = first_fits e effects end fit in
    measured_after_all effects gate (after e end) (places_after e gate places) fits.1 (measured_after e gate end places fits.0 each)

pub measured_applied : (effects : List Effect) (gate : ℕ) (end : End) (places : List Spot) → first_unfit effects end ≡ None → AreMeasured end places
    → AreMeasured (applied effects end) (places_after_all effects gate places)
unfolding applied
measured_applied [] gate end places fit each = measured_after_all [] gate end places fit each
measured_applied (e ∷ effects) gate end places fit each = measured_after_all (e ∷ effects) gate end places fit each

-- a new endpoint is consistent
pub new_consistent : IsConsistent empty_end []
new_consistent = record { reached = reached_first; measured = tt }

-- the same endpoint and places
pub consistent_same : (end new : End) (places later : List Spot) → new ≡ end → later ≡ places → IsConsistent end places → IsConsistent new later
consistent_same end new places later same kept is =
    subst (λ (e : End). IsConsistent e later) (sym same) (subst (λ (ps : List Spot). IsConsistent end ps) (sym kept) is)

-- the endpoint with a journal of another size
pub consistent_resized : (end : End) (places : List Spot) (size : ℕ) → IsConsistent end places → IsConsistent (resized size end) places
consistent_resized end places size is = record { reached = reached_resized end size is.reached; measured = is.measured }

-- after an effect that fits
pub consistent_after : (e : Effect) (gate : ℕ) (end : End) (places : List Spot) → is_fit e end ≡ true → IsConsistent end places
    → IsConsistent (after e end) (places_after e gate places)
consistent_after e gate end places fit is =
    record { reached = reached_after e end fit is.reached; measured = measured_after e gate end places fit is.measured }

-- after a tick and after a confirmation, whose records have 20 bytes
pub tick_consistent : (end mid new : End) (places later : List Spot) (tick : Tick) → end.moment < tick.moment → mid ≡ after (effect.Ticked tick) end
    → new ≡ record mid { size = mid.size + 20 } → later ≡ places → IsConsistent end places → IsConsistent new later
unfolding is_fit places_after
tick_consistent end mid new places later tick more makes grows kept is =
    consistent_same _ _ _ _ grows kept (consistent_resized mid places (mid.size + 20)
    (consistent_same _ _ _ _ makes refl (consistent_after (effect.Ticked tick) 0 end places (grind (arith, nat_tests)) is)))

pub confirm_consistent : (end mid new : End) (places later : List Spot) (upto : ℕ) → end.confirmed ≤ upto → upto < length end.inbox
    → mid ≡ after (effect.Confirmed upto) end → new ≡ record mid { size = mid.size + 20 } → later ≡ places → IsConsistent end places
    → IsConsistent new later
unfolding is_fit places_after
confirm_consistent end mid new places later upto left within makes grows kept is =
    consistent_same _ _ _ _ grows kept (consistent_resized mid places (mid.size + 20)
    (consistent_same _ _ _ _ makes refl (consistent_after (effect.Confirmed upto) 0 end places (grind (arith, nat_tests)) is)))

-- after a record
pub consistent_applied : (effects : List Effect) (gate : ℕ) (end : End) (places : List Spot) → first_unfit effects end ≡ None → IsConsistent end places
    → IsConsistent (applied effects end) (places_after_all effects gate places)
consistent_applied effects gate end places fit is =
    record { reached = reached_applied end effects is.reached fit; measured = measured_applied effects gate end places fit is.measured }

missing : {X : Type 0} (xs : List X) (n : ℕ) → n < length xs → slice_get xs n ≡ None → ⊥
missing [] n within none = omega arith
missing (x ∷ xs) zero within none = cc
missing (x ∷ xs) (suc n) within none = missing xs n (omega arith) none

-- after one payload was moved
pub consistent_moved : (end : End) (places later : List Spot) (n gate : ℕ) → n < length places
    → ((p : Spot) → slice_get places n ≡ Some p → later ≡ set places n (record p { gate = gate })) → IsConsistent end places → IsConsistent end later
consistent_moved end places later n gate within moves is = by_place (slice_get places n) refl
  where
    by_place : (o : Option Spot) → slice_get places n ≡ o → IsConsistent end later
    by_place None none = absurd (missing places n within none)
    by_place (Some p) there = record {
      reached = is.reached;
      measured = subst (λ (ps : List Spot). EachOpen IsMeasured end.confirmed ps end.inbox) (sym (moves p there))
          (measured_moved end.confirmed n gate places end.inbox p is.measured there);
    }

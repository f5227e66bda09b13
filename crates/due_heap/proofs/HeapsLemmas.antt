-- All heaps, when one of them or the table changes.
use Rattle.std.proofs.Common.{ℕ, ◌+◌, ◌<◌, ◌≤◌, ◌≡◌, ◌≢◌, inl, inr, List, [], ◌∷◌, ◌++◌, Option, Some, None, IfSome, IsSome, subst, length, set, get_or, map, slice_get, option_map, vec_len, ap, refl, sym, arith, ◌∙◌}
use Rattle.std.specs.Option.{option_and_then}
use Rattle.std.specs.Vec.{vec_capacity}
use Rattle.std.specs.declared.alloc.Global.{Global}
use Rattle.std.specs.declared.vec.Vec.{Vec}
use Rattle.std.proofs.lemmas.Bool.{cases_eq}
use Rattle.std.proofs.lemmas.List.{length-set, length_push}
use Rattle.std.proofs.lemmas.Option.{MatchOption-at_some, same_Some, none-some, slice_get_within, slice_get-map, slice_get_read}
use Rattle.std.specs.Bool.{⊤}
use Rattle.due_heap.specs.declared.pair.Pair.{Pair}
use Rattle.due_heap.specs.declared.pair.Room.{Room}
use Rattle.due_heap.specs.declared.pair.Slot.{Slot}
use Rattle.due_heap.specs.Heaps.{Place, Heaps, standing_at, Sets, HasPair, IsLeastOf}
use Rattle.due_heap.specs.Order.{IsIn}
use Rattle.due_heap.specs.Keeping.{slot_at, place_at, place_of, SameElsewhere, Places, IsHeap, AreHeaps, HasRoom}
use Rattle.due_heap.proofs.PlaceLemmas.{get-set_same, get-set_other, get-push_last, get-push_other}

-- the view of contracts
abbrev pub seen : List (Vec Pair Global) → List (Option Slot) → Option Room → Heaps
seen heaps slots room = record { count = length heaps; places = map (option_map place_of) slots; room = room }

flat : (o : Option (Option Slot)) → option_and_then (λ place. place) (option_map (option_map place_of) o) ≡ option_map place_of (option_and_then (λ slot. slot) o)
flat None = refl
flat (Some None) = refl
flat (Some (Some slot)) = refl

-- a number is where the table says
pub standing_is : (n : ℕ) (heaps : List (Vec Pair Global)) (slots : List (Option Slot)) (room : Option Room) → standing_at n (seen heaps slots room) ≡ place_at n slots
unfolding standing_at
standing_is n heaps slots room =
    ap (option_and_then (λ place. place)) (slice_get-map (option_map place_of) slots n) ∙ flat (slice_get slots n)

-- the change of one number, as contracts see it
pub sets_from : (heap number : ℕ) (place : Option Place) (heaps heaps' : List (Vec Pair Global)) (slots slots' : List (Option Slot)) (room room' : Option Room) → length heaps' ≡ length heaps → Places heap number place slots slots' → Sets number place (seen heaps slots room) (seen heaps' slots' room')
sets_from heap number place heaps heaps' slots slots' room room' as_many places =
    record {
      count = as_many;
      here = standing_is number heaps' slots' room' ∙ places.here;
      others = λ n other. standing_is n heaps' slots' room' ∙ places.others n other ∙ sym (standing_is n heaps slots room);
    }

-- another heap
apart : (h k : ℕ) (pairs : List Pair) (slots slots' : List (Option Slot)) → k ≢ h → SameElsewhere h slots slots' → IsHeap k pairs slots → IsHeap k pairs slots'
apart h k pairs slots slots' other same kept =
    record {
      points = record {
        to = λ i pair found. same.stays pair.number _ other (kept.points.to i pair found);
        from = λ n s found is. kept.points.from n s (same.was n s (λ e. other (sym is ∙ e)) found) is;
      };
      order = kept.order;
    }

-- one heap changes, and the table with it
pub changed_heap : (h : ℕ) (v : Vec Pair Global) (heaps heaps' : List (Vec Pair Global)) (slots slots' : List (Option Slot)) → AreHeaps heaps slots → h < length heaps → heaps' ≡ set heaps h v → IsHeap h v.items slots' → SameElsewhere h slots slots' → AreHeaps heaps' slots'
changed_heap h v heaps heaps' slots slots' kept within is here same =
    let as_many : length heaps' ≡ length heaps = ap length is ∙ length-set heaps h v in
    record {
      few = omega (arith, same.length, kept.few);
      known = λ n s found.
          elim (cases_eq s.heap h) [
            | inl e ↦ omega arith
            | inr other ↦ let was = kept.known n s (same.was n s other found) in omega arith
          ];
      each = λ k w at_k.
          elim (cases_eq k h) [
            | inl e ↦
                let it : w ≡ v = same_Some w v (sym at_k ∙ ap (slice_get heaps') e ∙ ap (λ (l : List (Vec Pair Global)). slice_get l h) is ∙ get-set_same heaps h v within) in
                rw (e, it) here
            | inr other ↦
                apart h k w.items slots slots' other same
                (kept.each k w (sym (ap (λ (l : List (Vec Pair Global)). slice_get l k) is ∙ get-set_other heaps h v k other) ∙ at_k))
          ];
    }

-- the room for one more pair remains, unless the heap gets longer
pub room_stays : (h : ℕ) (v w : Vec Pair Global) (heaps heaps' : List (Vec Pair Global)) (slots slots' : List (Option Slot)) (room : Option Room) → slice_get heaps h ≡ Some v → heaps' ≡ set heaps h w → length slots' ≡ length slots → vec_len w ≤ vec_len v → vec_capacity w ≡ vec_capacity v → IfSome room (HasRoom heaps slots) → IfSome room (HasRoom heaps' slots')
room_stays h v w heaps heaps' slots slots' None at_h is as_long len capacity has = has
room_stays h v w heaps heaps' slots slots' (Some room) at_h is as_long len capacity has =
    let within = slice_get_within heaps h v at_h in
    let as_many : length heaps' ≡ length heaps = ap length is ∙ length-set heaps h w in
    record {
      heap = omega (arith, has.heap, as_many);
      number = omega (arith, has.number, as_long);
      spare = λ u at_room.
          elim (cases_eq room.heap h) [
            | inl e ↦
                let it : u ≡ w = same_Some u w (sym at_room ∙ ap (slice_get heaps') e ∙ ap (λ (l : List (Vec Pair Global)). slice_get l h) is ∙ get-set_same heaps h w within) in
                let spare = has.spare v (ap (slice_get heaps) e ∙ at_h) in
                rw it (omega (arith, spare, len, capacity))
            | inr other ↦ has.spare u (sym (ap (λ (l : List (Vec Pair Global)). slice_get l room.heap) is ∙ get-set_other heaps h w room.heap other) ∙ at_room)
          ];
    }

-- another table with the same entries
same_heap : (h : ℕ) (pairs : List Pair) (slots slots' : List (Option Slot)) → ((n : ℕ) → slot_at n slots' ≡ slot_at n slots) → IsHeap h pairs slots → IsHeap h pairs slots'
same_heap h pairs slots slots' same kept =
    record {
      points = record {
        to = λ i pair found. same pair.number ∙ kept.points.to i pair found;
        from = λ n s found is. kept.points.from n s (sym (same n) ∙ found) is;
      };
      order = kept.order;
    }

pub same_table : (heaps : List (Vec Pair Global)) (slots slots' : List (Option Slot)) → length slots' ≤ 1048576 → ((n : ℕ) → slot_at n slots' ≡ slot_at n slots) → AreHeaps heaps slots → AreHeaps heaps slots'
same_table heaps slots slots' few same kept =
    record {
      few = few;
      known = λ n s found. kept.known n s (sym (same n) ∙ found);
      each = λ k v at_k. same_heap k v.items slots slots' same (kept.each k v at_k);
    }

-- and every number is unchanged
pub same_standing : (heaps heaps' : List (Vec Pair Global)) (slots slots' : List (Option Slot)) (room room' : Option Room) → ((n : ℕ) → slot_at n slots' ≡ slot_at n slots) → (n : ℕ) → standing_at n (seen heaps' slots' room') ≡ standing_at n (seen heaps slots room)
same_standing heaps heaps' slots slots' room room' same n =
    standing_is n heaps' slots' room' ∙ ap (option_map place_of) (same n) ∙ sym (standing_is n heaps slots room)

-- one more heap, which is empty
pub added_heap : (v : Vec Pair Global) (heaps heaps' : List (Vec Pair Global)) (slots : List (Option Slot)) → AreHeaps heaps slots → heaps' ≡ heaps ++ v ∷ [] → v.items ≡ [] → AreHeaps heaps' slots
added_heap v heaps heaps' slots kept is empty =
    let as_many : length heaps' ≡ length heaps + 1 = ap length is ∙ length_push heaps v in
    record {
      few = kept.few;
      known = λ n s found. let was = kept.known n s found in omega arith;
      each = λ k w at_k.
          let listed = sym (ap (λ (l : List (Vec Pair Global)). slice_get l k) is) ∙ at_k in
          elim (cases_eq k (length heaps)) [
            | inl e ↦
                let it : w ≡ v = same_Some w v (sym listed ∙ ap (slice_get (heaps ++ v ∷ [])) e ∙ get-push_last heaps v) in
                rw (it, empty)
                (record {
                  points = record {
                    to = λ i pair found. absurd (none-some pair found);
                    from = λ n s found is_k. let was = kept.known n s found in absurd (omega arith);
                  };
                  order = λ p j low high within. absurd (omega arith);
                })
            | inr other ↦ kept.each k w (sym (get-push_other heaps v k other) ∙ listed)
          ];
    }

pub room_added : (v : Vec Pair Global) (heaps heaps' : List (Vec Pair Global)) (slots : List (Option Slot)) (room : Option Room) → heaps' ≡ heaps ++ v ∷ [] → IfSome room (HasRoom heaps slots) → IfSome room (HasRoom heaps' slots)
room_added v heaps heaps' slots None is has = has
room_added v heaps heaps' slots (Some room) is has =
    let as_many : length heaps' ≡ length heaps + 1 = ap length is ∙ length_push heaps v in
    record {
      heap = omega (arith, has.heap);
      number = has.number;
      spare = λ u at_room. has.spare u (sym (get-push_other heaps v room.heap (λ e. omega (arith, e, has.heap))) ∙ sym (ap (λ (l : List (Vec Pair Global)). slice_get l room.heap) is) ∙ at_room);
    }

-- the slot of a place
pub slot_from_place : (o : Option Slot) (place : Place) → option_map place_of o ≡ Some place → (slot : Slot) × (o ≡ Some slot) × (place_of slot ≡ place)
slot_from_place None place found = absurd (none-some place found)
slot_from_place (Some slot) place found = (slot, refl, same_Some (place_of slot) place found)

-- the heap of a number exists
pub standing_known : (now : Heaps) (heaps : List (Vec Pair Global)) (slots : List (Option Slot)) (room : Option Room) → seen heaps slots room ≡ now → AreHeaps heaps slots → (n : ℕ) (place : Place) → standing_at n now ≡ Some place → place.heap < now.count
standing_known now heaps slots room is kept n place found =
    let slot = slot_from_place (slot_at n slots) place (sym (standing_is n heaps slots room) ∙ ap (standing_at n) is ∙ found) in
    let known = kept.known n slot.0 slot.1 in
    omega (arith, known, ap (λ (p : Place). p.heap) slot.2, ap (λ (h : Heaps). h.count) is)

pub kept_at : (h : ℕ) (v : Vec Pair Global) (heaps : List (Vec Pair Global)) (slots : List (Option Slot)) → AreHeaps heaps slots → h < length heaps → v ≡ get_or heaps h v → IsHeap h v.items slots
kept_at h v heaps slots kept within is = kept.each h v (slice_get_read heaps (length heaps) h v refl within is)

-- the pairs of a heap are those that contracts see in it
pub has_from_in : (h : ℕ) (pairs : List Pair) (now : Heaps) (heaps : List (Vec Pair Global)) (slots : List (Option Slot)) (room : Option Room) → seen heaps slots room ≡ now → IsHeap h pairs slots → (x : ℕ × ℕ) → IsIn pairs x → HasPair now h x
has_from_in h pairs now heaps slots room is kept x there =
    sym (ap (standing_at x.1) is) ∙ standing_is x.1 heaps slots room ∙ ap (option_map place_of) (kept.points.to there.0 (record { due = x.0; number = x.1 }) there.1)

pub in_from_has : (h : ℕ) (pairs : List Pair) (now : Heaps) (heaps : List (Vec Pair Global)) (slots : List (Option Slot)) (room : Option Room) → seen heaps slots room ≡ now → IsHeap h pairs slots → (x : ℕ × ℕ) → HasPair now h x → IsIn pairs x
in_from_has h pairs now heaps slots room is kept x has =
    let slot = slot_from_place (slot_at x.1 slots) (record { heap = h; due = x.0 }) (sym (standing_is x.1 heaps slots room) ∙ ap (standing_at x.1) is ∙ has) in (
      slot.0.at,
      kept.points.from x.1 slot.0 slot.1 (ap (λ (p : Place). p.heap) slot.2)
          ∙ ap (λ (due : ℕ). Some (record { due = due; number = x.1 })) (ap (λ (p : Place). p.due) slot.2),
    )

pub least_of_same : (P Q : ℕ × ℕ → Type 0) (r : Option (ℕ × ℕ)) → ((x : ℕ × ℕ) → P x → Q x) → ((x : ℕ × ℕ) → Q x → P x) → IsLeastOf P r → IsLeastOf Q r
least_of_same P Q None to from none = λ x q. none x (from x q)
least_of_same P Q (Some x) to from least =
    record { among = to x least.among; least = λ y q. least.least y (from y q) }

-- the reservation
pub has_room : (now : Heaps) (heaps : List (Vec Pair Global)) (slots : List (Option Slot)) (room : Option Room) (r : Room) → seen heaps slots room ≡ now → now.room ≡ Some r → IfSome room (HasRoom heaps slots) → HasRoom heaps slots r
has_room now heaps slots room r is made has =
    MatchOption-at_some ⊤ (HasRoom heaps slots) r (ap (λ (h : Heaps). h.room) is ∙ made) has

-- a number that is in no heap has no slot
pub slot_none : (now : Heaps) (heaps : List (Vec Pair Global)) (slots : List (Option Slot)) (room : Option Room) (n : ℕ) → seen heaps slots room ≡ now → standing_at n now ≡ None → slot_at n slots ≡ None
slot_none now heaps slots room n is none =
    no_slot (slot_at n slots) (sym (standing_is n heaps slots room) ∙ ap (standing_at n) is ∙ none)
  where
    no_slot : (o : Option Slot) → option_map place_of o ≡ None → o ≡ None
    no_slot None found = refl
    no_slot (Some slot) found = absurd (none-some (place_of slot) (sym found))

-- a number that is in a heap has one
pub slot_some : (now : Heaps) (heaps : List (Vec Pair Global)) (slots : List (Option Slot)) (room : Option Room) (n : ℕ) → seen heaps slots room ≡ now → IsSome (standing_at n now) → IsSome (slot_at n slots)
slot_some now heaps slots room n is some =
    has_slot (slot_at n slots) (subst IsSome (sym (ap (standing_at n) is) ∙ standing_is n heaps slots room) some)
  where
    has_slot : (o : Option Slot) → IsSome (option_map place_of o) → IsSome o
    has_slot None found = found
    has_slot (Some slot) found = refl

-- a heap and the table change, for the place of one number
pub one_changed : (h number : ℕ) (place : Option Place) (w : Vec Pair Global) (heaps : List (Vec Pair Global)) (slots lent slots' : List (Option Slot)) → AreHeaps heaps slots → h < length heaps → lent ≡ slots → IsHeap h w.items slots' → Places h number place lent slots' → AreHeaps (set heaps h w) slots'
one_changed h number place w heaps slots lent slots' kept within same here places =
    changed_heap h w heaps (set heaps h w) slots slots' kept within refl here (rw same at places).elsewhere

pub one_set : (h number : ℕ) (place : Option Place) (w : Vec Pair Global) (now : Heaps) (heaps : List (Vec Pair Global)) (slots lent slots' : List (Option Slot)) (room room' : Option Room) → seen heaps slots room ≡ now → lent ≡ slots → Places h number place lent slots' → Sets number place now (seen (set heaps h w) slots' room')
one_set h number place w now heaps slots lent slots' room room' is same places =
    subst (λ (old : Heaps). Sets number place old (seen (set heaps h w) slots' room')) is
    (sets_from h number place heaps (set heaps h w) slots slots' room room' (length-set heaps h w) (rw same at places))

-- a heap gets room for one more pair
pub same_pairs : (h : ℕ) (v w : Vec Pair Global) (heaps : List (Vec Pair Global)) (slots : List (Option Slot)) → AreHeaps heaps slots → h < length heaps → v ≡ get_or heaps h v → w.items ≡ v.items → AreHeaps (set heaps h w) slots
same_pairs h v w heaps slots kept within is items =
    changed_heap h w heaps (set heaps h w) slots slots kept within refl (rw items (kept_at h v heaps slots kept within is))
    (record { length = refl; stays = λ n s other found. found; was = λ n s other found. found })

pub room_made : (h number : ℕ) (w : Vec Pair Global) (heaps : List (Vec Pair Global)) (slots : List (Option Slot)) → h < length heaps → number < length slots → vec_len w < vec_capacity w → HasRoom (set heaps h w) slots (record { heap = h; number = number })
room_made h number w heaps slots within listed spare =
    record {
      heap = omega (arith, length-set heaps h w);
      number = listed;
      spare = λ u at_h. rw (same_Some u w (sym at_h ∙ get-set_same heaps h w within)) spare;
    }

-- the heap of a place
pub kept_in : (now : Heaps) (heaps : List (Vec Pair Global)) (slots : List (Option Slot)) (room : Option Room) (h : ℕ) (v : Vec Pair Global) (pairs : List Pair) → seen heaps slots room ≡ now → AreHeaps heaps slots → h < now.count → v ≡ get_or heaps h v → pairs ≡ v.items → IsHeap h pairs slots
kept_in now heaps slots room h v pairs is kept within read items =
    rw items (kept_at h v heaps slots kept (omega (arith, within, ap (λ (h : Heaps). h.count) is)) read)

-- the entry that is found is the number's
pub told : (now : Heaps) (heaps : List (Vec Pair Global)) (slots lent : List (Option Slot)) (room : Option Room) (n : ℕ) (found : Option Slot) → seen heaps slots room ≡ now → lent ≡ slots → found ≡ slot_at n lent → option_map {T = Place} {U = ℕ × ℕ} (λ place. (place.heap, place.due)) (option_map place_of found) ≡ option_map {T = Place} {U = ℕ × ℕ} (λ place. (place.heap, place.due)) (standing_at n now)
told now heaps slots lent room n found is same at =
    ap (option_map {T = Place} {U = ℕ × ℕ} (λ place. (place.heap, place.due)))
    (ap (option_map place_of) (at ∙ ap (slot_at n) same) ∙ sym (standing_is n heaps slots room) ∙ ap (standing_at n) is)

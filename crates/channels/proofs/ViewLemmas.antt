-- The waiting submissions, by the places of the numbers.
use Rattle.std.proofs.Common.{◌≡◌, ◌≢◌, ℕ, zero, suc, ◌+◌, ◌<◌, ◌≤◌, List, [], ◌∷◌, ◌++◌, Option, Some, None, length, slice_get, option_map, IsSome, inl, inr, refl, sym, ap, ◌∙◌, arith}
use Rattle.std.specs.Option.{option_and_then, option_to_list}
use Rattle.std.proofs.lemmas.Bool.{cases_eq}
use Rattle.std.proofs.lemmas.Option.{same_Some, none-some}
use Rattle.as4_effects.specs.declared.queue.Queue.{Queue}
use Rattle.channels.specs.Keeping.{queue_at, waiting_of, waiting_from, waiting_in, KeepsNames, IsKept}
use Rattle.channels.specs.Queues.{inserted, without, waiting_at}
use Rattle.channels.specs.Rising.{RisesFrom}
use Rattle.channels.specs.declared.waiting.Waiting.{Waiting}
use Rattle.channels.proofs.RisingLemmas.{rises_lower, at_first, at_behind, none_below, same_rising, is_inserted, is_without}
use Rattle.channels.proofs.NameLemmas.{none_distinct}
use Rattle.channels.proofs.QueueLemmas.{queue_known}
use Rattle.due_heap.specs.Heaps.{Place, Heaps, standing_at, Sets, StandAs}

-- a waiting submission has its number
made : (names : List (List ℕ)) (n : ℕ) (place : Option Place) (w : Waiting) → waiting_of names n place ≡ Some w → w.number ≡ n
made names n None w is = absurd (none-some w is)
made names n (Some place) w is = made_at n place (queue_at names place.heap) w is
  where
    made_at : (n : ℕ) (place : Place) (q : Option Queue) (w : Waiting) → option_map (λ q. record { queue = q; due = place.due; number = n }) q ≡ Some w → w.number ≡ n
    made_at n place None w is = absurd (none-some w is)
    made_at n place (Some q) w is = ap (λ (v : Waiting). v.number) (sym (same_Some (record { queue = q; due = place.due; number = n }) w is))

-- one more at the beginning
front_rises : (n : ℕ) (o : Option Waiting) (xs : List Waiting) → ((w : Waiting) → o ≡ Some w → w.number ≡ n) → RisesFrom (n + 1) xs → RisesFrom n (option_to_list o ++ xs)
unfolding RisesFrom
front_rises n None xs number rises = rises_lower n (n + 1) xs (omega arith) rises
front_rises n (Some w) xs number rises =
    let e = number w refl in
    (omega (arith, e), rises_lower (w.number + 1) (n + 1) xs (omega (arith, e)) rises)

from_rises : (names : List (List ℕ)) (n : ℕ) (places : List (Option Place)) → RisesFrom n (waiting_from names n places)
unfolding RisesFrom
from_rises names n [] = tt
from_rises names n (place ∷ places) =
    front_rises n (waiting_of names n place) (waiting_from names (n + 1) places) (made names n place) (from_rises names (n + 1) places)

pub in_rises : (names : List (List ℕ)) (heaps : Heaps) → RisesFrom 0 (waiting_in names heaps)
unfolding waiting_in
in_rises names heaps = from_rises names 0 heaps.places

front_here : (n : ℕ) (o : Option Waiting) (xs : List Waiting) → ((w : Waiting) → o ≡ Some w → w.number ≡ n) → RisesFrom (n + 1) xs → waiting_at n (option_to_list o ++ xs) ≡ o
front_here n None xs number rises = none_below (n + 1) n xs rises (omega arith)
front_here n (Some w) xs number rises = at_first n w xs (number w refl)

front_behind : (n m : ℕ) (o : Option Waiting) (xs : List Waiting) → ((w : Waiting) → o ≡ Some w → w.number ≡ n) → m ≢ n → waiting_at m (option_to_list o ++ xs) ≡ waiting_at m xs
front_behind n m None xs number other = refl
front_behind n m (Some w) xs number other = at_behind m w xs (λ e. other (sym e ∙ number w refl))

from_at : (names : List (List ℕ)) (n : ℕ) (places : List (Option Place)) (k m : ℕ) → m ≡ n + k → waiting_at m (waiting_from names n places) ≡ waiting_of names m (option_and_then (λ place. place) (slice_get places k))
from_at names n [] k m is = refl
from_at names n (place ∷ places) zero m is =
    let same : m ≡ n = omega (arith, is) in
    rw same (front_here n (waiting_of names n place) (waiting_from names (n + 1) places) (made names n place) (from_rises names (n + 1) places))
from_at names n (place ∷ places) (suc k) m is =
    front_behind n m (waiting_of names n place) (waiting_from names (n + 1) places) (made names n place) (λ e. omega (arith, is, e))
    ∙ from_at names (n + 1) places k m (omega (arith, is))

-- for each number, the one that waits is the one in the heap
pub in_at : (names : List (List ℕ)) (heaps : Heaps) (m : ℕ) → waiting_at m (waiting_in names heaps) ≡ waiting_of names m (standing_at m heaps)
unfolding waiting_in standing_at
in_at names heaps m = from_at names 0 heaps.places m m (omega arith)

-- nothing waits where the heaps are empty
pub none_waits : (names : List (List ℕ)) (heaps : Heaps) → heaps.places ≡ [] → waiting_in names heaps ≡ []
unfolding waiting_in
none_waits names heaps none = ap (waiting_from names 0) none

-- the queue of a place doesn't change if the names don't
same_of : (names names' : List (List ℕ)) (n : ℕ) (place : Option Place) → KeepsNames names names' → ((p : Place) → place ≡ Some p → p.heap ≤ length names) → waiting_of names' n place ≡ waiting_of names n place
same_of names names' n None keeps known = refl
same_of names names' n (Some place) keeps known =
    ap (option_map (λ q. record { queue = q; due = place.due; number = n })) (keeps.same place.heap (known place refl))

-- the waiting submissions don't change if the names and the numbers don't
pub same_waits : (names names' : List (List ℕ)) (heaps heaps' : Heaps) → IsKept names heaps → KeepsNames names names' → StandAs heaps heaps' → waiting_in names' heaps' ≡ waiting_in names heaps
same_waits names names' heaps heaps' kept keeps same =
    same_rising 0 0 (waiting_in names' heaps') (waiting_in names heaps) (in_rises names' heaps') (in_rises names heaps) (λ m.
    in_at names' heaps' m ∙ ap (waiting_of names' m) (same m) ∙ same_of names names' m (standing_at m heaps) keeps (kept.known m) ∙ sym (in_at names heaps m))

-- the others wait unchanged
others_wait : (names : List (List ℕ)) (number : ℕ) (place : Option Place) (old new : Heaps) → Sets number place old new → (m : ℕ) → m ≢ number → waiting_at m (waiting_in names new) ≡ waiting_at m (waiting_in names old)
others_wait names number place old new sets m other =
    in_at names new m ∙ ap (waiting_of names m) (sets.others m other) ∙ sym (in_at names old m)

-- a number was added to the heap of a queue
pub put_in : (names : List (List ℕ)) (q : Queue) (heap due number : ℕ) (old new : Heaps) → queue_at names heap ≡ Some q → waiting_at number (waiting_in names old) ≡ None → Sets number (Some (record { heap = heap; due = due })) old new → waiting_in names new ≡ inserted (record { queue = q; due = due; number = number }) (waiting_in names old)
put_in names q heap due number old new is absent sets =
    is_inserted (record { queue = q; due = due; number = number }) (waiting_in names old) (waiting_in names new) (in_rises names old) (in_rises names new) absent
    (in_at names new number ∙ ap (waiting_of names number) sets.here ∙ ap (option_map (λ q. record { queue = q; due = due; number = number })) is)
    (others_wait names number (Some (record { heap = heap; due = due })) old new sets)

-- a number was removed
pub taken_out : (names : List (List ℕ)) (number : ℕ) (old new : Heaps) → Sets number None old new → waiting_in names new ≡ without number (waiting_in names old)
taken_out names number old new sets =
    is_without number (waiting_in names old) (waiting_in names new) (in_rises names old) (in_rises names new)
    (in_at names new number ∙ ap (waiting_of names number) sets.here)
    (others_wait names number None old new sets)

pub put_kept : (names : List (List ℕ)) (heap due number : ℕ) (old new : Heaps) → IsKept names old → heap ≤ length names → heap < old.count → Sets number (Some (record { heap = heap; due = due })) old new → new.room ≡ None → IsKept names new
put_kept names heap due number old new kept within there sets used =
    record {
      distinct = kept.distinct;
      enough = omega (arith, kept.enough, sets.count);
      there = λ n place found.
          elim (cases_eq n number) [
            | inl same ↦ omega (arith, there, sets.count, ap (λ (p : Place). p.heap) (put_at heap due number n old new place sets same found))
            | inr other ↦ let was = kept.there n place (sym (sets.others n other) ∙ found) in omega (arith, was, sets.count)
          ];
      known = λ n place found.
          elim (cases_eq n number) [
            | inl same ↦ omega (arith, within, ap (λ (p : Place). p.heap) (put_at heap due number n old new place sets same found))
            | inr other ↦ kept.known n place (sym (sets.others n other) ∙ found)
          ];
      room = rw used tt;
    }
  where
    put_at : (heap due number n : ℕ) (old new : Heaps) (place : Place) → Sets number (Some (record { heap = heap; due = due })) old new → n ≡ number → standing_at n new ≡ Some place → record { heap = heap; due = due } ≡ place
    put_at heap due number n old new place sets same found =
        same_Some (record { heap = heap; due = due }) place (sym sets.here ∙ ap (λ m. standing_at m new) (sym same) ∙ found)

-- the initial state
pub new_kept : IsKept [] (record { count = 0; places = []; room = None })
unfolding standing_at
new_kept =
    record {
      distinct = none_distinct;
      enough = omega arith;
      there = λ n place found. absurd (none-some place found);
      known = λ n place found. absurd (none-some place found);
      room = tt;
    }

-- a waiting submission is in a heap of its queue
pub record Stands (names : List (List ℕ)) (heaps : Heaps) (w : Waiting) : Type 0 where
  pub heap : ℕ
  pub place : standing_at w.number heaps ≡ Some (record { heap = heap; due = w.due })
  pub queue : queue_at names heap ≡ Some w.queue

stands_of : (names : List (List ℕ)) (heaps : Heaps) (w : Waiting) (o : Option Place) → standing_at w.number heaps ≡ o → waiting_of names w.number o ≡ Some w → Stands names heaps w
stands_of names heaps w None at is = absurd (none-some w is)
stands_of names heaps w (Some place) at is = with_queue (queue_at names place.heap) refl is
  where
    with_queue : (q : Option Queue) → queue_at names place.heap ≡ q → option_map (λ q. record { queue = q; due = place.due; number = w.number }) q ≡ Some w → Stands names heaps w
    with_queue None found is = absurd (none-some w is)
    with_queue (Some q) found is =
        let it = same_Some (record { queue = q; due = place.due; number = w.number }) w is in
        record {
          heap = place.heap;
          place = at ∙ ap (λ due. Some (record { heap = place.heap; due = due })) (ap (λ (v : Waiting). v.due) it);
          queue = found ∙ ap (λ (q : Queue). Some q) (ap (λ (v : Waiting). v.queue) it);
        }

pub stands : (names : List (List ℕ)) (heaps : Heaps) (w : Waiting) → waiting_at w.number (waiting_in names heaps) ≡ Some w → Stands names heaps w
stands names heaps w waits =
    stands_of names heaps w (standing_at w.number heaps) refl (sym (in_at names heaps w.number) ∙ waits)

-- a number in a heap of a queue waits
pub waits_in : (names : List (List ℕ)) (heaps : Heaps) (q : Queue) (heap due number : ℕ) → queue_at names heap ≡ Some q → standing_at number heaps ≡ Some (record { heap = heap; due = due }) → waiting_at number (waiting_in names heaps) ≡ Some (record { queue = q; due = due; number = number })
waits_in names heaps q heap due number is stands =
    in_at names heaps number ∙ ap (waiting_of names number) stands ∙ ap (option_map (λ q. record { queue = q; due = due; number = number })) is

-- where nothing waits, the heaps are empty
pub none_stands : (names : List (List ℕ)) (heaps : Heaps) (number : ℕ) → IsKept names heaps → waiting_at number (waiting_in names heaps) ≡ None → standing_at number heaps ≡ None
none_stands names heaps number kept none =
    by_place (standing_at number heaps) refl
  where
    by_place : (o : Option Place) → standing_at number heaps ≡ o → o ≡ None
    by_place None at = refl
    by_place (Some place) at =
        let q = queue_known names place.heap (kept.known number place at) in
        absurd (none-some _ (sym none ∙ waits_in names heaps q.0 place.heap place.due number q.1 at))

-- whether a waiting submission is in a heap
pub some_stands : (names : List (List ℕ)) (heaps : Heaps) (number : ℕ) (w : Waiting) → waiting_at number (waiting_in names heaps) ≡ Some w → IsSome (standing_at number heaps)
some_stands names heaps number w waits =
    is_some_of (standing_at number heaps) (sym (in_at names heaps number) ∙ waits)
  where
    is_some_of : (o : Option Place) → waiting_of names number o ≡ Some w → IsSome o
    is_some_of None is = absurd (none-some w is)
    is_some_of (Some place) is = refl

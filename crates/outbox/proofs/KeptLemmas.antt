-- The other fields of an outbox, after a change at a number.
use Rattle.std.proofs.Common.{◌≡◌, ℕ, List, [], ◌++◌, false, Option, Some, length, take, drop, refl, sym, ap, subst, ◌∙◌, arith}
use Rattle.std.specs.Prelude.{IsSome, IsTrue, None, option_map, slice_get}
use Rattle.std.proofs.lemmas.Bool.{and_parts}
use Rattle.std.proofs.lemmas.List.{append-nil, drop_all, take_all}
use Rattle.due_heap.specs.Heaps.{Heaps, Sets, standing_at, with_due}
use Rattle.exchange_model.specs.Apply.{changed, is_one, marked, tried}
use Rattle.exchange_model.specs.Questions.{is_pending, is_pending_mark, is_waiting, sent_at}
use Rattle.exchange_model.specs.declared.sent.Sent.{Sent}
use Rattle.as4_effects.specs.declared.mark.Mark.{Mark}
use Rattle.outbox.specs.Failing.{Watches, failing_at, watched}
use Rattle.outbox.specs.Submissions.{Stand}
use Rattle.outbox.proofs.FailingLemmas.{at_place, watched_pending, watched_settled, watches_changed}
use Rattle.outbox.proofs.PartsLemmas.{Parts, parts_of, passes}

-- a vector that is overwritten entirely has the new items
pub written : {X : Type 0} (len : ℕ) (new old : List X) → len ≡ length old → length new ≡ length old
    → take len (new ++ drop (length new) old) ≡ new
written len new old is long =
    let none : drop (length new) old ≡ [] = drop_all (length new) old (omega (arith, long)) in
    ap (λ rest. take len (new ++ rest)) none ∙ ap (take len) (append-nil new) ∙ take_all len new (omega (arith, is, long))

-- a pending submission is in the heap
pub is_watched : (failing : Heaps) (sent : List Sent) (number : ℕ) → Stand sent → Watches failing sent
    → IsTrue (is_one is_pending (sent_at number sent)) → IsSome (standing_at number failing)
is_watched failing sent number stand are pending =
    let parts : Parts number sent = parts_of is_pending number sent stand.numbered pending in
    let there : standing_at number failing ≡ watched (Some parts.one) =
    are.each number ∙ ap watched (at_place sent number parts.one stand parts.found) in
    subst IsSome (sym (there ∙ watched_pending parts.one (passes is_pending number sent parts pending))) refl

-- an empty heap watches none
pub none_watched : (failing : Heaps) → failing ≡ record { count = 0; places = []; room = None } → Watches failing []
unfolding standing_at
none_watched failing is = record {
  each = λ n. ap (standing_at n) is;
  heap = λ some. absurd (omega arith);
}

-- a waiting submission is pending
pub waiting_pending : (sent : List Sent) (number : ℕ) (parts : Parts number sent) → IsTrue (is_one is_waiting (sent_at number sent))
    → IsTrue (is_one is_pending (sent_at number sent))
waiting_pending sent number parts waiting =
    subst (λ o. IsTrue (is_one is_pending o)) (sym parts.found) (and_parts _ _ (passes is_waiting number sent parts waiting)).0

-- a try moves the moment at which it expires
pub watches_tried : (old new : Heaps) (sent : List Sent) (number moment fails : ℕ) (parts : Parts number sent) → Stand sent
    → IsTrue (is_pending parts.one) → fails ≡ failing_at (tried moment parts.one) → Watches old sent
    → Sets number (option_map (with_due fails) (standing_at number old)) old new → Watches new (changed number (tried moment) sent)
watches_tried old new sent number moment fails parts stand pending is are sets =
    let there : slice_get sent number ≡ Some parts.one = at_place sent number parts.one stand parts.found in
    let was : standing_at number old ≡ Some (record { heap = 0; due = failing_at parts.one }) =
    are.each number ∙ ap watched there ∙ watched_pending parts.one pending in
    let now : watched (Some (tried moment parts.one)) ≡ Some (record { heap = 0; due = fails }) =
    watched_pending (tried moment parts.one) pending ∙ ap (λ d. Some (record { heap = 0; due = d })) (sym is) in
    watches_changed old new sent number (tried moment) parts.one stand there are
    (record { count = sets.count; here = sets.here ∙ ap (option_map (with_due fails)) was ∙ sym now; others = sets.others })

-- a settled one isn't watched any more
pub watches_settled : (old new : Heaps) (sent : List Sent) (number : ℕ) (m : Mark) (parts : Parts number sent) → Stand sent
    → is_pending_mark m ≡ false → Watches old sent → Sets number None old new → Watches new (changed number (marked m) sent)
watches_settled old new sent number m parts stand settled are sets =
    watches_changed old new sent number (marked m) parts.one stand (at_place sent number parts.one stand parts.found) are
    (record { count = sets.count; here = sets.here ∙ sym (watched_settled (marked m parts.one) settled); others = sets.others })

-- no room contradicts some room
pub no_room : {X : Type 0} (room : Option X) → room ≡ None → IsSome room → ⊥
no_room None none some = cc
no_room (Some x) none some = cc

-- The head of a queue is the first of its heap, if that is due.
use Rattle.std.proofs.Common.{◌≡◌, ◌≢◌, ℕ, ◌+◌, ◌<◌, ◌≤◌, List, [], ◌∷◌, Bool, true, false, cond, ◌&&◌, Option, Some, None, leb, inl, inr, refl, sym, ap, ◌∙◌, arith}
use Rattle.std.specs.List.{filter}
use Rattle.std.specs.Option.{option_map}
use Rattle.std.proofs.lemmas.Bool.{cases_eq, cases_lt, lt-ltb, le-ltb, le-leb, lt-leb, leb-true, false≢true}
use Rattle.std.proofs.lemmas.Option.{same_Some, none-some}
use Rattle.std.proofs.lemmas.Slice.Eq.{bytes_eq-Decides}
use Rattle.as4_effects.specs.declared.queue.Queue.{Queue}
use Rattle.as4_effects.specs.declared.queue.Queue.TheVariants as queue
use Rattle.exchange_model.specs.Least.{lesser, first_least}
use Rattle.exchange_model.specs.Questions.{is_same_queue}
use Rattle.channels.specs.Keeping.{number_if_due}
use Rattle.channels.specs.Queues.{waiting_at, is_due_in, head_in}
use Rattle.channels.specs.Rising.{RisesFrom}
use Rattle.channels.specs.declared.waiting.Waiting.{Waiting}
use Rattle.channels.proofs.RisingLemmas.{at_first, at_behind, found_at}
use Rattle.due_heap.specs.Heaps.{IsLeastOf}

-- it waits, and passes a test
pub record Passes (p : Waiting → Bool) (xs : List Waiting) (w : Waiting) : Type 0 where
  pub waits : waiting_at w.number xs ≡ Some w
  pub test : p w ≡ true

-- a later one that waits
behind : (p : Waiting → Bool) (x : Waiting) (xs : List Waiting) (w : Waiting) → RisesFrom (x.number + 1) xs → Passes p xs w → Passes p (x ∷ xs) w
behind p x xs w rises passes =
    let past = found_at (x.number + 1) w.number w xs rises passes.waits in
    record { waits = at_behind w.number x xs (λ e. omega (arith, past.from, e)) ∙ passes.waits; test = passes.test }

-- an earlier one that passes, and the first of the later ones
of_rest : (p : Waiting → Bool) (x : Waiting) (xs : List Waiting) (w : Waiting) (o : Option Waiting) → RisesFrom (x.number + 1) xs → ((y : Waiting) → o ≡ Some y → Passes p xs y) → p x ≡ true → Some (lesser (λ v. v.due) x o) ≡ Some w → Passes p (x ∷ xs) w
of_rest p x xs w None rises rest passes found =
    rw (← same_Some x w found) (record { waits = at_first x.number x xs refl; test = passes })
of_rest p x xs w (Some y) rises rest passes found =
    elim (cases_lt y.due x.due) [
      | inl less ↦
          let same : y ≡ w = same_Some y w (ap (λ b. Some (cond b y x)) (sym (lt-ltb y.due x.due less)) ∙ found) in
          rw (← same) (behind p x xs y rises (rest y refl))
      | inr le ↦
          let same : x ≡ w = same_Some x w (ap (λ b. Some (cond b y x)) (sym (le-ltb y.due x.due le)) ∙ found) in
          rw (← same) (record { waits = at_first x.number x xs refl; test = passes })
    ]

by_test : (p : Waiting → Bool) (x : Waiting) (xs : List Waiting) (w : Waiting) (b : Bool) → RisesFrom (x.number + 1) xs → ((y : Waiting) → first_least (λ v. v.due) (filter p xs) ≡ Some y → Passes p xs y) → p x ≡ b → first_least (λ v. v.due) (cond b (x ∷ filter p xs) (filter p xs)) ≡ Some w → Passes p (x ∷ xs) w
unfolding first_least
by_test p x xs w true rises rest passes found =
    of_rest p x xs w (first_least (λ v. v.due) (filter p xs)) rises rest passes found
by_test p x xs w false rises rest fails found = behind p x xs w rises (rest w found)

-- the first of those that pass is one of them
least_passes : (p : Waiting → Bool) (low : ℕ) (xs : List Waiting) (w : Waiting) → RisesFrom low xs → first_least (λ v. v.due) (filter p xs) ≡ Some w → Passes p xs w
unfolding RisesFrom first_least
least_passes p low [] w rises found = absurd (none-some w found)
least_passes p low (x ∷ xs) w rises found =
    by_test p x xs w (p x) rises.1 (λ y is. least_passes p (x.number + 1) xs y rises.1 is) refl found

-- where none passes, there is no first
pub no_least : (p : Waiting → Bool) (low : ℕ) (xs : List Waiting) → RisesFrom low xs → ((w : Waiting) → ¬ (Passes p xs w)) → first_least (λ v. v.due) (filter p xs) ≡ None
no_least p low xs rises none =
    by_answer (first_least (λ v. v.due) (filter p xs)) (λ w is. none w (least_passes p low xs w rises is))
  where
    by_answer : (o : Option Waiting) → ((w : Waiting) → o ≡ Some w → ⊥) → o ≡ None
    by_answer None never = refl
    by_answer (Some w) never = absurd (never w refl)

-- it passes, and is up to each that passes
pub record IsFirst (p : Waiting → Bool) (xs : List Waiting) (w : Waiting) : Type 0 where
  pub passes : Passes p xs w
  pub due : (v : Waiting) → Passes p xs v → w.due ≤ v.due
  pub number : (v : Waiting) → Passes p xs v → w.due ≡ v.due → w.number ≤ v.number

-- one that is up to the later ones is the lesser
lesser_front : (x : Waiting) (o : Option Waiting) → ((y : Waiting) → o ≡ Some y → x.due ≤ y.due) → lesser (λ v. v.due) x o ≡ x
lesser_front x None up_to = refl
lesser_front x (Some y) up_to = rw (le-ltb y.due x.due (up_to y refl)) refl

-- an earlier one that fails, or is due after the first of the later ones, doesn't change the first
behind_first : (p : Waiting → Bool) (x : Waiting) (xs : List Waiting) (w : Waiting) (b : Bool) → p x ≡ b → (p x ≡ true → w.due < x.due) → first_least (λ v. v.due) (filter p xs) ≡ Some w → first_least (λ v. v.due) (cond b (x ∷ filter p xs) (filter p xs)) ≡ Some w
unfolding first_least
behind_first p x xs w true passes before is =
    ap (λ (o : Option Waiting). Some (lesser (λ v. v.due) x o)) is
    ∙ ap (λ b. Some (cond b w x)) (lt-ltb w.due x.due (before passes))
behind_first p x xs w false fails before is = is

front_first : (p : Waiting → Bool) (x : Waiting) (xs : List Waiting) → p x ≡ true → lesser (λ v. v.due) x (first_least (λ v. v.due) (filter p xs)) ≡ x → first_least (λ v. v.due) (filter p (x ∷ xs)) ≡ Some x
unfolding first_least
front_first p x xs passes front = rw passes (ap (λ (w : Waiting). Some w) front)

-- that one is the first of those that pass
pub first_is : (p : Waiting → Bool) (low : ℕ) (xs : List Waiting) (w : Waiting) → RisesFrom low xs → IsFirst p xs w → first_least (λ v. v.due) (filter p xs) ≡ Some w
unfolding RisesFrom
first_is p low [] w rises first = absurd (none-some w first.passes.waits)
first_is p low (x ∷ xs) w rises first =
    elim (cases_eq x.number w.number) [
      | inl same ↦
          let it : x ≡ w = same_Some x w (sym (at_first w.number x xs same) ∙ first.passes.waits) in
          front_first p x xs (ap p it ∙ first.passes.test)
          (lesser_front x (first_least (λ v. v.due) (filter p xs)) (λ y is.
          let up_to = first.due y (behind p x xs y rises.1 (least_passes p (x.number + 1) xs y rises.1 is)) in
          omega (arith, up_to, ap (λ (v : Waiting). v.due) it)))
          ∙ ap (λ (v : Waiting). Some v) it
      | inr other ↦
          let past : Passes p xs w = record { waits = sym (at_behind w.number x xs other) ∙ first.passes.waits; test = first.passes.test } in
          let above = found_at (x.number + 1) w.number w xs rises.1 past.waits in
          behind_first p x xs w (p x) refl
          (λ passes.
          let front : Passes p (x ∷ xs) x = record { waits = at_first x.number x xs refl; test = passes } in
          let up_to = first.due x front in
          let before : w.due ≢ x.due = λ e. let less = first.number x front e in omega (arith, less, above.from) in
          omega (arith, up_to, before))
          (first_is p (x.number + 1) xs w rises.1
          (record {
            passes = past;
            due = λ v passes. first.due v (behind p x xs v rises.1 passes);
            number = λ v passes. first.number v (behind p x xs v rises.1 passes);
          }))
    ]

same_queue : (q : Queue) → is_same_queue q q ≡ true
unfolding is_same_queue
same_queue queue.Push = refl
same_queue (queue.Channel mpc) = (bytes_eq-Decides mpc mpc).1 refl

pub queue_is : (q other : Queue) → is_same_queue q other ≡ true → q ≡ other
unfolding is_same_queue
queue_is queue.Push queue.Push same = refl
queue_is queue.Push (queue.Channel mpc) same = absurd (false≢true same)
queue_is (queue.Channel mpc) queue.Push same = absurd (false≢true same)
queue_is (queue.Channel mpc) (queue.Channel other) same = ap queue.Channel ((bytes_eq-Decides mpc other).0 same)

and_parts : (a b : Bool) → (a && b) ≡ true → (a ≡ true) × (b ≡ true)
and_parts true b both = (refl, both)
and_parts false b both = absurd (false≢true both)

-- the first pair of those that wait in a queue gives its head
pub head_is : (P : ℕ × ℕ → Type 0) (q : Queue) (moment : ℕ) (xs : List Waiting) (r : Option (ℕ × ℕ)) → RisesFrom 0 xs → ((v : Waiting) → waiting_at v.number xs ≡ Some v → v.queue ≡ q → P (v.due, v.number)) → ((x : ℕ × ℕ) → P x → waiting_at x.1 xs ≡ Some (record { queue = q; due = x.0; number = x.1 })) → IsLeastOf P r → number_if_due moment r ≡ head_in q moment xs
unfolding head_in
head_is P q moment xs None rises to from none =
    ap (option_map (λ (w : Waiting). w.number))
    (sym (no_least (is_due_in q moment) 0 xs rises (λ v passes.
    none (v.due, v.number) (to v passes.waits (queue_is v.queue q (and_parts (is_same_queue v.queue q) (leb v.due moment) passes.test).0)))))
head_is P q moment xs (Some x) rises to from least =
    elim (cases_lt moment x.0) [
      | inl later ↦
          ap (λ b. cond b (Some x.1) None) (lt-leb x.0 moment later)
          ∙ ap (option_map (λ (w : Waiting). w.number))
          (sym (no_least (is_due_in q moment) 0 xs rises (λ v passes.
          let parts = and_parts (is_same_queue v.queue q) (leb v.due moment) passes.test in
          let up_to = least.least (v.due, v.number) (to v passes.waits (queue_is v.queue q parts.0)) in
          omega (arith, later, up_to.due, leb-true v.due moment parts.1))))
      | inr due ↦
          let first : IsFirst (is_due_in q moment) xs (record { queue = q; due = x.0; number = x.1 }) =
          record {
            passes = record {
              waits = from x least.among;
              test = ap (λ b. b && leb x.0 moment) (same_queue q) ∙ le-leb x.0 moment due;
            };
            due = λ v passes. (least.least (v.due, v.number) (to v passes.waits (queue_is v.queue q (and_parts (is_same_queue v.queue q) (leb v.due moment) passes.test).0))).due;
            number = λ v passes. (least.least (v.due, v.number) (to v passes.waits (queue_is v.queue q (and_parts (is_same_queue v.queue q) (leb v.due moment) passes.test).0))).number;
          } in
          ap (λ b. cond b (Some x.1) None) (le-leb x.0 moment due)
          ∙ ap (option_map (λ (w : Waiting). w.number))
          (sym (first_is (is_due_in q moment) 0 xs (record { queue = q; due = x.0; number = x.1 }) rises first))
    ]

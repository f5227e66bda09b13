-- Lists with one place overwritten, read by place.
use Rattle.std.proofs.Common.{ℕ, suc, zero, ◌<◌, ◌≤◌, ◌≡◌, ◌≢◌, List, [], ◌∷◌, ◌++◌, Option, Some, None, length, set, slice_get, take, replicate, ap, refl, arith, ◌∙◌}
use Rattle.std.specs.Option.{option_and_then}
use Rattle.std.proofs.lemmas.List.{take_all}
use Rattle.due_heap.specs.declared.pair.Slot.{Slot}
use Rattle.due_heap.specs.Keeping.{slot_at}

pub get-set_same : {X : Type 0} (xs : List X) (i : ℕ) (x : X) → i < length xs → slice_get (set xs i x) i ≡ Some x
get-set_same [] i x within = absurd (omega arith)
get-set_same (y ∷ ys) zero x within = refl
get-set_same (y ∷ ys) (suc i) x within = get-set_same ys i x (omega arith)

pub get-set_other : {X : Type 0} (xs : List X) (i : ℕ) (x : X) (k : ℕ) → k ≢ i → slice_get (set xs i x) k ≡ slice_get xs k
get-set_other [] i x k other = refl
get-set_other (y ∷ ys) zero x zero other = absurd (other refl)
get-set_other (y ∷ ys) zero x (suc k) other = refl
get-set_other (y ∷ ys) (suc i) x zero other = refl
get-set_other (y ∷ ys) (suc i) x (suc k) other = get-set_other ys i x k (λ e. other (ap suc e))

-- a number with a slot is in the table
pub slot_within : (slots : List (Option Slot)) (n : ℕ) (slot : Slot) → slot_at n slots ≡ Some slot → n < length slots
slot_within [] n slot found = absurd (cc)
slot_within (s ∷ ss) zero slot found = omega arith
slot_within (s ∷ ss) (suc n) slot found = let within = slot_within ss n slot found in omega arith

pub slot-set_same : (slots : List (Option Slot)) (n : ℕ) (slot : Option Slot) → n < length slots → slot_at n (set slots n slot) ≡ slot
slot-set_same slots n slot within = ap (option_and_then (λ (s : Option Slot). s)) (get-set_same slots n slot within)

pub slot-set_other : (slots : List (Option Slot)) (n : ℕ) (slot : Option Slot) (k : ℕ) → k ≢ n → slot_at k (set slots n slot) ≡ slot_at k slots
slot-set_other slots n slot k other = ap (option_and_then (λ (s : Option Slot). s)) (get-set_other slots n slot k other)

pub get-push_other : {X : Type 0} (xs : List X) (x : X) (i : ℕ) → i ≢ length xs → slice_get (xs ++ x ∷ []) i ≡ slice_get xs i
get-push_other [] x zero other = absurd (other refl)
get-push_other [] x (suc i) other = refl
get-push_other (y ∷ ys) x zero other = refl
get-push_other (y ∷ ys) x (suc i) other = get-push_other ys x i (λ e. other (ap suc e))

pub get-push_last : {X : Type 0} (xs : List X) (x : X) → slice_get (xs ++ x ∷ []) (length xs) ≡ Some x
get-push_last [] x = refl
get-push_last (y ∷ ys) x = get-push_last ys x

-- a longer table with the same entries
grown_at : (slots : List (Option Slot)) (m n : ℕ) → slot_at n (slots ++ replicate m None) ≡ slot_at n slots
grown_at [] zero n = refl
grown_at [] (suc m) zero = refl
grown_at [] (suc m) (suc n) = grown_at [] m n
grown_at (s ∷ slots) m zero = refl
grown_at (s ∷ slots) m (suc n) = grown_at slots m n

pub grown : (slots slots' : List (Option Slot)) (len m : ℕ) → length slots ≤ len → slots' ≡ take len slots ++ replicate m None → (n : ℕ) → slot_at n slots' ≡ slot_at n slots
grown slots slots' len m le is n =
    ap (slot_at n) (is ∙ ap (λ (l : List (Option Slot)). l ++ replicate m None) (take_all len slots le)) ∙ grown_at slots m n

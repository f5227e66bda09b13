-- What is cut off the front is there, and what is there is cut off.
use Rattle.std.proofs.Common.{◌≡◌, ℕ, ◌+◌, ◌<◌, ◌≤◌, Bool, true, false, cond, List, subst, ◌==◌, [], ◌∷◌, ◌++◌, length, get_or, drop, Option, Some, None, nat_eq, refl, sym, ap, ◌∙◌, arith, inl, inr, length-append, ◌⊎◌}
use Rattle.std.specs.Prelude.{IsTrue}
use Rattle.std.specs.List.{prefix_len, take_while, starts_with, list_all}
use Rattle.std.proofs.lemmas.Bool.{eqb-false, ne_eqb}
use Rattle.std.proofs.lemmas.Bool.Decides.{Decides-eqb}
use Rattle.std.proofs.lemmas.Option.{cond_some}
use Rattle.std.proofs.lemmas.Slice.Eq.{starts_is}
use Rattle.std.proofs.lemmas.List.{take-append-drop, get_or-take, get_or-drop, get_or_append_left, get_or_at, take_at, drop_at, length-take-le}
use Rattle.std.proofs.lemmas.List.Sums.{prefix_len_is, prefix_len_passes, prefix_len_stops, prefix_len-le-length, AllPass-from_list_all, list_all-from_AllPass}
use Rattle.byte_forms.specs.Cuts.{◌>>=◌, skip, run_at, strip_prefix}

-- ---- options

pub cases_option : {A : Type 0} (o : Option A) → (o ≡ None) ⊎ ((x : A) × (o ≡ Some x))
cases_option None = inl refl
cases_option (Some x) = inr (x, refl)

-- both parts of what was cut
pub bind_some : {A B P : Type 0} (o : Option A) (f : A → Option B) (y : B) → (o >>= f) ≡ Some y → ((x : A) → o ≡ Some x → f x ≡ Some y → P) → P
bind_some None f y e k = absurd cc
bind_some (Some x) f y e k = k x refl e

-- a test that wasn't passed
not_chosen : {A : Type 0} (b : Bool) (x y : A) → cond b None (Some x) ≡ Some y → (b ≡ false) × (x ≡ y)
not_chosen true x y e = absurd cc
not_chosen false x y e = (refl, cc)

-- ---- classes

-- bytes that begin with none of the class, or are at their end
abbrev pub Stops : (ℕ → Bool) → List ℕ → Type 0
Stops class [] = Unit {0}
Stops class (b ∷ bytes) = class b ≡ false

-- at least one byte, all of the class
abbrev pub IsRun : (ℕ → Bool) → List ℕ → Type 0
IsRun class bytes = (0 < length bytes) × IsTrue (list_all class bytes)

-- bytes that begin otherwise, by their first byte
stops_from : (class : ℕ → Bool) (bytes : List ℕ) → (0 < length bytes → class (get_or bytes 0 0) ≡ false) → Stops class bytes
stops_from class [] first = tt
stops_from class (b ∷ bytes) first = first (omega arith)

-- ---- runs

pub run_whole : (class : ℕ → Bool) (bytes : List ℕ) → bytes ≡ take_while class bytes ++ skip class bytes
run_whole class bytes = sym (take-append-drop (prefix_len class bytes) bytes)

pub length-run : (class : ℕ → Bool) (bytes : List ℕ) → length (take_while class bytes) ≡ prefix_len class bytes
length-run class bytes = length-take-le (prefix_len class bytes) bytes (prefix_len-le-length class bytes)

pub length-skip : (class : ℕ → Bool) (bytes : List ℕ) → length (skip class bytes) ≤ length bytes
length-skip class bytes = omega (arith, ap length (run_whole class bytes), length-append (take_while class bytes) (skip class bytes))

pub run_passes : (class : ℕ → Bool) (bytes : List ℕ) → IsTrue (list_all class (take_while class bytes))
run_passes class bytes =
    list_all-from_AllPass class (take_while class bytes) λ k d below.
    let before : k < prefix_len class bytes = rw (length-run class bytes) at below in
    rw (get_or-take (prefix_len class bytes) bytes k d before) (prefix_len_passes class bytes k d before)

pub run_stops : (class : ℕ → Bool) (bytes : List ℕ) → Stops class (skip class bytes)
run_stops class bytes =
    stops_from class (skip class bytes) λ some.
    let within : prefix_len class bytes < length bytes = omega (arith, length-run class bytes, ap length (run_whole class bytes), length-append (take_while class bytes) (skip class bytes)) in
    let at : get_or (skip class bytes) 0 0 ≡ get_or bytes (prefix_len class bytes + 0) 0 = get_or-drop (prefix_len class bytes) bytes 0 0 in
    let here : prefix_len class bytes + 0 ≡ prefix_len class bytes = omega arith in
    rw (at, here) (prefix_len_stops class bytes 0 within)

stop_at : (class : ℕ → Bool) (front rest : List ℕ) → Stops class rest → length front < length (front ++ rest) → class (get_or (front ++ rest) (length front) 0) ≡ false
stop_at class front [] stops more = absurd (omega (arith, length-append front []))
stop_at class front (b ∷ rest) stops more = rw (get_or_at front b rest 0 (length front) refl) stops

run_len : (class : ℕ → Bool) (front rest : List ℕ) → IsTrue (list_all class front) → Stops class rest → prefix_len class (front ++ rest) ≡ length front
run_len class front rest pass stops =
    prefix_len_is class (front ++ rest) (length front) 0 (omega (arith, length-append front rest))
    (λ k below. rw (get_or_append_left front rest 0 k below) (AllPass-from_list_all class front pass k 0 below)) (stop_at class front rest stops)

pub take_again : (class : ℕ → Bool) (front rest : List ℕ) → IsTrue (list_all class front) → Stops class rest → take_while class (front ++ rest) ≡ front
take_again class front rest pass stops =
    rw (run_len class front rest pass stops) (take_at front rest (length front) refl)

pub skip_again : (class : ℕ → Bool) (front rest : List ℕ) → IsTrue (list_all class front) → Stops class rest → skip class (front ++ rest) ≡ rest
skip_again class front rest pass stops =
    rw (run_len class front rest pass stops) (drop_at front rest (length front) refl)

pub run_takes : (class : ℕ → Bool) (bytes : List ℕ) (x : List ℕ × List ℕ) → run_at class bytes ≡ Some x → (bytes ≡ x.0 ++ x.1) × IsRun class x.0 × Stops class x.1
unfolding run_at
run_takes class bytes x e =
    let cut = not_chosen (prefix_len class bytes == 0) (take_while class bytes, skip class bytes) x e in
    let some : 0 < length (take_while class bytes) = omega (arith, eqb-false (prefix_len class bytes) 0 cut.0, length-run class bytes) in
    subst (λ (y : List ℕ × List ℕ). (bytes ≡ y.0 ++ y.1) × IsRun class y.0 × Stops class y.1) cut.1
    (run_whole class bytes, (some, run_passes class bytes), run_stops class bytes)

pub run_shortens : (class : ℕ → Bool) (bytes : List ℕ) (x : List ℕ × List ℕ) → run_at class bytes ≡ Some x → length x.1 < length bytes
run_shortens class bytes x e =
    let taken = run_takes class bytes x e in
    omega (arith, ap length taken.0, length-append x.0 x.1, taken.1.0)

pub run_again : (class : ℕ → Bool) (front rest : List ℕ) → IsRun class front → Stops class rest → run_at class (front ++ rest) ≡ Some (front, rest)
unfolding run_at
run_again class front rest run stops =
    let len = run_len class front rest run.1 stops in
    rw (ne_eqb (prefix_len class (front ++ rest)) 0 (omega (arith, run.0, len)), take_again class front rest run.1 stops, skip_again class front rest run.1 stops) refl

-- there is none
pub run_none : (class : ℕ → Bool) (bytes : List ℕ) → Stops class bytes → run_at class bytes ≡ None
unfolding run_at
run_none class bytes stops = rw (run_len class [] bytes refl stops) refl

-- ---- words

pub strip_prefix_takes : (word bytes rest : List ℕ) → strip_prefix word bytes ≡ Some rest → bytes ≡ word ++ rest
unfolding strip_prefix
strip_prefix_takes word bytes rest e =
    let cut = cond_some (starts_with nat_eq bytes word) (drop (length word) bytes) rest e in
    (starts_is Decides-eqb bytes word (starts_with nat_eq bytes word) refl).0 cut.0 ∙ ap (λ (r : List ℕ). word ++ r) cut.1

pub strip_prefix_again : (word rest : List ℕ) → strip_prefix word (word ++ rest) ≡ Some rest
unfolding strip_prefix
strip_prefix_again word rest =
    let begins : starts_with nat_eq (word ++ rest) word ≡ true = (starts_is Decides-eqb (word ++ rest) word (starts_with nat_eq (word ++ rest) word) refl).1 rest refl in
    rw (begins, drop_at word rest (length word) refl) refl

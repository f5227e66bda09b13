-- Lemmas on limits that are passed.
use Rattle.std.proofs.Common.{◌≡◌, ℕ, Result, Ok, Err, List, [], ◌++◌, Option, sym, ◌∙◌, ap, append-nil}
use Rattle.std.specs.Result.{IsErrAnd, IsErrOf}
use Rattle.as4_flow.specs.Flow.{before}
use Rattle.as4_flow.proofs.FlowLemmas.{before_append}
use Rattle.as4_http.specs.Passed.{Shows, GoesOver}
use Rattle.as4_http.specs.declared.refusal.HttpRefusal.{HttpRefusal}
use Rattle.as4_http.specs.declared.refusal.HttpRefusal.TheVariants.{TooLong}

-- what the rest of a stream shows, of the whole
pub shows_behind : (P Q : List ℕ → Type 0) (told now left : Option (List ℕ)) (front : List ℕ) → told ≡ before front now → ((rest : List ℕ) → P rest → Q (front ++ rest)) → Shows P now left → Shows Q told left
shows_behind P Q told now left front is on shows = record {
  read = front ++ shows.read;
  taken = is ∙ ap (λ (t : Option (List ℕ)). before front t) shows.taken ∙ before_append front shows.read left;
  holds = on shows.read shows.holds;
}

-- at the exit of a `?`, which passes the refusal on
pub refusal_exit : {X P : Type 0} (which : HttpRefusal) (r : Result X HttpRefusal) (refusal : HttpRefusal) → IsErrAnd r (λ y. y ≡ refusal) → (refusal ≡ which → P) → IsErrOf r which → P
refusal_exit which (Ok x) refusal same on is = absurd same
refusal_exit which (Err y) refusal same on is = on (cc)

pub too_long_exit : {X P : Type 0} (r : Result X HttpRefusal) (refusal : HttpRefusal) → IsErrAnd r (λ y. y ≡ refusal) → (refusal ≡ TooLong → P) → IsErrOf r TooLong → P
too_long_exit = refusal_exit TooLong

-- the bytes may become a part, and each that begins so is over its limit
pub begun_over : {Part : Type 0} (Reads : List ℕ → Part → List ℕ → Type 0) (IsOver : Part → Type 0) (bytes : List ℕ) → (more : List ℕ) × (part : Part) × Reads (bytes ++ more) part [] → ((more : List ℕ) (part : Part) (behind : List ℕ) → Reads (bytes ++ more) part behind → IsOver part) → GoesOver Reads IsOver bytes
begun_over Reads IsOver bytes may over = record { front = bytes; rest = []; parts = sym (append-nil bytes); right = may; over = over }

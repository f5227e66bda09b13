-- The numbers in bytes are those of the boundaries that occur there.
use Rattle.std.proofs.Common.{◌≡◌, ℕ, zero, suc, ◌+◌, ◌-◌, ◌^◌, ◌<◌, ◌≤◌, Bool, true, false, nat_eq, List, [], ◌∷◌, ◌++◌, Option, Some, None, length, drop, arith, refl, ap, sym, ◌∙◌, inl, inr, append_assoc, ◌⊎◌}
use Rattle.std.specs.Prelude.{◌≢◌, All, codes, option_map, slice_index, cond, bytes_eq}
use Rattle.std.specs.Option.{option_to_list}
use Rattle.std.specs.List.{Contains, flat_map, starts_with}
use Rattle.std.specs.List.Sorted.{IsPermutation}
use Rattle.std.proofs.lemmas.Bool.{cases_Bool}
use Rattle.std.proofs.lemmas.Bool.Decides.{Decides-eqb}
use Rattle.std.proofs.lemmas.List.Elements.{All-nil, All-cons, Contains-append_left, Contains-append_right, Contains-append_cases}
use Rattle.std.proofs.lemmas.List.Sorted.{Contains-permutation, IsPermutation-sym}
use Rattle.std.proofs.lemmas.Option.{cond_some}
use Rattle.std.proofs.lemmas.List.Prefix.{at_from_reads}
use Rattle.std.proofs.lemmas.Slice.Eq.{bytes_eq-Decides, starts_is}
use Rattle.memchr.specs.Find.{OccursAt, FindsNeedle}
use Rattle.as4_values.specs.declared.payload.Payload.{Payload}
use Rattle.message_model.specs.Package.{hex_digits, dash_boundary, root_id, Occurs, IsFree, IsBoundary}
use Rattle.byte_forms.specs.Cuts.{◌>>=◌, strip_prefix}
use Rattle.byte_forms.proofs.CutLemmas.{cases_option, bind_some, strip_prefix_takes, strip_prefix_again}
use Rattle.package_writer.specs.Numbers.{number_from, number_at, numbers_in, root_number, payload_numbers, taken, IsLeastWithout}
use Rattle.package_writer.proofs.NumberLemmas.{number_found, number_again}

-- a boundary at the start
at_found : (bytes : List ℕ) (n : ℕ) (rest : List ℕ) → number_at bytes ≡ Some (n, rest) → (bytes ≡ dash_boundary n ++ rest) × (n < 2 ^ 64)
unfolding number_at dash_boundary
at_found bytes n rest e =
    bind_some (strip_prefix (codes "--as4-") bytes) (number_from 0 16) (n, rest) e λ more is digits.
    let found = number_found 0 16 more n rest digits in (
      strip_prefix_takes (codes "--as4-") bytes more is ∙ (ap (λ (xs : List ℕ). codes "--as4-" ++ xs) found.0 ∙ sym (append_assoc (codes "--as4-") (hex_digits 16 n) rest)),
      omega (arith, found.1),
    )

at_again : (n : ℕ) (rest : List ℕ) → n < 2 ^ 64 → number_at (dash_boundary n ++ rest) ≡ Some (n, rest)
unfolding number_at dash_boundary
at_again n rest small =
    rw (append_assoc (codes "--as4-") (hex_digits 16 n) rest, strip_prefix_again (codes "--as4-") (hex_digits 16 n ++ rest)) (number_again 0 16 n rest (omega (arith, small)))

-- the first number
pub first_number : (bytes : List ℕ) → 0 < length bytes → numbers_in bytes ≡ option_to_list (option_map (λ found. found.0) (number_at bytes)) ++ numbers_in (drop 1 bytes)
unfolding numbers_in
first_number [] some = absurd (omega (arith, some))
first_number (b ∷ bytes) some = refl

only : (x n : ℕ) → Contains (x ∷ []) n → x ≡ n
only x n among =
    let first : among.0 ≡ 0 = omega (arith, among.1) in
    rw first at among.2

dash_some : (n : ℕ) (back : List ℕ) → 0 < length (dash_boundary n ++ back)
unfolding dash_boundary
dash_some n back = omega arith

-- a number that is counted has a boundary that occurs
pub number_occurs : (bytes : List ℕ) (n : ℕ) → Contains (numbers_in bytes) n → Occurs (dash_boundary n) bytes × (n < 2 ^ 64)
unfolding numbers_in
number_occurs [] n among = absurd (omega (arith, among.1))
number_occurs (b ∷ bytes) n among =
    elim (Contains-append_cases (option_to_list (option_map (λ found. found.0) (number_at (b ∷ bytes)))) (numbers_in bytes) n among) [
      | inl here ↦ elim (cases_option (number_at (b ∷ bytes))) [
        | inl none ↦ let nothing = rw none at here in absurd (omega (arith, nothing.1))
        | inr some ↦
            let found = at_found (b ∷ bytes) some.0.0 some.0.1 some.1 in
            let same = only some.0.0 n (rw some.1 at here) in
            (([], some.0.1, rw (← same) found.0), rw (← same) found.1)
      ]
      | inr later ↦
          let more = number_occurs bytes n later in
          ((b ∷ more.0.0, more.0.1, ap (λ (xs : List ℕ). b ∷ xs) more.0.2), more.1)
    ]

-- a boundary that occurs is counted
occurs_number : (front back : List ℕ) (n : ℕ) → n < 2 ^ 64 → Contains (numbers_in (front ++ (dash_boundary n ++ back))) n
unfolding numbers_in
occurs_number [] back n small =
    rw (first_number (dash_boundary n ++ back) (dash_some n back), at_again n back small)
    (Contains-append_left (n ∷ []) (numbers_in (drop 1 (dash_boundary n ++ back))) n (0, omega arith, refl))
occurs_number (b ∷ front) back n small = Contains-append_right _ _ n (occurs_number front back n small)

pub counted : (bytes : List ℕ) (n : ℕ) → n < 2 ^ 64 → Occurs (dash_boundary n) bytes → Contains (numbers_in bytes) n
counted bytes n small occurs =
    rw (occurs.2, append_assoc occurs.0 (dash_boundary n) occurs.1) (occurs_number occurs.0 occurs.1 n small)

-- the number of a root
root_found : (cid : List ℕ) (n : ℕ) → root_number cid ≡ Some n → cid ≡ root_id n
unfolding root_number root_id
root_found cid n e =
    bind_some (strip_prefix (codes "root-") cid) (λ rest. number_from 0 16 rest >>= λ found. cond (bytes_eq found.1 (codes "@as4")) (Some found.0) None) n e λ rest is more.
    bind_some (number_from 0 16 rest) (λ found. cond (bytes_eq found.1 (codes "@as4")) (Some found.0) None) n more λ found digits last.
    let end = cond_some (bytes_eq found.1 (codes "@as4")) found.0 n last in
    let number = number_found 0 16 rest found.0 found.1 digits in
    let end_is : found.1 ≡ codes "@as4" = (bytes_eq-Decides found.1 (codes "@as4")).0 end.0 in
    strip_prefix_takes (codes "root-") cid rest is
    ∙ (rw (number.0, end_is, end.1) (sym (append_assoc (codes "root-") (hex_digits 16 n) (codes "@as4"))))

root_again : (n : ℕ) → n < 2 ^ 64 → root_number (root_id n) ≡ Some n
unfolding root_number root_id
root_again n small =
    rw (append_assoc (codes "root-") (hex_digits 16 n) (codes "@as4"), strip_prefix_again (codes "root-") (hex_digits 16 n ++ codes "@as4"), number_again 0 16 n (codes "@as4") (omega (arith, small))) refl

-- a number that a payload leaves free, and a number that it takes
payload_free : (payload : Payload) (n : ℕ) → n < 2 ^ 64 → ¬ (Contains (payload_numbers payload) n) → (Occurs (dash_boundary n) payload.content → ⊥) × (payload.cid ≢ root_id n)
unfolding payload_numbers
payload_free payload n small none = (
  λ occurs. none (Contains-append_left (numbers_in payload.content) (option_to_list (root_number payload.cid)) n (counted payload.content n small occurs)),
  λ named.
      none (Contains-append_right (numbers_in payload.content) (option_to_list (root_number payload.cid)) n (rw (named, root_again n small) (0, omega arith, refl))),
)

payload_takes : (payload : Payload) (n : ℕ) → Contains (payload_numbers payload) n → (Occurs (dash_boundary n) payload.content → ⊥) → payload.cid ≢ root_id n → ⊥
unfolding payload_numbers
payload_takes payload n among free named =
    elim (Contains-append_cases (numbers_in payload.content) (option_to_list (root_number payload.cid)) n among) [
      | inl inside ↦ free (number_occurs payload.content n inside).0
      | inr root ↦ elim (cases_option (root_number payload.cid)) [
        | inl none ↦ let nothing = rw none at root in absurd (omega (arith, nothing.1))
        | inr some ↦ let same = only some.0 n (rw some.1 at root) in named (rw (← same) (root_found payload.cid some.0 some.1))
      ]
    ]

-- the same for all payloads
abbrev IsFreeIn : ℕ → Payload → Type 0
IsFreeIn n payload = (Occurs (dash_boundary n) payload.content → ⊥) × (payload.cid ≢ root_id n)

payloads_free : (payloads : List Payload) (n : ℕ) → n < 2 ^ 64 → ¬ (Contains (flat_map payload_numbers payloads) n) → All (IsFreeIn n) payloads
payloads_free [] n small none = All-nil (IsFreeIn n)
payloads_free (payload ∷ payloads) n small none =
    All-cons (IsFreeIn n) payload payloads
    (payload_free payload n small (λ among. none (Contains-append_left (payload_numbers payload) (flat_map payload_numbers payloads) n among)))
    (payloads_free payloads n small (λ among. none (Contains-append_right (payload_numbers payload) (flat_map payload_numbers payloads) n among)))

payloads_take : (payloads : List Payload) (n : ℕ) → Contains (flat_map payload_numbers payloads) n → All (IsFreeIn n) payloads → ⊥
payloads_take [] n among free = absurd (omega (arith, among.1))
payloads_take (payload ∷ payloads) n among free =
    elim (Contains-append_cases (payload_numbers payload) (flat_map payload_numbers payloads) n among) [
      | inl here ↦ let own = free 0 payload (omega arith) in payload_takes payload n here own.0 own.1
      | inr later ↦ payloads_take payloads n later (λ k d below. free (suc k) d (omega (arith, below)))
    ]

-- the least number that isn't taken is that of the boundary
pub least_is_boundary : (root : List ℕ) (payloads : List Payload) (numbers : List ℕ) (n : ℕ) → n < 2 ^ 64 → IsPermutation (taken root payloads) numbers → IsLeastWithout n numbers → IsBoundary n root payloads
unfolding taken
least_is_boundary root payloads numbers n small permuted least =
    let none : ¬ (Contains (taken root payloads) n) = λ among. least.free (Contains-permutation (taken root payloads) numbers n permuted among) in
    let free = payloads_free payloads n small (λ among. none (Contains-append_right (numbers_in root) (flat_map payload_numbers payloads) n among)) in
    record {
      free = record {
        in_root = λ occurs. none (Contains-append_left (numbers_in root) (flat_map payload_numbers payloads) n (counted root n small occurs));
        in_payloads = λ k d below. (free k d below).0;
        named = λ k d below. (free k d below).1;
      };
      least = λ m below is.
          let among = Contains-permutation numbers (taken root payloads) m (IsPermutation-sym (taken root payloads) numbers permuted) (least.least m below) in
          elim (Contains-append_cases (numbers_in root) (flat_map payload_numbers payloads) m among) [
            | inl inside ↦ is.in_root (number_occurs root m inside).0
            | inr later ↦ payloads_take payloads m later (λ k d short. (is.in_payloads k d short, is.named k d short))
          ];
    }

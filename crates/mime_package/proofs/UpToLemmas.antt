-- The first place where something is found, by searching for a word with which each such place begins.
use Rattle.std.proofs.Common.{◌≡◌, ℕ, zero, suc, ◌+◌, ◌-◌, List, [], ◌∷◌, ◌++◌, length, take, drop, Option, Some, None, refl, sym, ap, subst, ◌∙◌, arith, inl, inr, append_assoc, length-append, take-append-drop, append-nil}
use Rattle.std.specs.Prelude.{option_map, slice_index}
use Rattle.std.proofs.lemmas.List.{take_at}
use Rattle.std.proofs.lemmas.List.Prefix.{front_reads, front_fits}
use Rattle.memchr.specs.Find.{OccursAt, FindsNeedle}
use Rattle.mime_package.specs.Reading.{up_to}
use Rattle.byte_forms.proofs.CutLemmas.{cases_option}

-- whatever is found begins with the word
pub record BeginWith {X : Type 0} (word : List ℕ) (found : List ℕ → Option X) : Type 0 where
  pub begins : (bytes : List ℕ) (x : X) → found bytes ≡ Some x → (rest : List ℕ) × (bytes ≡ word ++ rest)

-- puts bytes before a cut
abbrev pub behind_front : {X : Type 0} → List ℕ → Option (List ℕ × X) → Option (List ℕ × X)
behind_front front None = None
behind_front front (Some cut) = Some (front ++ cut.0, cut.1)

-- nothing was found so far
pub record GoesTo {X : Type 0} (found : List ℕ → Option X) (bytes rest : List ℕ) : Type 0 where
  pub front : List ℕ
  pub whole : bytes ≡ front ++ rest
  pub cut : up_to found bytes ≡ behind_front front (up_to found rest)

-- ---- places

-- an occurrence in the whole is one place earlier in the tail
shifted : (x : ℕ) (xs word : List ℕ) (k : ℕ) → OccursAt (x ∷ xs) word (suc k) → OccursAt xs word k
shifted x xs word k occurs = record {
  fits = omega (arith, occurs.fits);
  reads = λ j below. let place : suc k + j ≡ suc (k + j) = omega arith in ap (λ i. slice_index (x ∷ xs) i) (sym place) ∙ occurs.reads j below;
}

-- an occurrence in the tail is one place later in the whole
unshifted : (x : ℕ) (xs word : List ℕ) (k : ℕ) → OccursAt xs word k → OccursAt (x ∷ xs) word (suc k)
unshifted x xs word k occurs = record {
  fits = omega (arith, occurs.fits);
  reads = λ j below. let place : suc k + j ≡ suc (k + j) = omega arith in ap (λ i. slice_index (x ∷ xs) i) place ∙ occurs.reads j below;
}

-- a word with which the bytes begin occurs at place 0
occurs_first : (bytes word rest : List ℕ) → bytes ≡ word ++ rest → OccursAt bytes word 0
occurs_first bytes word rest is = record {
  fits = omega (arith, front_fits bytes word rest is);
  reads = λ j below. let place : 0 + j ≡ j = omega arith in ap (λ i. slice_index bytes i) place ∙ front_reads 0 bytes word rest is j below;
}

-- ---- cuts

-- no bytes put before
none_in_front : {X : Type 0} (cut : Option (List ℕ × X)) → behind_front [] cut ≡ cut
none_in_front None = refl
none_in_front (Some cut) = refl

-- two runs put before, one after the other
two_in_front : {X : Type 0} (a b : List ℕ) (cut : Option (List ℕ × X)) → behind_front a (behind_front b cut) ≡ behind_front (a ++ b) cut
two_in_front a b None = refl
two_in_front a b (Some cut) = ap (λ (l : List ℕ). Some (l, cut.1)) (sym (append_assoc a b cut.0))

-- a byte put before
one_in_front : {X : Type 0} (b : ℕ) (cut : Option (List ℕ × X)) → option_map (λ c. (b ∷ c.0, c.1)) cut ≡ behind_front (b ∷ []) cut
one_in_front b None = refl
one_in_front b (Some cut) = refl

-- ---- the search

-- one byte later
pub up_to_behind : {X : Type 0} (found : List ℕ → Option X) (b : ℕ) (bytes : List ℕ) → found (b ∷ bytes) ≡ None → up_to found (b ∷ bytes) ≡ behind_front (b ∷ []) (up_to found bytes)
unfolding up_to
up_to_behind found b bytes none = rw (none, up_to) (one_in_front b (up_to found bytes))

-- the same for a search that has come to the rest
goes_behind : {X : Type 0} (found : List ℕ → Option X) (bytes rest : List ℕ) → GoesTo found bytes rest → found rest ≡ None → GoesTo found bytes (drop 1 rest)
goes_behind found bytes [] goes none = goes
goes_behind found bytes (b ∷ rest) goes none = record {
  front = goes.front ++ b ∷ [];
  whole = goes.whole ∙ sym (append_assoc goes.front (b ∷ []) rest);
  cut = goes.cut ∙ ap (behind_front goes.front) (up_to_behind found b rest none) ∙ two_in_front goes.front (b ∷ []) (up_to found rest);
}

-- where something is found, the bytes begin with the word
stands : {X : Type 0} (word : List ℕ) (found : List ℕ → Option X) → BeginWith word found → (bytes : List ℕ) (x : X) → found bytes ≡ Some x → OccursAt bytes word 0
stands word found begin bytes x is = let front = begin.begins bytes x is in occurs_first bytes word front.0 front.1

-- the search skips to the first occurrence of the word
skipped : {X : Type 0} (word : List ℕ) (found : List ℕ → Option X) → BeginWith word found → (bytes : List ℕ) (k : ℕ) → FindsNeedle bytes word 0 (Some k)
    → up_to found bytes ≡ behind_front (take k bytes) (up_to found (drop k bytes))
skipped word found begin bytes zero finds = sym (none_in_front (up_to found bytes))
skipped word found begin [] (suc k) finds = absurd (omega (arith, finds.1.fits))
skipped word found begin (x ∷ xs) (suc k) finds = elim (cases_option (found (x ∷ xs))) [
  | inr some ↦ absurd (finds.0.before 0 (omega arith) (omega arith) (stands word found begin (x ∷ xs) some.0 some.1))
  | inl none ↦
      let tail = skipped word found begin xs k (
        record {
          low = omega arith;
          high = omega (arith, finds.0.high);
          before = λ i low high occurs. finds.0.before (suc i) (omega arith) (omega arith) (unshifted x xs word i occurs);
        },
        shifted x xs word k finds.1,
      ) in
      up_to_behind found x xs none ∙ ap (behind_front (x ∷ [])) tail ∙ two_in_front (x ∷ []) (take k xs) (up_to found (drop k xs))
]

-- the same for a search that has come to the rest
goes_on : {X : Type 0} (word : List ℕ) (found : List ℕ → Option X) → BeginWith word found → (bytes rest : List ℕ) (k : ℕ) → GoesTo found bytes rest → FindsNeedle rest word 0 (Some k)
    → GoesTo found bytes (drop k rest)
goes_on word found begin bytes rest k goes finds = record {
  front = goes.front ++ take k rest;
  whole = goes.whole ∙ ap (λ (l : List ℕ). goes.front ++ l) (sym (take-append-drop k rest)) ∙ sym (append_assoc goes.front (take k rest) (drop k rest));
  cut = goes.cut ∙ ap (behind_front goes.front) (skipped word found begin rest k finds) ∙ two_in_front goes.front (take k rest) (up_to found (drop k rest));
}

-- the word doesn't occur
nowhere : {X : Type 0} (word : List ℕ) (found : List ℕ → Option X) → BeginWith word found → (bytes : List ℕ) → FindsNeedle bytes word 0 None → up_to found bytes ≡ None
unfolding up_to
nowhere word found begin [] finds = elim (cases_option (found [])) [
  | inr some ↦ absurd (finds 0 (omega arith) (omega arith) (stands word found begin [] some.0 some.1))
  | inl none ↦ rw none refl
]
nowhere word found begin (x ∷ xs) finds = elim (cases_option (found (x ∷ xs))) [
  | inr some ↦ absurd (finds 0 (omega arith) (omega arith) (stands word found begin (x ∷ xs) some.0 some.1))
  | inl none ↦
      let tail = nowhere word found begin xs (λ i low high occurs. finds (suc i) (omega arith) (omega arith) (unshifted x xs word i occurs)) in
      up_to_behind found x xs none ∙ ap (behind_front (x ∷ [])) tail
]

-- the same for a search that has come to the rest
pub goes_nowhere : {X : Type 0} (word : List ℕ) (found : List ℕ → Option X) → BeginWith word found → (bytes rest : List ℕ) → GoesTo found bytes rest → FindsNeedle rest word 0 None
    → up_to found bytes ≡ None
goes_nowhere word found begin bytes rest goes finds = goes.cut ∙ ap (behind_front goes.front) (nowhere word found begin rest finds)

-- something is found at the start
pub up_to_here : {X : Type 0} (found : List ℕ → Option X) (bytes : List ℕ) (x : X) → found bytes ≡ Some x → up_to found bytes ≡ Some ([], x)
unfolding up_to
up_to_here found [] x is = rw is refl
up_to_here found (b ∷ bytes) x is = rw (is, up_to) refl

-- the same for a search that has come to the rest
goes_found : {X : Type 0} (found : List ℕ → Option X) (bytes rest : List ℕ) (x : X) → GoesTo found bytes rest → found rest ≡ Some x
    → up_to found bytes ≡ Some (take (length bytes - length rest) bytes, x)
goes_found found bytes rest x goes is =
    let front : take (length bytes - length rest) bytes ≡ goes.front =
    ap (take (length bytes - length rest)) goes.whole ∙ take_at goes.front rest (length bytes - length rest) (omega (arith, ap length goes.whole, length-append goes.front rest)) in
    goes.cut ∙ ap (behind_front goes.front) (up_to_here found rest x is) ∙ rw front (ap (λ (l : List ℕ). Some (l, x)) (append-nil goes.front))

-- ---- a loop over the occurrences of the word

-- nothing is found at the next occurrence of the word
pub loop_on : {X : Type 0} (word : List ℕ) (found : List ℕ → Option X) → BeginWith word found → (bytes rest hit behind : List ℕ) (k : ℕ) → GoesTo found bytes rest
    → FindsNeedle rest word 0 (Some k) → hit ≡ drop k rest → found hit ≡ None → behind ≡ drop 1 hit → GoesTo found bytes behind
loop_on word found begin bytes rest hit behind k goes finds is_hit none is_behind =
    let at : GoesTo found bytes hit = subst (λ (l : List ℕ). GoesTo found bytes l) (sym is_hit) (goes_on word found begin bytes rest k goes finds) in
    subst (λ (l : List ℕ). GoesTo found bytes l) (sym is_behind) (goes_behind found bytes hit at none)

-- something is found there
pub loop_found : {X : Type 0} (word : List ℕ) (found : List ℕ → Option X) → BeginWith word found → (bytes rest hit : List ℕ) (k : ℕ) (x : X) → GoesTo found bytes rest
    → FindsNeedle rest word 0 (Some k) → hit ≡ drop k rest → found hit ≡ Some x → up_to found bytes ≡ Some (take (length bytes - length hit) bytes, x)
loop_found word found begin bytes rest hit k x goes finds is_hit is =
    let at : GoesTo found bytes hit = subst (λ (l : List ℕ). GoesTo found bytes l) (sym is_hit) (goes_on word found begin bytes rest k goes finds) in
    goes_found found bytes hit x at is

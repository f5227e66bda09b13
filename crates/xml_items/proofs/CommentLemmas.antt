-- The first two dashes, as a search finds them.
use Rattle.std.proofs.Common.{◌≡◌, ℕ, zero, suc, ◌+◌, ◌<◌, List, [], ◌∷◌, ◌++◌, take, drop, Some, None, refl, sym, ap, subst, ◌∙◌, arith, inl, inr}
use Rattle.std.specs.Prelude.{slice_index}
use Rattle.std.proofs.lemmas.List.Prefix.{at_from_reads}
use Rattle.memchr.specs.Find.{OccursAt, FindsNeedle}
use Rattle.byte_forms.specs.Cuts.{strip_prefix}
use Rattle.xml_items.specs.Cutting.{dashes_at}
use Rattle.byte_forms.proofs.CutLemmas.{cases_option, strip_prefix_takes, strip_prefix_again}

abbrev dashes : List ℕ
dashes = 45 ∷ 45 ∷ []

-- an occurrence in the tail is one place later in the whole
shifted : (x : ℕ) (xs : List ℕ) (k : ℕ) → OccursAt (x ∷ xs) dashes (suc k) → OccursAt xs dashes k
shifted x xs k occurs = record {
  fits = omega (arith, occurs.fits);
  reads = λ j below. let place : suc k + j ≡ suc (k + j) = omega arith in ap (λ i. slice_index (x ∷ xs) i) (sym place) ∙ occurs.reads j below;
}

unshifted : (x : ℕ) (xs : List ℕ) (k : ℕ) → OccursAt xs dashes k → OccursAt (x ∷ xs) dashes (suc k)
unshifted x xs k occurs = record {
  fits = omega (arith, occurs.fits);
  reads = λ j below. let place : suc k + j ≡ suc (k + j) = omega arith in ap (λ i. slice_index (x ∷ xs) i) place ∙ occurs.reads j below;
}

-- dashes at place 0 are cut off as a prefix
cut_at_start : (hay : List ℕ) → OccursAt hay dashes 0 → strip_prefix dashes hay ≡ Some (drop 2 hay)
cut_at_start hay occurs =
    let whole : hay ≡ dashes ++ drop 2 hay = at_from_reads 0 hay dashes 0 occurs.fits occurs.reads in
    ap (strip_prefix dashes) whole ∙ strip_prefix_again dashes (drop 2 hay)

starts_there : (hay rest : List ℕ) → strip_prefix dashes hay ≡ Some rest → OccursAt hay dashes 0
starts_there hay rest cut =
    subst (λ (xs : List ℕ). OccursAt xs dashes 0) (sym (strip_prefix_takes dashes hay rest cut))
    (record { fits = omega arith; reads = reads })
  where
    reads : (j : ℕ) → j < 2 → slice_index (dashes ++ rest) (0 + j) ≡ slice_index dashes j
    reads zero below = refl
    reads (suc zero) below = refl
    reads (suc (suc j)) below = absurd (omega arith)

pub dashes_found : (hay : List ℕ) (k : ℕ) → FindsNeedle hay dashes 0 (Some k) → dashes_at hay ≡ Some (take k hay, drop 2 (drop k hay))
unfolding dashes_at
dashes_found [] k finds = absurd (omega (arith, finds.1.fits))
dashes_found (x ∷ xs) zero finds = rw (cut_at_start (x ∷ xs) finds.1, dashes_at) refl
dashes_found (x ∷ xs) (suc k) finds = elim (cases_option (strip_prefix dashes (x ∷ xs))) [
  | inr some ↦ absurd (finds.0.before 0 (omega arith) (omega arith) (starts_there (x ∷ xs) some.0 some.1))
  | inl none ↦
      let tail = dashes_found xs k (
        record {
          low = omega arith;
          high = omega (arith, finds.0.high);
          before = λ i low high occurs. finds.0.before (suc i) (omega arith) (omega arith) (unshifted x xs i occurs);
        },
        shifted x xs k finds.1,
      ) in
      rw (none, dashes_at, tail) refl
]

pub no_dashes_found : (hay : List ℕ) → FindsNeedle hay dashes 0 None → dashes_at hay ≡ None
unfolding dashes_at
no_dashes_found [] finds = refl
no_dashes_found (x ∷ xs) finds = elim (cases_option (strip_prefix dashes (x ∷ xs))) [
  | inr some ↦ absurd (finds 0 (omega arith) (omega arith) (starts_there (x ∷ xs) some.0 some.1))
  | inl none ↦
      let tail = no_dashes_found xs (λ i low high occurs. finds (suc i) (omega arith) (omega arith) (unshifted x xs i occurs)) in
      rw (none, dashes_at, tail) refl
]

-- Bytes that begin with no boundary contribute no number.
use Rattle.std.proofs.Common.{◌≡◌, ℕ, zero, suc, ◌+◌, ◌-◌, ◌<◌, ◌≤◌, Bool, true, false, nat_eq, List, [], ◌∷◌, ◌++◌, Option, Some, None, length, drop, arith, refl, ap, sym, ◌∙◌, inl, inr, length-append, length-drop}
use Rattle.std.specs.Prelude.{codes, option_map, slice_index}
use Rattle.std.specs.Option.{option_to_list}
use Rattle.std.specs.List.{starts_with}
use Rattle.std.proofs.lemmas.Bool.{cases_Bool}
use Rattle.std.proofs.lemmas.Bool.Decides.{Decides-eqb}
use Rattle.std.proofs.lemmas.List.{get_or_append_left}
use Rattle.std.proofs.lemmas.Slice.Eq.{starts_is}
use Rattle.memchr.specs.Find.{OccursAt, FindsNeedle}
use Rattle.byte_forms.specs.Cuts.{◌>>=◌, strip_prefix}
use Rattle.package_writer.specs.Numbers.{number_from, number_at, numbers_in}
use Rattle.package_writer.proofs.BoundaryLemmas.{first_number}

abbrev dashes : List ℕ
dashes = codes "--as4-"

-- bytes that begin with the dashes, as an occurrence
starts_there : (bytes : List ℕ) → starts_with nat_eq bytes dashes ≡ true → OccursAt bytes dashes 0
starts_there bytes starts =
    let front = (starts_is Decides-eqb bytes dashes (starts_with nat_eq bytes dashes) refl).0 starts in
    record {
      fits = omega (arith, ap length front, length-append dashes (drop (length dashes) bytes));
      reads = λ j below. let place : 0 + j ≡ j = omega arith in rw (place, front) (get_or_append_left dashes (drop (length dashes) bytes) 0 j below);
    }

begins_none : (bytes : List ℕ) → ¬ (OccursAt bytes dashes 0) → number_at bytes ≡ None
unfolding number_at strip_prefix
begins_none bytes none = elim (cases_Bool (starts_with nat_eq bytes dashes)) [
  | inl starts ↦ absurd (none (starts_there bytes starts))
  | inr other ↦ rw other refl
]

unshifted : (x : ℕ) (xs : List ℕ) (k : ℕ) → OccursAt xs dashes k → OccursAt (x ∷ xs) dashes (suc k)
unshifted x xs k occurs = record {
  fits = omega (arith, occurs.fits);
  reads = λ j below. let place : suc k + j ≡ suc (k + j) = omega arith in ap (λ i. slice_index (x ∷ xs) i) place ∙ occurs.reads j below;
}

shifted : (x : ℕ) (xs : List ℕ) (k : ℕ) → OccursAt (x ∷ xs) dashes (suc k) → OccursAt xs dashes k
shifted x xs k occurs = record {
  fits = omega (arith, occurs.fits);
  reads = λ j below. let place : suc k + j ≡ suc (k + j) = omega arith in ap (λ i. slice_index (x ∷ xs) i) (sym place) ∙ occurs.reads j below;
}

pub none_there : (bytes : List ℕ) → FindsNeedle bytes dashes 0 None → numbers_in bytes ≡ []
unfolding numbers_in
none_there [] finds = refl
none_there (x ∷ xs) finds =
    rw (begins_none (x ∷ xs) (finds 0 (omega arith) (omega arith)))
    (none_there xs (λ k low high occurs. finds (suc k) (omega arith) (omega (arith, high)) (unshifted x xs k occurs)))

none_before : (bytes : List ℕ) (at : ℕ) → FindsNeedle bytes dashes 0 (Some at) → numbers_in bytes ≡ numbers_in (drop at bytes)
unfolding numbers_in
none_before bytes zero finds = refl
none_before [] (suc at) finds = absurd (omega (arith, finds.1.fits))
none_before (x ∷ xs) (suc at) finds =
    rw (begins_none (x ∷ xs) (finds.0.before 0 (omega arith) (omega arith)))
    (none_before xs at (
      record {
        low = omega arith;
        high = omega (arith, finds.0.high);
        before = λ k low high occurs. finds.0.before (suc k) (omega arith) (omega (arith, high)) (unshifted x xs k occurs);
      },
      shifted x xs at finds.1,
    ))

-- the number at the first occurrence, if there is one, and the later ones
pub numbers_from : (bytes : List ℕ) (at : ℕ) → FindsNeedle bytes dashes 0 (Some at)
    → numbers_in bytes ≡ option_to_list (option_map (λ found. found.0) (number_at (drop at bytes))) ++ numbers_in (drop 1 (drop at bytes))
numbers_from bytes at finds =
    none_before bytes at finds ∙ first_number (drop at bytes) (omega (arith, finds.1.fits, length-drop at bytes))

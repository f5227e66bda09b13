-- The bytes are cut at the first occurrence of the needle.
use Rattle.std.proofs.Common.{◌≡◌, ℕ, zero, suc, true, nat_eq, subst, ◌+◌, ◌<◌, ◌≤◌, List, [], ◌∷◌, ◌++◌, Some, None, length, take, drop, arith, refl, ap, sym, ◌∙◌, length-append, inl, inr}
use Rattle.std.proofs.lemmas.Bool.{cases_Bool}
use Rattle.std.specs.Prelude.{slice_index}
use Rattle.std.specs.List.{starts_with}
use Rattle.std.proofs.lemmas.Slice.Eq.{starts_is}
use Rattle.std.proofs.lemmas.Bool.Decides.{Decides-eqb}
use Rattle.std.proofs.lemmas.List.{get_or_append_left, get_or-append-add, drop-drop}
use Rattle.std.proofs.lemmas.List.Prefix.{at_from_reads}
use Rattle.memchr.specs.Find.{OccursAt, FindsNeedle}
use Rattle.message_model.specs.Wire.{cut_at}

occurs_here : (front needle back : List ℕ) → OccursAt (front ++ (needle ++ back)) needle (length front)
occurs_here front needle back = record {
  fits = simp (length-append) (omega arith);
  reads = λ j below. get_or-append-add front (needle ++ back) j 0 ∙ get_or_append_left needle back 0 j below;
}

-- an occurrence in the tail is one place later in the whole
shifted : (x : ℕ) (xs needle : List ℕ) (k : ℕ) → OccursAt (x ∷ xs) needle (suc k) → OccursAt xs needle k
shifted x xs needle k occurs = record {
  fits = omega (arith, occurs.fits);
  reads = λ j below. let place : suc k + j ≡ suc (k + j) = omega arith in ap (λ i. slice_index (x ∷ xs) i) (sym place) ∙ occurs.reads j below;
}

unshifted : (x : ℕ) (xs needle : List ℕ) (k : ℕ) → OccursAt xs needle k → OccursAt (x ∷ xs) needle (suc k)
unshifted x xs needle k occurs = record {
  fits = omega (arith, occurs.fits);
  reads = λ j below. let place : suc k + j ≡ suc (k + j) = omega arith in ap (λ i. slice_index (x ∷ xs) i) place ∙ occurs.reads j below;
}

-- the needle occurs at place 0 where the bytes start with it
at_start : (hay needle : List ℕ) → OccursAt hay needle 0 → starts_with nat_eq hay needle ≡ true
at_start hay needle occurs =
    let tail = at_from_reads 0 hay needle 0 occurs.fits occurs.reads in
    (starts_is Decides-eqb hay needle (starts_with nat_eq hay needle) refl).1 (drop (0 + length needle) hay) tail

starts_there : (hay needle : List ℕ) → starts_with nat_eq hay needle ≡ true → OccursAt hay needle 0
starts_there hay needle starts =
    let front = (starts_is Decides-eqb hay needle (starts_with nat_eq hay needle) refl).0 starts in
    let here = occurs_here [] needle (drop (length needle) hay) in
    let P : List ℕ → Type 0 = λ xs. OccursAt xs needle 0 in subst P (sym front) here

pub cut_some : (needle hay : List ℕ) (k : ℕ) → 0 < length needle → FindsNeedle hay needle 0 (Some k) → cut_at needle hay ≡ Some (take k hay, drop (k + length needle) hay)
unfolding cut_at
cut_some needle [] k some finds = absurd (omega (arith, finds.1.fits))
cut_some needle (x ∷ xs) zero some finds =
    let none : 0 + length needle ≡ length needle = omega arith in
    rw (at_start (x ∷ xs) needle finds.1, none) refl
cut_some needle (x ∷ xs) (suc k) some finds =
    elim (cases_Bool (starts_with nat_eq (x ∷ xs) needle)) [
      | inl starts ↦ absurd (finds.0.before 0 (omega arith) (omega arith) (starts_there (x ∷ xs) needle starts))
      | inr other ↦
          let tail = cut_some needle xs k some (
            record {
              low = omega arith;
              high = omega (arith, finds.0.high);
              before = λ i low high occurs. finds.0.before (suc i) (omega arith) (omega arith) (unshifted x xs needle i occurs);
            },
            shifted x xs needle k finds.1,
          ) in
          let place : suc k + length needle ≡ suc (k + length needle) = omega arith in
          rw (other, tail, place) refl
    ]

pub cut_none : (needle hay : List ℕ) → FindsNeedle hay needle 0 None → cut_at needle hay ≡ None
unfolding cut_at
cut_none needle [] finds = refl
cut_none needle (x ∷ xs) finds =
    elim (cases_Bool (starts_with nat_eq (x ∷ xs) needle)) [
      | inl starts ↦ absurd (finds 0 (omega arith) (omega arith) (starts_there (x ∷ xs) needle starts))
      | inr other ↦
          let tail = cut_none needle xs (λ i low high occurs. finds (suc i) (omega arith) (omega arith) (unshifted x xs needle i occurs)) in
          rw (other, tail) refl
    ]

pub behind_cut : (bytes : List ℕ) (at n : ℕ) → drop n (drop at bytes) ≡ drop (at + n) bytes
behind_cut bytes at n = drop-drop n at bytes

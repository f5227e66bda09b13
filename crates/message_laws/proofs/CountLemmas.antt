-- Distinct Content-IDs that are all among others are at most as many as those.
use Rattle.std.proofs.Common.{◌≡◌, ℕ, ◌≤◌, List, [], ◌∷◌, Bool, true, false, length, refl, true≢false, sym}
use Rattle.std.specs.Prelude.{not, ◌||◌, bytes_eq}
use Rattle.std.specs.Cmp.{first_so, second_so}
use Rattle.std.specs.List.{list_all, AllByRecursion, IsDistinct}
use Rattle.std.proofs.lemmas.Cmp.{nat_list_eq_equiv}
use Rattle.std.proofs.lemmas.Map.Made.{length-le_from_is_member}
use Rattle.std.proofs.lemmas.Slice.Eq.{bytes_eq-Decides}
use Rattle.as4_values.specs.Pairing.{is_among, all_differ}

-- if a disjunction fails, both sides fail
neither : (a b : Bool) → not (a || b) ≡ true → (a ≡ false) × (not b ≡ true)
neither true b e = absurd (true≢false (sym e))
neither false b e = (refl, e)

-- a Content-ID that isn't among these differs from each of them
apart : (cid : List ℕ) (cids : List (List ℕ)) → not (is_among cids cid) ≡ true → AllByRecursion (λ other. bytes_eq cid other ≡ false) cids
apart cid [] none = tt
apart cid (first ∷ cids) none =
    let both = neither (bytes_eq cid first) (is_among cids cid) none in (both.0, apart cid cids both.1)

-- Content-IDs that differ are distinct keys
distinct : (cids : List (List ℕ)) → all_differ cids ≡ true → IsDistinct bytes_eq cids
unfolding all_differ IsDistinct
distinct [] differ = tt
distinct (cid ∷ cids) differ =
    (apart cid cids (first_so (not (is_among cids cid)) (all_differ cids) differ), distinct cids (second_so (not (is_among cids cid)) (all_differ cids) differ))

-- if all of these are among others, each that is among these is among the others
among : (cids others : List (List ℕ)) → list_all (is_among others) cids ≡ true → (cid : List ℕ) → is_among cids cid ≡ true → is_among others cid ≡ true
among [] others all cid found = absurd (true≢false (sym found))
among (first ∷ cids) others all cid found =
    by (bytes_eq cid first) refl found (among cids others (second_so (is_among others first) (list_all (is_among others) cids) all) cid)
  where
    by : (same : Bool) → bytes_eq cid first ≡ same → (same || is_among cids cid) ≡ true → (is_among cids cid ≡ true → is_among others cid ≡ true) → is_among others cid ≡ true
    by true same found later = rw ((bytes_eq-Decides cid first).0 same) (first_so (is_among others first) (list_all (is_among others) cids) all)
    by false same found later = later found

-- so distinct ones are at most as many as the others
pub no_more : (cids others : List (List ℕ)) → all_differ cids ≡ true → list_all (is_among others) cids ≡ true → length cids ≤ length others
no_more cids others differ all = length-le_from_is_member nat_list_eq_equiv cids others (distinct cids differ) (among cids others all)

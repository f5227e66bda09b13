-- A leaf with a list of records is broken at no place.
use Rattle.std.proofs.Common.{◌≡◌, inl, inr, ⊎_elim, ℕ, ◌<◌, List, [], ◌∷◌, ◌++◌, length, take, drop, get_or, refl, sym, ◌∙◌, ap, subst, arith, append_assoc, length-append}
use Rattle.std.specs.Prelude.{flat_map}
use Rattle.std.proofs.lemmas.List.{append-nil}
use Rattle.journal.specs.declared.version.Version.{Version}
use Rattle.journal.specs.Leaf.{limit_of, length_bytes, record_of, front_of, IsCutShort, Lists, IsBroken}
use Rattle.journal.proofs.LeafLemmas.{AreFirst, compared, front_magic, length-front, length-record, length-front_more, record_at}
use Rattle.journal.proofs.FetchLemmas.{front_split}

-- a gate with an open one at the end of these records behind it is open
pub opens_all : (version : Version) (more : List (List ℕ)) (gate : ℕ) (x rest : List ℕ) → gate ∷ rest ≡ flat_map (record_of version) more ++ 1 ∷ x → gate ≡ 1
opens_all version [] gate x rest same = ap (λ (l : List ℕ). get_or l 0 0) same
opens_all version (body ∷ more) gate x rest same =
    let others = flat_map (record_of version) more in
    ap (λ (l : List ℕ). get_or l 0 0) (same ∙ append_assoc (record_of version body) others (1 ∷ x) ∙ record_at version body (others ++ 1 ∷ x))

-- records that a leaf begins with go no further than one that is cut short
pub cut_short_last : (v w : Version) (read all : List (List ℕ)) (x y leaf : List ℕ) → IsCutShort v read x leaf → leaf ≡ front_of w all ++ y → length (front_of w all) < limit_of w → 0 < length y
    → (v ≡ w) × AreFirst v all read y (1 ∷ x)
cut_short_last v w read all x y leaf cut begins within some =
    let found = compared v w read all (1 ∷ x) y cut.within within (sym cut.bytes ∙ begins) in
    let P : Version → Type 0 = λ u. length (front_of u all) < limit_of u in
    (found.0, ⊎_elim (λ (first : AreFirst v read all (1 ∷ x) y). last first.0 first.1 (subst P (sym found.0) within) first.2) (λ (first : AreFirst v all read y (1 ∷ x)). first) found.1)
  where
    split : (l : List ℕ) → 0 < length l → (next : ℕ) × (after : List ℕ) × (l ≡ next ∷ after)
    split [] some = absurd (omega arith)
    split (next ∷ after) some = (next, after, refl)

    last : (more : List (List ℕ)) → all ≡ read ++ more → length (front_of v all) < limit_of v → 1 ∷ x ≡ flat_map (record_of v) more ++ y → AreFirst v all read y (1 ∷ x)
    last [] bodies small behind = ([], sym (append-nil all ∙ bodies ∙ append-nil read), sym behind)
    last (body ∷ more) bodies small behind =
        let others = flat_map (record_of v) more in
        let next = split (others ++ y) (omega (arith, some, length-append others y)) in
        let whole : x ≡ length_bytes v (length body) ++ body ++ (others ++ y) =
        ap (λ (l : List ℕ). drop 1 l) (behind ∙ append_assoc (record_of v body) others y ∙ record_at v body (others ++ y)) in
        let long = cut.not_whole body next.1 next.0 (whole ∙ ap (λ (l : List ℕ). length_bytes v (length body) ++ body ++ l) next.2) in
        absurd (omega (
          arith,
          small,
          long,
          ap (λ (l : List (List ℕ)). length (front_of v l)) bodies,
          ap length (front_split v read (body ∷ more)),
          length-append (front_of v read) (record_of v body ++ others),
          length-append (record_of v body) others,
          length-record v body,
          length-front_more v read body,
        ))

-- where a leaf is no journal behind records that it begins with, the next is cut short
pub cut_short_here : (at : ℕ) (version : Version) (bodies : List (List ℕ)) (y leaf : List ℕ) → IsBroken at leaf → leaf ≡ front_of version bodies ++ y → length (front_of version bodies) < limit_of version → 0 < length y → at ≡ length (front_of version bodies)
    → (rest : List ℕ) × IsCutShort version bodies rest leaf
cut_short_here at version bodies y leaf (long, inl none) begins within some place = absurd (omega (arith, none.0, place, length-front version bodies))
cut_short_here at version bodies y leaf (long, inr (v, read, x, there, cut)) begins within some place =
    let found = cut_short_last v version read bodies x y leaf cut begins within some in
    let P : Version → Type 0 = λ u. at ≡ length (front_of u bodies) in
    let Q : Version → List (List ℕ) → Type 0 = λ u l. IsCutShort u l x leaf in
    (x, subst (λ (u : Version). Q u bodies) found.0 (subst (Q v) (none_more found.1.0 found.1.1 (subst P (sym found.0) place)) cut))
  where
    none_more : (more : List (List ℕ)) → read ≡ bodies ++ more → at ≡ length (front_of v bodies) → read ≡ bodies
    none_more [] is here = is ∙ append-nil bodies
    none_more (body ∷ more) is here =
        absurd (omega (
          arith,
          here,
          there,
          ap (λ (l : List (List ℕ)). length (front_of v l)) is,
          ap length (front_split v bodies (body ∷ more)),
          length-append (front_of v bodies) (record_of v body ++ flat_map (record_of v) more),
          length-append (record_of v body) (flat_map (record_of v) more),
          length-record v body,
        ))

-- the two exclude each other
pub lists_unbroken : (leaf : List ℕ) (at : ℕ) (bodies : List (List ℕ)) → IsBroken at leaf → Lists bodies leaf → ⊥
lists_unbroken leaf at bodies broken (inl new) = omega (arith, broken.0, new.0)
lists_unbroken leaf at bodies (long, inl none) (inr is) =
    none.1 is.0 (ap (λ (l : List ℕ). take 8 l) is.3.bytes ∙ front_magic is.0 bodies (is.1 ∷ is.2))
lists_unbroken leaf at bodies (long, inr cut) (inr is) =
    let found = cut_short_last cut.0 is.0 cut.1 bodies cut.2 (is.1 ∷ is.2) leaf cut.4 is.3.bytes is.3.within (omega arith) in
    is.3.closed (opens_all cut.0 found.1.0 is.1 cut.2 is.2 found.1.2)

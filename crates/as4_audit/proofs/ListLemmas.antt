-- Lists that grow item by item.
use Rattle.std.proofs.Common.{◌≡◌, ℕ, zero, suc, ◌+◌, ◌-◌, ◌<◌, List, [], ◌∷◌, ◌++◌, Bor, Option, Some, None, length, map, take, drop, get_or, refl, ap, sym, ◌∙◌, arith, add-one, length-drop}
use Rattle.std.specs.Prelude.{slice_get}
use Rattle.std.proofs.Math.Seq.{drop-cons}
use Rattle.std.proofs.lemmas.List.{map-append, take-append-drop, take_all, take_more}
use Rattle.as4_audit.specs.Audit.{AllRead, Reads}
use Rattle.as4_effects.specs.declared.effect.Effect.{Effect}

-- one item more
got_next : {X : Type 0} (xs : List X) (n : ℕ) (x : X) → Some x ≡ slice_get xs n → take (suc n) xs ≡ take n xs ++ x ∷ []
got_next [] n x e = absurd cc
got_next (y ∷ ys) zero x e = let same : x ≡ y = cc in rw same refl
got_next (y ∷ ys) (suc n) x e = ap (λ rest. y ∷ rest) (got_next ys n x e)

pub take_got : {X : Type 0} (xs : List X) (n : ℕ) (x : X) → Some x ≡ slice_get xs n → take (n + 1) xs ≡ take n xs ++ x ∷ []
take_got xs n x e = ap (λ k. take k xs) (let more : n + 1 ≡ suc n = omega arith in more) ∙ got_next xs n x e

-- none is left
pub took_all : {X : Type 0} (xs : List X) (n : ℕ) → None ≡ slice_get xs n → take n xs ≡ xs
took_all [] zero e = refl
took_all [] (suc n) e = refl
took_all (y ∷ ys) zero e = absurd cc
took_all (y ∷ ys) (suc n) e = ap (λ rest. y ∷ rest) (took_all ys n e)

-- one record more
pub read_more : (bodies : List (List ℕ)) (records : List (Option (List Effect))) (body : List ℕ) (item : Option (List Effect))
    → AllRead bodies records → Reads body item → AllRead (bodies ++ body ∷ []) (records ++ item ∷ [])
read_more [] [] body item read one = (one, tt)
read_more [] (r ∷ records) body item read one = absurd read
read_more (b ∷ bodies) [] body item read one = absurd read
read_more (b ∷ bodies) (r ∷ records) body item read one = (read.0, read_more bodies records body item read.1 one)

-- one record more, and then others
pub read_all : (bodies : List (List ℕ)) (records : List (Option (List Effect))) (body : List ℕ) (item : Option (List Effect))
    (others : List (List ℕ)) (rest : List (Option (List Effect))) → AllRead bodies records → Reads body item → AllRead others rest
    → AllRead (bodies ++ body ∷ others) (records ++ item ∷ rest)
read_all [] [] body item others rest read one all = (one, all)
read_all [] (r ∷ records) body item others rest read one all = absurd read
read_all (b ∷ bodies) [] body item others rest read one all = absurd read
read_all (b ∷ bodies) (r ∷ records) body item others rest read one all = (read.0, read_all bodies records body item others rest read.1 one all)

-- the bodies that are lent, by their bytes
abbrev pub bytes_of : List (Bor (List ℕ)) → List (List ℕ)
bytes_of lent = map (λ (body : Bor (List ℕ)). body.now) lent

-- the body at a place
abbrev pub body_at : List (Bor (List ℕ)) → ℕ → Bor (List ℕ)
body_at lent i = get_or lent i (record { ref_ptr = (0, 0); now = [] })

pub bytes_more : (lent : List (Bor (List ℕ))) (i : ℕ) → i < length lent
    → bytes_of (take (i + 1) lent) ≡ bytes_of (take i lent) ++ (body_at lent i).now ∷ []
bytes_more lent i inside =
    ap bytes_of (take_more lent i _ inside) ∙ map-append (λ (body : Bor (List ℕ)). body.now) (take i lent) (body_at lent i ∷ [])

pub bytes_split : (lent : List (Bor (List ℕ))) (i : ℕ) → i < length lent
    → bytes_of lent ≡ bytes_of (take i lent) ++ (body_at lent i).now ∷ bytes_of (take (length lent - (i + 1)) (drop (i + 1) lent))
bytes_split lent i inside =
    let at : drop i lent ≡ body_at lent i ∷ drop (i + 1) lent = rw (add-one, drop-cons lent i (record { ref_ptr = (0, 0); now = [] })) refl in
    let rest : take (length lent - (i + 1)) (drop (i + 1) lent) ≡ drop (i + 1) lent = take_all _ _ (omega (arith, length-drop (i + 1) lent)) in
    ap bytes_of (sym (take-append-drop i lent)) ∙ map-append (λ (body : Bor (List ℕ)). body.now) (take i lent) (drop i lent)
    ∙ ap (λ (bs : List (Bor (List ℕ))). bytes_of (take i lent) ++ bytes_of bs) (at ∙ ap (λ (bs : List (Bor (List ℕ))). body_at lent i ∷ bs) (sym rest))

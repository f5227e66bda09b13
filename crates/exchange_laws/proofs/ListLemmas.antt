-- Items of joined and mapped lists, by `Contains` and by place.
use Rattle.std.proofs.Common.{◌≡◌, ℕ, zero, suc, ◌<◌, ◌⊎◌, inl, inr, List, [], ◌∷◌, ◌++◌, Bool, true, false, cond, Option, Some, None, length, get_or, map, refl, sym, ap, ◌∙◌, arith}
use Rattle.std.specs.Prelude.{slice_get}
use Rattle.std.specs.List.{Contains, find, filter_map, cons_option}
use Rattle.exchange_model.proofs.ListLemmas.{Has}

-- by its place
has_at : {X : Type 0} (xs : List X) (k : ℕ) (x : X) → k < length xs → get_or xs k x ≡ x → Has xs x
has_at [] k x l e = absurd (omega arith)
has_at (y ∷ ys) zero x l e = inl e
has_at (y ∷ ys) (suc k) x l e = inr (has_at ys k x (omega arith) e)

-- the same as `Contains`
pub has_contained : {X : Type 0} (xs : List X) (x : X) → Contains xs x → Has xs x
has_contained xs x c = has_at xs c.0 x c.1 c.2

pub contains_had : {X : Type 0} (xs : List X) (x : X) → Has xs x → Contains xs x
contains_had [] x h = absurd h
contains_had (y ∷ ys) x (inl e) = (0, omega arith, e)
contains_had (y ∷ ys) x (inr h) =
    let c : Contains ys x = contains_had ys x h in (suc c.0, omega (arith, c.1), c.2)

-- the item at a place is one
pub has_got : {X : Type 0} (xs : List X) (n : ℕ) (x : X) → slice_get xs n ≡ Some x → Has xs x
has_got [] n x e = absurd cc
has_got (y ∷ ys) zero x e = inl cc
has_got (y ∷ ys) (suc n) x e = inr (has_got ys n x e)

-- the item at a place is there in a longer list too
pub got_left : {X : Type 0} (xs ys : List X) (n : ℕ) (x : X) → slice_get xs n ≡ Some x → slice_get (xs ++ ys) n ≡ Some x
got_left [] ys n x e = absurd cc
got_left (y ∷ xs) ys zero x e = e
got_left (y ∷ xs) ys (suc n) x e = got_left xs ys n x e

-- the last item of a longer list is there
pub got_last : {X : Type 0} (xs : List X) (x : X) → slice_get (xs ++ x ∷ []) (length xs) ≡ Some x
got_last [] x = refl
got_last (y ∷ xs) x = got_last xs x

-- and its image in the mapped list
pub got_mapped : {X Y : Type 0} (f : X → Y) (xs : List X) (n : ℕ) (x : X) → slice_get xs n ≡ Some x
    → slice_get (map f xs) n ≡ Some (f x)
got_mapped f [] n x e = absurd cc
got_mapped f (y ∷ xs) zero x e = let same : y ≡ x = cc in ap (λ z. Some (f z)) same
got_mapped f (y ∷ xs) (suc n) x e = got_mapped f xs n x e

-- in lists that are joined
pub had_left : {X : Type 0} (xs ys : List X) (x : X) → Has xs x → Has (xs ++ ys) x
had_left [] ys x h = absurd h
had_left (y ∷ xs) ys x (inl e) = inl e
had_left (y ∷ xs) ys x (inr h) = inr (had_left xs ys x h)

pub had_right : {X : Type 0} (xs ys : List X) (x : X) → Has ys x → Has (xs ++ ys) x
had_right [] ys x h = h
had_right (y ∷ xs) ys x h = inr (had_right xs ys x h)

pub has_either : {X : Type 0} (xs ys : List X) (x : X) → Has (xs ++ ys) x → Has xs x ⊎ Has ys x
has_either [] ys x h = inr h
has_either (y ∷ xs) ys x (inl e) = inl (inl e)
has_either (y ∷ xs) ys x (inr h) = elim (has_either xs ys x h) [ inl a ↦ inl (inr a) | inr b ↦ inr b ]

-- an item of a mapped list is the image of an item
pub has_mapped : {X Y : Type 0} (f : X → Y) (xs : List X) (y : Y) → Has (map f xs) y → (x : X) × Has xs x × (f x ≡ y)
has_mapped f [] y h = absurd h
has_mapped f (x ∷ xs) y (inl e) = (x, inl refl, e)
has_mapped f (x ∷ xs) y (inr h) = let m = has_mapped f xs y h in (m.0, inr m.1, m.2)

-- the image of an item is in the mapped list
pub had_mapped : {X Y : Type 0} (f : X → Y) (xs : List X) (x : X) → Has xs x → Has (map f xs) (f x)
had_mapped f [] x h = absurd h
had_mapped f (y ∷ xs) x (inl e) = inl (ap f e)
had_mapped f (y ∷ xs) x (inr h) = inr (had_mapped f xs x h)

-- by the result of the first test
finds_by : {X : Type 0} (p : X → Bool) (y x : X) (ys : List X) (b : Bool) → p y ≡ b → p x ≡ true
    → (Has ys x → (z : X) × (find p ys ≡ Some z)) → Has (y ∷ ys) x → (z : X) × (cond b (Some y) (find p ys) ≡ Some z)
finds_by p y x ys true e passes rest h = (y, refl)
finds_by p y x ys false e passes rest (inl same) = absurd (let no : false ≡ true = sym e ∙ ap p same ∙ passes in cc)
finds_by p y x ys false e passes rest (inr h) = rest h

-- where an item passes, one is found
pub finds : {X : Type 0} (p : X → Bool) (xs : List X) (x : X) → Has xs x → p x ≡ true → (z : X) × (find p xs ≡ Some z)
finds p [] x h passes = absurd h
finds p (y ∷ ys) x h passes = finds_by p y x ys (p y) refl passes (λ k. finds p ys x k passes) h

-- by the result for the first item
filter_mapped_by : {X Y : Type 0} (f : X → Option Y) (x : X) (y : Y) (ys : List Y) (o : Option Y) → f x ≡ o
    → (Has ys y → (z : X) × (f z ≡ Some y)) → Has (cons_option o ys) y → (z : X) × (f z ≡ Some y)
filter_mapped_by f x y ys None e rest h = rest h
filter_mapped_by f x y ys (Some z) e rest (inl same) = (x, e ∙ ap Some same)
filter_mapped_by f x y ys (Some z) e rest (inr h) = rest h

-- each result comes from one of the items
pub has_filter_mapped : {X Y : Type 0} (f : X → Option Y) (xs : List X) (y : Y) → Has (filter_map f xs) y
    → (x : X) × (f x ≡ Some y)
has_filter_mapped f [] y h = absurd h
has_filter_mapped f (x ∷ xs) y h = filter_mapped_by f x y (filter_map f xs) (f x) refl (has_filter_mapped f xs y) h

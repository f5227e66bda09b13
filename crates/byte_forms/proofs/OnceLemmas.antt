-- No bytes begin with the bodies of two values.
use Rattle.std.proofs.Common.{◌≡◌, ◌≢◌, ℕ, ◌+◌, ◌^◌, ◌<◌, List, [], ◌∷◌, ◌++◌, ◌↔◌, length, drop, get_or, append_assoc, refl, ap, sym, subst, ◌∙◌, arith}
use Rattle.std.specs.Prelude.{false, ◌==◌, Some, None, IfSome}
use Rattle.std.proofs.lemmas.Bool.{eq-eqb, false≢true}
use Rattle.std.specs.List.{flat_map}
use Rattle.byte_forms.specs.Bytes.{number_body, text_body, option_body, list_body, pair_body, ended_body, literal_body}
use Rattle.byte_forms.specs.Forms.{IsCounted, IsList, IsPair, IsEnded, Each, Once}
use Rattle.byte_forms.proofs.NumberLemmas.{fronts, number_once, regroup}

pub first_byte : {a b : ℕ} {r s : List ℕ} → a ∷ r ≡ b ∷ s → a ≡ b
first_byte e = ap (λ l. get_or l 0 0) e

pub apart : {a b : ℕ} → a ≡ b → (a == b) ≡ false → ⊥
apart {a} {b} e differ = false≢true (sym differ ∙ eq-eqb a b e)

pub text_once : Once (IsCounted {X = ℕ}) text_body
unfolding text_body
text_once x y r s a b e =
    let parts = number_once 4 (length x) (length y) (x ++ r) (y ++ s) a b (regroup (number_body 4 (length x)) x _ (number_body 4 (length y)) y _ e) in
    fronts x y parts.0 parts.1

pub option_once : {X : Type 0} (is : X → Type 0) (body : X → List ℕ) → Once is body → Once (λ o. IfSome o is) (option_body body)
option_once is body once None None r s a b e = (refl, ap (drop 1) e)
option_once is body once None (Some y) r s a b e = absurd (apart (first_byte e) refl)
option_once is body once (Some x) None r s a b e = absurd (apart (first_byte e) refl)
option_once is body once (Some x) (Some y) r s a b e =
    let parts = once x y r s a b (ap (drop 1) e) in
    (ap Some parts.0, parts.1)

-- the items of two lists of one length
pub items_once : {X : Type 0} (is : X → Type 0) (body : X → List ℕ) → Once is body
    → (xs ys : List X) (r s : List ℕ) → length xs ≡ length ys → Each is xs → Each is ys
    → flat_map body xs ++ r ≡ flat_map body ys ++ s → (xs ≡ ys) × (r ≡ s)
items_once is body once [] [] r s n a b e = (refl, e)
items_once is body once [] (y ∷ ys) r s n a b e = absurd (omega (arith, n))
items_once is body once (x ∷ xs) [] r s n a b e = absurd (omega (arith, n))
items_once is body once (x ∷ xs) (y ∷ ys) r s n a b e =
    let first = once x y _ _ a.0 b.0 (regroup (body x) (flat_map body xs) _ (body y) (flat_map body ys) _ e) in
    let others = items_once is body once xs ys r s (omega (arith, n)) a.1 b.1 first.1 in
    (cc, others.1)

pub list_once : {X : Type 0} (is : X → Type 0) (body : X → List ℕ) → Once is body → Once (IsList is) (list_body body)
list_once is body once x y r s a b e =
    let parts = number_once 4 (length x) (length y) _ _ a.0 b.0 (regroup (number_body 4 (length x)) (flat_map body x) _ (number_body 4 (length y)) (flat_map body y) _ e) in
    items_once is body once x y r s parts.0 a.1 b.1 parts.1

pub pair_once : {X Y : Type 0} (is : X → Type 0) (body : X → List ℕ) (also : Y → Type 0) (behind : Y → List ℕ) → Once is body → Once also behind
    → Once (IsPair is also) (pair_body body behind)
pair_once {X} {Y} is body also behind once next p q r s a b e =
    let made : X → Y → X × Y = λ x y. (x, y) in
    let first = once p.0 q.0 _ _ a.0 b.0 (regroup (body p.0) (behind p.1) _ (body q.0) (behind q.1) _ e) in
    let second = next p.1 q.1 r s a.1 b.1 first.1 in
    (ap (λ x. made x p.1) first.0 ∙ ap (made q.0) second.0, second.1)

-- bytes up to the one that ends them
pub ended_once : (end : ℕ) → Once (IsEnded end) (ended_body end)
ended_once end [] [] r s a b e = (refl, ap (drop 1) e)
ended_once end [] (y ∷ ys) r s a b e = absurd (b.0 (sym (first_byte e)))
ended_once end (x ∷ xs) [] r s a b e = absurd (a.0 (first_byte e))
ended_once end (x ∷ xs) (y ∷ ys) r s a b e =
    let others = ended_once end xs ys r s a.1 b.1 (ap (drop 1) e) in
    let first : x ≡ y = first_byte e in
    (cc, others.1)

-- the same bytes, where there is one value
pub literal_once : {X : Type 0} (is : X → Type 0) (bytes : List ℕ) → ((x y : X) → is x → is y → x ≡ y) → Once is (literal_body bytes)
literal_once is bytes one x y r s a b e = (one x y a b, (fronts bytes bytes refl e).1)

-- values that are told by what is written of them
pub once_by : {X Y : Type 0} (is : X → Type 0) (body : X → List ℕ) (other : Y → Type 0) (also : Y → List ℕ) (f : Y → X) → Once is body
    → ((a b : Y) → f a ≡ f b → a ≡ b) → ((y : Y) → other y ↔ is (f y)) → ((y : Y) → also y ≡ body (f y)) → Once other also
once_by is body other also f once told kept same x y r s a b e =
    let parts = once (f x) (f y) r s ((kept x).0 a) ((kept y).0 b) (ap (λ l. l ++ r) (sym (same x)) ∙ e ∙ ap (λ l. l ++ s) (same y)) in
    (told x y parts.0, parts.1)

pub once_within : {X : Type 0} (is within : X → Type 0) (body : X → List ℕ) → Once is body → ((x : X) → within x → is x) → Once within body
once_within is within body once kept x y r s a b e = once x y r s (kept x a) (kept y b) e

-- values that are made of their parts, by facts of these that have one proof, are told by the parts
pub told_by : {X Y : Type 0} (f : Y → X) (fact : X → Type 0) (make : (x : X) → fact x → Y) → ((x : X) → IsProp (fact x))
    → (held : (y : Y) → fact (f y)) → ((y : Y) → make (f y) (held y) ≡ y) → (a b : Y) → f a ≡ f b → a ≡ b
told_by f fact make one held back a b e =
    sym (back a)
    ∙ subst (λ x. (w : fact x) → make x w ≡ b) (sym e) (λ w. ap (make (f b)) (one (f b) w (held b)) ∙ back b) (held a)

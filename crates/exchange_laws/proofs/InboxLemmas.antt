-- The identifiers of the messages in an inbox.
use Rattle.std.proofs.Common.{◌≡◌, ◌≢◌, ℕ, zero, suc, ◌+◌, ◌⊎◌, inl, inr, List, [], ◌∷◌, ◌++◌, Bool, true, false, cond, get_or, map, refl, sym, ap, ◌∙◌, subst, arith}
use Rattle.std.specs.Prelude.{◌||◌}
use Rattle.std.specs.List.{AllPairs, count_by, list_any}
use Rattle.std.specs.Str.{bytes_eq}
use Rattle.std.proofs.lemmas.List.Elements.{Contains-get_or}
use Rattle.std.proofs.lemmas.List.Sums.{sum_by-cons}
use Rattle.std.proofs.lemmas.Slice.Eq.{bytes_eq-Decides}
use Rattle.exchange_model.specs.Questions.{is_known}
use Rattle.exchange_model.specs.declared.inbox_entry.InboxEntry.{InboxEntry}
use Rattle.exchange_model.proofs.ListLemmas.{Has}
use Rattle.exchange_laws.proofs.ListLemmas.{has_contained, has_either}

abbrev pub id_of : InboxEntry → List ℕ
id_of entry = entry.header.id

abbrev pub ids : List InboxEntry → List (List ℕ)
ids inbox = map id_of inbox

-- no two are equal
abbrev pub Apart : List (List ℕ) → Type 0
Apart [] = Unit {0}
Apart (x ∷ xs) = (Has xs x → ⊥) × Apart xs

-- a new one at the end
pub apart_push : (xs : List (List ℕ)) (x : List ℕ) → Apart xs → (Has xs x → ⊥) → Apart (xs ++ x ∷ [])
apart_push [] x apart new = (λ h. absurd h, tt)
apart_push (y ∷ ys) x apart new =
    (λ h. not_there (has_either ys (x ∷ []) y h), apart_push ys x apart.1 (λ h. new (inr h)))
  where
    not_there : Has ys y ⊎ Has (x ∷ []) y → ⊥
    not_there (inl old) = apart.0 old
    not_there (inr (inl e)) = new (inl (sym e))
    not_there (inr (inr none)) = none

-- the same by places
pub all_apart : (xs : List (List ℕ)) → Apart xs → AllPairs (λ a b. a ≢ b) xs
all_apart [] apart i j d below within = absurd (omega arith)
all_apart (x ∷ xs) apart zero zero d below within = absurd (omega arith)
all_apart (x ∷ xs) apart (suc i) zero d below within = absurd (omega arith)
all_apart (x ∷ xs) apart zero (suc j) d below within =
    λ e. apart.0 (subst (Has xs) (sym e) (has_contained xs (get_or xs j d) (Contains-get_or xs j d (omega arith))))
all_apart (x ∷ xs) apart (suc i) (suc j) d below within = all_apart xs apart.1 i j d (omega arith) (omega arith)

pub or_either : (a b : Bool) → (a || b) ≡ true → (a ≡ true) ⊎ (b ≡ true)
or_either true b h = inl refl
or_either false b h = inr h

or_left : (a b : Bool) → a ≡ true → (a || b) ≡ true
or_left true b h = refl
or_left false b h = absurd cc

or_right : (a b : Bool) → b ≡ true → (a || b) ≡ true
or_right true b h = refl
or_right false b h = h

-- a known identifier is one of them
pub known_has : (id : List ℕ) (inbox : List InboxEntry) → is_known id inbox ≡ true → Has (ids inbox) id
unfolding is_known
known_has id [] h = absurd cc
known_has id (e ∷ es) h =
    elim (or_either (bytes_eq e.header.id id) (list_any (λ (entry : InboxEntry). bytes_eq entry.header.id id) es) h)
    [ inl same ↦ inl ((bytes_eq-Decides e.header.id id).0 same) | inr later ↦ inr (known_has id es later) ]

pub has_known : (id : List ℕ) (inbox : List InboxEntry) → Has (ids inbox) id → is_known id inbox ≡ true
unfolding is_known
has_known id [] h = absurd h
has_known id (e ∷ es) (inl same) =
    or_left (bytes_eq e.header.id id) (list_any (λ (entry : InboxEntry). bytes_eq entry.header.id id) es)
    ((bytes_eq-Decides e.header.id id).1 same)
has_known id (e ∷ es) (inr later) =
    or_right (bytes_eq e.header.id id) (list_any (λ (entry : InboxEntry). bytes_eq entry.header.id id) es) (has_known id es later)

-- an unknown one is none of them
pub unknown_new : (id : List ℕ) (inbox : List InboxEntry) → is_known id inbox ≡ false → Has (ids inbox) id → ⊥
unknown_new id inbox unknown h =
    let known : is_known id inbox ≡ true = has_known id inbox h in
    let no : false ≡ true = sym unknown ∙ known in cc

-- a test of identifiers
abbrev pub is_of : List ℕ → InboxEntry → Bool
is_of id entry = bytes_eq entry.header.id id

-- one or none
abbrev one_if : Bool → ℕ
one_if b = cond b 1 0

count_step : (id : List ℕ) (e : InboxEntry) (es : List InboxEntry)
    → count_by (is_of id) (e ∷ es) ≡ one_if (is_of id e) + count_by (is_of id) es
count_step id e es = sum_by-cons (λ (entry : InboxEntry). one_if (is_of id entry)) e es

counted_no : (id : List ℕ) (e : InboxEntry) → (e.header.id ≡ id → ⊥) → (b : Bool) → is_of id e ≡ b → one_if b ≡ 0
counted_no id e other true same = absurd (other ((bytes_eq-Decides e.header.id id).0 same))
counted_no id e other false same = refl

-- an identifier that isn't in the inbox
pub count_none : (id : List ℕ) (inbox : List InboxEntry) → (Has (ids inbox) id → ⊥) → count_by (is_of id) inbox ≡ 0
count_none id [] none = refl
count_none id (e ∷ es) none =
    let head : one_if (is_of id e) ≡ 0 = counted_no id e (λ same. none (inl same)) (is_of id e) refl in
    let rest : count_by (is_of id) es ≡ 0 = count_none id es (λ h. none (inr h)) in
    omega (arith, count_step id e es)

-- with distinct identifiers, each one is there once
pub count_one : (id : List ℕ) (inbox : List InboxEntry) → Apart (ids inbox) → Has (ids inbox) id → count_by (is_of id) inbox ≡ 1
count_one id [] apart h = absurd h
count_one id (e ∷ es) apart (inl same) =
    let head : one_if (is_of id e) ≡ 1 = ap one_if ((bytes_eq-Decides e.header.id id).1 same) in
    let rest : count_by (is_of id) es ≡ 0 = count_none id es (λ h. apart.0 (subst (Has (ids es)) (sym same) h)) in
    omega (arith, count_step id e es)
count_one id (e ∷ es) apart (inr h) =
    let head : one_if (is_of id e) ≡ 0 = counted_no id e (λ same. apart.0 (subst (Has (ids es)) (sym same) h)) (is_of id e) refl in
    let rest : count_by (is_of id) es ≡ 1 = count_one id es apart.1 h in
    omega (arith, count_step id e es)

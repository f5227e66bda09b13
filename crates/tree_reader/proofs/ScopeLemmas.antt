-- Declarations and attributes, in sequence, and the nearest declaration.
use Rattle.std.proofs.Common.{◌≡◌, ℕ, ◌+◌, ◌<◌, List, [], ◌∷◌, ◌++◌, map, Option, Some, None, length, get_or, take, drop, refl, ap, ◌∙◌, inl, inr}
use Rattle.std.proofs.lemmas.List.{take_more, drop_more, reverse-append}
use Rattle.std.specs.Str.{bytes_eq}
use Rattle.byte_forms.specs.Cuts.{◌>>=◌}
use Rattle.tree_reader.specs.Steps.{with_front, gathered}
use Rattle.tree_reader.specs.Scopes.{Binding, Begun, found, scope_of}
use Rattle.tree_reader.specs.declared.scope.Open.{Open}
use Rattle.tree_reader.specs.Views.{begun_of, stack_of}
use Rattle.tree_reader.proofs.TextLemmas.{front_front, told}

first_added : {Y : Type 0} (o : Option (List Y)) (others : Option (List Y)) (old new : List Y) → with_front old o ≡ Some new
    → with_front old (o >>= λ ys. with_front ys others) ≡ with_front new others
first_added None others old new is = absurd cc
first_added (Some ys) others old new is =
    let new_is : old ++ ys ≡ new = cc in
    rw (← new_is) (front_front old ys others)

-- the values of one more item are appended
pub gathered_more : {W X Y : Type 0} (f : X → Option (List Y)) (g : W → X) (xs : List W) (i : ℕ) (x : W) (old new : List Y) (all : Option (List Y)) → i < length xs
    → with_front old (f (g (get_or xs i x))) ≡ Some new → all ≡ with_front old (gathered f (map g (drop i xs))) → all ≡ with_front new (gathered f (map g (drop (i + 1) xs)))
gathered_more f g xs i x old new all within added so_far =
    so_far ∙ (ap (λ (l : List _). with_front old (gathered f (map g l))) (drop_more xs i x within)
    ∙ first_added (f (g (get_or xs i x))) (gathered f (map g (drop (i + 1) xs))) old new added)

-- the innermost element is the last
pub stack_push : (os : List Open) (o : Open) → stack_of (os ++ o ∷ []) ≡ begun_of o ∷ stack_of os
stack_push os o = rw (reverse-append os (o ∷ [])) refl

abbrev pub or_else : {A : Type 0} → Option A → Option A → Option A
or_else None b = b
or_else (Some x) b = Some x

-- bindings of the first declarations take precedence
pub found-append : (xs ys : List Binding) (prefix : List ℕ) → found (xs ++ ys) prefix ≡ or_else (found xs prefix) (found ys prefix)
found-append [] ys prefix = refl
found-append (b ∷ xs) ys prefix =
    elim (told (bytes_eq b.prefix prefix)) as (λ _. found ((b ∷ xs) ++ ys) prefix ≡ or_else (found (b ∷ xs) prefix) (found ys prefix)) [
      | inl same ↦ rw same refl
      | inr other ↦ rw other (found-append xs ys prefix)
    ]

-- the declarations of the element at this index take precedence over those around it
pub found_at : (around : List Open) (at : ℕ) (o : Open) (prefix : List ℕ) → at < length around
    → found (scope_of (stack_of (take (at + 1) around))) prefix ≡ or_else (found (get_or around at o).declared prefix) (found (scope_of (stack_of (take at around))) prefix)
found_at around at o prefix within =
    ap (λ (os : List Open). found (scope_of (stack_of os)) prefix) (take_more around at o within)
    ∙ (ap (λ (os : List Begun). found (scope_of os) prefix) (stack_push (take at around) (get_or around at o))
    ∙ found-append (get_or around at o).declared (scope_of (stack_of (take at around))) prefix)

pub ruleset found_either = (found-append)

-- The meaning of pieces, in sequence.
use Rattle.std.proofs.Common.{◌≡◌, ◌⊎◌, inl, inr, ℕ, zero, suc, ◌+◌, ◌<◌, Bool, true, false, List, [], ◌∷◌, ◌++◌, Option, Some, None, length, get_or, take, drop, refl, sym, ap, ◌∙◌, append_assoc, arith, add-one, length-drop, Result, Ok, Err}
use Rattle.std.proofs.lemmas.List.{drop-drop}
use Rattle.std.specs.Borrow.{Bor}
use Rattle.std.proofs.Math.Numerals.{one-add}
use Rattle.std.specs.List.{prefix_len}
use Rattle.byte_forms.specs.Cuts.{◌>>=◌}
use Rattle.tree_reader.specs.Steps.{with_front}
use Rattle.tree_reader.specs.Decoded.{Piece, is_plain, reference_at, piece_at, meant_behind}
use Rattle.tree_reader.specs.declared.stop.Stop.{Stop}
use Rattle.tree_reader.specs.declared.stop.Stop.TheVariants as stops
use Rattle.tree_reader.specs.Views.{Misses, AddsPiece, GoesOn}

pub front_front : {A : Type 0} (xs ys : List A) (o : Option (List A)) → with_front xs (with_front ys o) ≡ with_front (xs ++ ys) o
front_front xs ys None = refl
front_front xs ys (Some zs) = ap (λ (l : List _). Some l) (sym (append_assoc xs ys zs))

pub no_front : {A : Type 0} (o : Option (List A)) → with_front [] o ≡ o
no_front None = refl
no_front (Some xs) = refl

pub told : (b : Bool) → (b ≡ true) ⊎ (b ≡ false)
told true = inl refl
told false = inr refl

-- the bytes that belong to an earlier piece are skipped
pub behind_drop : (in_value : Bool) (n : ℕ) (bytes : List ℕ) → meant_behind in_value n bytes ≡ meant_behind in_value 0 (drop n bytes)
behind_drop v zero bytes = refl
behind_drop v (suc n) [] = refl
behind_drop v (suc n) (b ∷ bytes) = behind_drop v n bytes

-- the first piece, and the bytes after it
pub piece_goes : (in_value : Bool) (bytes : List ℕ) (p : Piece) → 0 < length bytes → piece_at in_value (get_or bytes 0 0) (drop 1 bytes) ≡ Some p
    → meant_behind in_value 0 bytes ≡ with_front p.meant (meant_behind in_value 0 (drop (p.more + 1) bytes))
piece_goes v [] p some is = absurd (omega arith)
piece_goes v (b ∷ bytes) p some is =
    ap (λ (o : Option Piece). o >>= λ q. with_front q.meant (meant_behind v q.more bytes)) is
    ∙ ap (with_front p.meant) (behind_drop v p.more bytes ∙ rw (add-one p.more) refl)

pub piece_fails : (in_value : Bool) (bytes : List ℕ) → 0 < length bytes → piece_at in_value (get_or bytes 0 0) (drop 1 bytes) ≡ None → meant_behind in_value 0 bytes ≡ None
piece_fails v [] some is = absurd (omega arith)
piece_fails v (b ∷ bytes) some is = ap (λ (o : Option Piece). o >>= λ q. with_front q.meant (meant_behind v q.more bytes)) is

plain_piece : (in_value : Bool) (b : ℕ) (bytes : List ℕ) → is_plain in_value b ≡ true → piece_at in_value b bytes ≡ Some (record { meant = b ∷ []; more = 0 })
unfolding piece_at
plain_piece v b bytes is = rw is refl

-- bytes that mean themselves
pub plain_goes : (in_value : Bool) (bytes : List ℕ) → meant_behind in_value 0 bytes
    ≡ with_front (take (prefix_len (is_plain in_value) bytes) bytes) (meant_behind in_value 0 (drop (prefix_len (is_plain in_value) bytes) bytes))
plain_goes v [] = refl
plain_goes v (b ∷ bytes) =
    elim (told (is_plain v b)) as (λ _. meant_behind v 0 (b ∷ bytes)
    ≡ with_front (take (prefix_len (is_plain v) (b ∷ bytes)) (b ∷ bytes)) (meant_behind v 0 (drop (prefix_len (is_plain v) (b ∷ bytes)) (b ∷ bytes)))) [
      | inl plain ↦
          let n : ℕ = prefix_len (is_plain v) bytes in
          let here : prefix_len (is_plain v) (b ∷ bytes) ≡ suc n = rw plain (one-add n) in
          rw here (
          ap (λ (o : Option Piece). o >>= λ q. with_front q.meant (meant_behind v q.more bytes)) (plain_piece v b bytes plain)
          ∙ (ap (with_front (b ∷ [])) (plain_goes v bytes) ∙ front_front (b ∷ []) (take n bytes) (meant_behind v 0 (drop n bytes))))
      | inr special ↦
          let here : prefix_len (is_plain v) (b ∷ bytes) ≡ 0 = rw special refl in
          rw here (sym (no_front (meant_behind v 0 (b ∷ bytes))))
    ]

pub plain_added : (in_value : Bool) (old bytes : List ℕ) (n : ℕ) → n ≡ prefix_len (is_plain in_value) bytes → with_front old (meant_behind in_value 0 bytes)
    ≡ with_front (old ++ take n bytes) (meant_behind in_value 0 (drop n bytes))
plain_added v old bytes n is =
    rw is (ap (with_front old) (plain_goes v bytes) ∙ front_front old (take (prefix_len (is_plain v) bytes) bytes) (meant_behind v 0 (drop (prefix_len (is_plain v) bytes) bytes)))

pub reference_piece : (in_value : Bool) (b : ℕ) (bytes : List ℕ) → b ≡ 38 → piece_at in_value b bytes ≡ reference_at bytes
unfolding piece_at
reference_piece v b bytes is = rw is refl

swapped : (n : ℕ) → 1 + n ≡ n + 1
swapped n = omega arith

missed : (stop : Stop) (a b : Option Piece) (d : Option (List ℕ)) → a ≡ b → (a ≡ None → d ≡ None) → Misses stop b → Misses stop d
missed stops.Memory a b d same fails misses = tt
missed stops.Markup a b d same fails misses = fails (same ∙ misses)
missed stops.TooDeep a b d same fails misses = absurd misses

-- a reference is added
pub reference_goes : (r : Result (Bor (List ℕ)) Stop) (in_value : Bool) (old new bytes behind : List ℕ) → get_or bytes 0 0 ≡ 38 → 0 < length bytes → behind ≡ drop 1 bytes
    → AddsPiece r (reference_at behind) behind old new → GoesOn r in_value bytes old new
reference_goes (Ok rest) v old new bytes behind is some split adds =
    let p : Piece = adds.0 in
    let piece : piece_at v (get_or bytes 0 0) (drop 1 bytes) ≡ Some p = reference_piece v (get_or bytes 0 0) (drop 1 bytes) is ∙ (ap reference_at (sym split) ∙ adds.1) in
    let left : rest.now ≡ drop (p.more + 1) bytes = adds.3 ∙ (ap (drop p.more) split ∙ (drop-drop p.more 1 bytes ∙ ap (λ n. drop n bytes) (swapped p.more))) in (
      rw (left, adds.2) (ap (with_front old) (piece_goes v bytes p some piece) ∙ front_front old p.meant (meant_behind v 0 (drop (p.more + 1) bytes))),
      omega (arith, adds.4, ap length split, length-drop 1 bytes),
    )
reference_goes (Err stop) v old new bytes behind is some split misses =
    missed stop (piece_at v (get_or bytes 0 0) (drop 1 bytes)) (reference_at behind) (meant_behind v 0 bytes)
    (reference_piece v (get_or bytes 0 0) (drop 1 bytes) is ∙ ap reference_at (sym split)) (piece_fails v bytes some) misses

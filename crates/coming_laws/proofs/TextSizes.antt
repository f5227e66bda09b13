-- A text or a value means at most four bytes for each byte that it is written in.
use Rattle.std.proofs.Common.{◌≡◌, ℕ, zero, suc, ◌*◌, ◌≤◌, Bool, List, [], ◌∷◌, ◌++◌, Option, Some, None, length, length-append, take, arith, refl, ap}
use Rattle.std.specs.Prelude.{◌==◌, position, encode_utf8}
use Rattle.std.proofs.lemmas.Option.{same_Some}
use Rattle.std.proofs.lemmas.Str.{length-encode, len_utf8_bounds}
use Rattle.as4_values.specs.Texts.{is_xml}
use Rattle.byte_forms.proofs.CutLemmas.{bind_some}
use Rattle.tree_reader.specs.Decoded.{Piece, is_semicolon, is_plain, referred, reference_at, piece_at, meant_behind, pieces_meant, characters_meant}
use Rattle.tree_reader.specs.Steps.{with_front}
use Rattle.coming_laws.proofs.ChoiceLemmas.{either, only_first}

-- a character has at most four bytes
character_size : (c : ℕ) → length (encode_utf8 c) ≤ 4
character_size c = omega (arith, length-encode c, (len_utf8_bounds c).1)

-- a reference means one character
reference_size : (bytes : List ℕ) (p : Piece) → reference_at bytes ≡ Some p → length p.meant ≤ 4
unfolding reference_at
reference_size bytes p e =
    bind_some (position is_semicolon bytes) _ p e λ at here rest.
    bind_some (referred (take at bytes)) _ p rest λ c named is.
    omega (arith, character_size c, ap (λ (q : Piece). length q.meant) (same_Some _ p is))

-- and so does each piece
piece_size : (in_value : Bool) (b : ℕ) (bytes : List ℕ) (p : Piece) → piece_at in_value b bytes ≡ Some p → length p.meant ≤ 4
unfolding piece_at
piece_size in_value b bytes p e =
    either (is_plain in_value b) _ _ (Some p) e (λ plain. omega (arith, ap (λ (q : Piece). length q.meant) (same_Some _ p plain)))
    (λ other. either (b == 38) _ _ (Some p) other (reference_size bytes p) (λ end. omega (arith, ap (λ (q : Piece). length q.meant) (same_Some _ p end))))

-- what follows a prefix has a value
pub after_front : {A : Type 0} (front : List A) (o : Option (List A)) (all : List A) → with_front front o ≡ Some all → (others : List A) × (o ≡ Some others) × (front ++ others ≡ all)
after_front front None all e = absurd cc
after_front front (Some others) all e = (others, refl, same_Some (front ++ others) all e)

meant_size : (in_value : Bool) (more : ℕ) (bytes meant : List ℕ) → meant_behind in_value more bytes ≡ Some meant → length meant ≤ 4 * length bytes
meant_size in_value zero [] meant e = omega (arith, ap (λ (l : List ℕ). length l) (same_Some [] meant e))
meant_size in_value (suc more) [] meant e = omega (arith, ap (λ (l : List ℕ). length l) (same_Some [] meant e))
meant_size in_value zero (b ∷ bytes) meant e =
    bind_some (piece_at in_value b bytes) _ meant e λ p here rest.
    let others = after_front p.meant (meant_behind in_value p.more bytes) meant rest in
    omega (arith, piece_size in_value b bytes p here, meant_size in_value p.more bytes others.0 others.1, ap (λ (l : List ℕ). length l) others.2, length-append p.meant others.0)
meant_size in_value (suc more) (b ∷ bytes) meant e = omega (arith, meant_size in_value more bytes meant e)

pub characters_size : (in_value : Bool) (bytes meant : List ℕ) → characters_meant in_value bytes ≡ Some meant → length meant ≤ 4 * length bytes
unfolding characters_meant pieces_meant
characters_size in_value bytes meant e = meant_size in_value 0 bytes meant (only_first (is_xml bytes) _ meant e)

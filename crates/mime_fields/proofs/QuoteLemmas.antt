-- Quoted strings, up to the closing quote.
use Rattle.std.proofs.Common.{eq-eqb, ◌≡◌, ℕ, suc, ◌+◌, ◌<◌, ◌≤◌, true, false, ltb, List, [], ◌∷◌, ◌++◌, length, get_or, take, drop, Option, Some, None, option_map, refl, sym, ap, ◌∙◌, arith, inl, inr, ◌⊎◌, ◌==◌, append_assoc, append-nil}
use Rattle.std.proofs.lemmas.Bool.{cases_Bool, ltb-true, ltb-false}
use Rattle.std.proofs.lemmas.List.{drop_more, drop_all}
use Rattle.mime_fields.specs.MediaTypes.{quoted_at}
use Rattle.mime_fields.specs.Lent.{unescaped}
use Rattle.mime_fields.specs.Loops.{quoted_len, meant_at}

-- one more byte
take_next : (n b : ℕ) (bytes : List ℕ) → take (n + 1) (b ∷ bytes) ≡ b ∷ take n bytes
take_next n b bytes = let next : n + 1 ≡ suc n = omega arith in rw next refl

drop_next : (n b : ℕ) (bytes : List ℕ) → drop (n + 1) (b ∷ bytes) ≡ drop n bytes
drop_next n b bytes = let next : n + 1 ≡ suc n = omega arith in rw next refl

-- two more bytes
take_two : (n b c : ℕ) (bytes : List ℕ) → take (n + 2) (b ∷ c ∷ bytes) ≡ b ∷ c ∷ take n bytes
take_two n b c bytes = let next : n + 2 ≡ suc (suc n) = omega arith in rw next refl

drop_two : (n b c : ℕ) (bytes : List ℕ) → drop (n + 2 + 1) (b ∷ c ∷ bytes) ≡ drop (n + 1) bytes
drop_two n b c bytes = let next : n + 2 + 1 ≡ suc (suc (n + 1)) = omega arith in rw next refl

-- ---- the meaning of a quoted string

unescaped_plain : (b : ℕ) (bytes : List ℕ) → (b == 92) ≡ false → unescaped (b ∷ bytes) ≡ b ∷ unescaped bytes
unfolding unescaped
unescaped_plain b [] other = refl
unescaped_plain b (c ∷ bytes) other = rw other refl

unescaped_escaped : (b c : ℕ) (bytes : List ℕ) → (b == 92) ≡ true → unescaped (b ∷ c ∷ bytes) ≡ c ∷ unescaped bytes
unfolding unescaped
unescaped_escaped b c bytes slash = rw slash refl

unescaped_last : (b : ℕ) → unescaped (b ∷ []) ≡ b ∷ unescaped []
unfolding unescaped
unescaped_last b = refl

-- ---- its closing quote

ends_plain : (b : ℕ) (bytes : List ℕ) → (b == 34) ≡ false → (b == 92) ≡ false → quoted_len (b ∷ bytes) ≡ option_map (λ n. n + 1) (quoted_len bytes)
unfolding quoted_len
ends_plain b [] no_quote no_slash = rw no_quote refl
ends_plain b (c ∷ bytes) no_quote no_slash = rw (no_quote, no_slash) refl

ends_escaped : (b c : ℕ) (bytes : List ℕ) → (b == 34) ≡ false → (b == 92) ≡ true → quoted_len (b ∷ c ∷ bytes) ≡ option_map (λ n. n + 2) (quoted_len bytes)
unfolding quoted_len
ends_escaped b c bytes no_quote slash = rw (no_quote, slash) refl

ends_here : (b : ℕ) (bytes : List ℕ) → (b == 34) ≡ true → quoted_len (b ∷ bytes) ≡ Some 0
unfolding quoted_len
ends_here b [] quote = rw quote refl
ends_here b (c ∷ bytes) quote = rw quote refl

no_end : quoted_len [] ≡ None
unfolding quoted_len
no_end = refl

no_end_last : (b : ℕ) → (b == 34) ≡ false → quoted_len (b ∷ []) ≡ None
unfolding quoted_len
no_end_last b other = rw other refl

-- the meaning and the rest, by the index of the quote
abbrev cut_at : List ℕ → ℕ → List ℕ × List ℕ
cut_at bytes n = (unescaped (take n bytes), drop (n + 1) bytes)

cut_plain : (b : ℕ) (bytes : List ℕ) (cut : Option (List ℕ × List ℕ)) (o : Option ℕ) → (b == 92) ≡ false → cut ≡ option_map (cut_at bytes) o → option_map (λ more. (b ∷ more.0, more.1)) cut ≡ option_map (cut_at (b ∷ bytes)) (option_map (λ n. n + 1) o)
cut_plain b bytes cut None other is = rw is refl
cut_plain b bytes cut (Some n) other is = rw (is, take_next n b bytes, drop_next (n + 1) b bytes, unescaped_plain b (take n bytes) other) refl

cut_escaped : (b c : ℕ) (bytes : List ℕ) (cut : Option (List ℕ × List ℕ)) (o : Option ℕ) → (b == 92) ≡ true → cut ≡ option_map (cut_at bytes) o → option_map (λ more. (c ∷ more.0, more.1)) cut ≡ option_map (cut_at (b ∷ c ∷ bytes)) (option_map (λ n. n + 2) o)
cut_escaped b c bytes cut None slash is = rw is refl
cut_escaped b c bytes cut (Some n) slash is = rw (is, take_two n b c bytes, drop_two n b c bytes, unescaped_escaped b c (take n bytes) slash) refl

nothing_before : (b : ℕ) (bytes : List ℕ) → cut_at (b ∷ bytes) 0 ≡ ([], bytes)
unfolding unescaped
nothing_before b bytes = refl

-- a quoted string, by the index of its closing quote
pub by_len : (bytes : List ℕ) → quoted_at bytes ≡ option_map (λ n. (unescaped (take n bytes), drop (n + 1) bytes)) (quoted_len bytes)
unfolding quoted_at
by_len [] = rw no_end refl
by_len (b ∷ []) = elim (cases_Bool (b == 34)) [
  | inl quote ↦ rw (quote, ends_here b [] quote) (ap Some (sym (nothing_before b [])))
  | inr other ↦ rw (other, no_end_last b other) refl
]
by_len (b ∷ c ∷ bytes) = elim (cases_Bool (b == 34)) [
  | inl quote ↦ rw (quote, ends_here b (c ∷ bytes) quote) (ap Some (sym (nothing_before b (c ∷ bytes))))
  | inr no_quote ↦ elim (cases_Bool (b == 92)) [
    | inl slash ↦ rw (no_quote, slash, ends_escaped b c bytes no_quote slash) (cut_escaped b c bytes (quoted_at bytes) (quoted_len bytes) slash (by_len bytes))
    | inr no_slash ↦ rw (no_quote, no_slash, ends_plain b (c ∷ bytes) no_quote no_slash) (cut_plain b (c ∷ bytes) (quoted_at (c ∷ bytes)) (quoted_len (c ∷ bytes)) no_slash (by_len (c ∷ bytes)))
  ]
]

-- ---- as loops pass over it

-- how the byte at a place of the meaning is spelled
abbrev Stands : List ℕ → ℕ → Type 0
Stands bytes at =
    ((get_or bytes at 0 == 92) ≡ true) × (at + 1 < length bytes) × (meant_at bytes at ≡ at + 1)
    ⊎ ((get_or bytes at 0 == 92) ≡ true) × (length bytes ≤ at + 1) × (meant_at bytes at ≡ at)
    ⊎ ((get_or bytes at 0 == 92) ≡ false) × (meant_at bytes at ≡ at)

stands : (bytes : List ℕ) (at : ℕ) → Stands bytes at
stands bytes at = elim (cases_Bool (get_or bytes at 0 == 92)) [
  | inl slash ↦ elim (cases_Bool (ltb (at + 1) (length bytes))) [
    | inl more ↦ inl (slash, ltb-true (at + 1) (length bytes) more, rw (slash, more) refl)
    | inr last ↦ inr (inl (slash, ltb-false (at + 1) (length bytes) last, rw (slash, last) refl))
  ]
  | inr other ↦ inr (inr (other, rw other refl))
]

-- the byte at this index and those after it
here : (bytes : List ℕ) (at : ℕ) → at < length bytes → drop at bytes ≡ get_or bytes at 0 ∷ drop (at + 1) bytes
here bytes at short = drop_more bytes at 0 short

meant_here : (bytes : List ℕ) (at : ℕ) → at < length bytes → unescaped (drop at bytes) ≡ get_or bytes (meant_at bytes at) 0 ∷ unescaped (drop (meant_at bytes at + 1) bytes)
meant_here bytes at short = ap unescaped (here bytes at short) ∙ (elim (stands bytes at) [
  | inl s ↦ rw (s.2, here bytes (at + 1) s.1) (unescaped_escaped (get_or bytes at 0) (get_or bytes (at + 1) 0) (drop (at + 1 + 1) bytes) s.0)
  | inr (inl s) ↦ rw (s.2, drop_all (at + 1) bytes s.1) (unescaped_last (get_or bytes at 0))
  | inr (inr s) ↦ rw s.1 (unescaped_plain (get_or bytes at 0) (drop (at + 1) bytes) s.0)
])

-- the bytes so far precede those of the rest
abbrev pub MeantSoFar : List ℕ → List ℕ → ℕ → Type 0
MeantSoFar quoted front at = unescaped quoted ≡ front ++ unescaped (drop at quoted)

pub meant_more : (quoted front : List ℕ) (at : ℕ) → at < length quoted → MeantSoFar quoted front at → MeantSoFar quoted (front ++ get_or quoted (meant_at quoted at) 0 ∷ []) (meant_at quoted at + 1)
meant_more quoted front at short so_far =
    so_far ∙ ap (λ (r : List ℕ). front ++ r) (meant_here quoted at short) ∙ sym (append_assoc front (get_or quoted (meant_at quoted at) 0 ∷ []) (unescaped (drop (meant_at quoted at + 1) quoted)))

pub all_meant : (quoted front : List ℕ) (at : ℕ) → length quoted ≤ at → MeantSoFar quoted front at → front ≡ unescaped quoted
unfolding unescaped
all_meant quoted front at past so_far = sym (so_far ∙ ap (λ (r : List ℕ). front ++ unescaped r) (drop_all at quoted past) ∙ append-nil front)

add_up : (at k m : ℕ) (o : Option ℕ) → at + k ≡ m → option_map (λ n. n + at) (option_map (λ n. n + k) o) ≡ option_map (λ n. n + m) o
add_up at k m None e = refl
add_up at k m (Some n) e = let sum : n + k + at ≡ n + m = omega arith in rw sum refl

-- the closing quote of the rest is that of the whole
abbrev pub EndsBehind : List ℕ → ℕ → Type 0
EndsBehind bytes at = quoted_len bytes ≡ option_map (λ n. n + at) (quoted_len (drop at bytes))

pub ends_more : (bytes : List ℕ) (at : ℕ) → at < length bytes → (get_or bytes at 0 == 34) ≡ false → EndsBehind bytes at → EndsBehind bytes (meant_at bytes at + 1)
ends_more bytes at short no_quote so_far =
    so_far ∙ ap (λ (r : List ℕ). option_map (λ n. n + at) (quoted_len r)) (here bytes at short) ∙ (elim (stands bytes at) [
      | inl s ↦ rw (s.2, here bytes (at + 1) s.1, ends_escaped (get_or bytes at 0) (get_or bytes (at + 1) 0) (drop (at + 1 + 1) bytes) no_quote s.0) (add_up at 2 (at + 1 + 1) (quoted_len (drop (at + 1 + 1) bytes)) (omega arith))
      | inr (inl s) ↦ rw (s.2, drop_all (at + 1) bytes s.1, no_end, no_end_last (get_or bytes at 0) no_quote) refl
      | inr (inr s) ↦ rw (s.1, ends_plain (get_or bytes at 0) (drop (at + 1) bytes) no_quote s.0) (add_up at 1 (at + 1) (quoted_len (drop (at + 1) bytes)) refl)
    ])

pub ends_there : (bytes : List ℕ) (at : ℕ) → at < length bytes → get_or bytes at 0 ≡ 34 → EndsBehind bytes at → Some at ≡ quoted_len bytes
ends_there bytes at short is so_far =
    let quote : (get_or bytes at 0 == 34) ≡ true = eq-eqb (get_or bytes at 0) 34 is in
    let sum : 0 + at ≡ at = omega arith in
    sym (so_far ∙ ap (λ (r : List ℕ). option_map (λ n. n + at) (quoted_len r)) (here bytes at short) ∙ rw (ends_here (get_or bytes at 0) (drop (at + 1) bytes) quote, sum) refl)

pub ends_nowhere : (bytes : List ℕ) (at : ℕ) → length bytes ≤ at → EndsBehind bytes at → None ≡ quoted_len bytes
ends_nowhere bytes at past so_far =
    sym (so_far ∙ ap (λ (r : List ℕ). option_map (λ n. n + at) (quoted_len r)) (drop_all at bytes past) ∙ rw no_end refl)

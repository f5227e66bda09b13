-- What a write does behind a front, done and cut short.
use Rattle.std.proofs.Common.{◌≡◌, ℕ, ◌+◌, ◌<◌, min, List, [], ◌∷◌, ◌++◌, length, take, drop, refl, sym, ◌∙◌, ap, arith, length-append, take-append-drop}
use Rattle.std.proofs.lemmas.List.{take_at, drop_at, drop-drop}
use Rattle.as4_disk.specs.Bytes.{IsOverwritten, Torn}

module _ (front rest : List ℕ) where
  drop_behind : (n : ℕ) → drop (length front + n) (front ++ rest) ≡ drop n rest
  drop_behind n = sym (drop-drop n (length front) (front ++ rest)) ∙ ap (λ (l : List ℕ). drop n l) (drop_at front rest (length front) refl)

  -- a write behind a front leaves the front
  pub overwritten_behind : (bytes new : List ℕ) → IsOverwritten (length front) bytes (front ++ rest) new → new ≡ front ++ bytes ++ drop (length bytes) rest
  overwritten_behind bytes new is =
      is
      ∙ ap (λ (l : List ℕ). l ++ bytes ++ drop (length front + length bytes) (front ++ rest)) (take_at front rest (length front) refl)
      ∙ ap (λ (l : List ℕ). front ++ bytes ++ l) (drop_behind (length bytes))

  -- and so it does where a crash cuts it short, and what lies behind the range stays too
  pub torn_behind : (n : ℕ) (new : List ℕ) → Torn (length front) n (front ++ rest) new → (others : List ℕ) × (new ≡ front ++ others) × (drop n others ≡ drop n rest)
  torn_behind n new torn =
      let others = drop (length front) new in
      let is_min : min (length front) (length (front ++ rest)) ≡ length front = omega (arith, length-append front rest) in
      let is_front : take (length front) new ≡ front =
      ap (λ (k : ℕ). take k new) (sym is_min) ∙ torn.before ∙ take_at front rest (length front) refl in
      (others, sym (take-append-drop (length front) new) ∙ ap (λ (l : List ℕ). l ++ others) is_front, drop-drop n (length front) new ∙ torn.after ∙ drop_behind n)

-- a write of one byte changes this byte at most
pub torn_byte : (front : List ℕ) (byte : ℕ) (rest new : List ℕ) → Torn (length front) 1 (front ++ byte ∷ rest) new → (other : ℕ) × (new ≡ front ++ other ∷ rest)
torn_byte front byte rest new torn =
    let behind = torn_behind front (byte ∷ rest) 1 new torn in
    first_of behind.0 behind.1 behind.2 (omega (arith, torn.no_shorter, length-append front (byte ∷ rest), ap length behind.1, length-append front behind.0))
  where
    first_of : (others : List ℕ) → new ≡ front ++ others → drop 1 others ≡ rest → 0 < length others → (other : ℕ) × (new ≡ front ++ other ∷ rest)
    first_of [] is same long = absurd (omega arith)
    first_of (other ∷ others) is same long = (other, is ∙ ap (λ (l : List ℕ). front ++ other ∷ l) same)

-- That a write or a cut of which nothing or all came is one that a crash cut short.
use Rattle.std.proofs.Common.{◌≡◌, ℕ, ◌+◌, ◌-◌, ◌<◌, ◌≤◌, min, List, ◌++◌, ⊎_elim, length, take, drop, refl, sym, ◌∙◌, ap, arith, append_assoc, length-append, length-take, length-drop}
use Rattle.std.proofs.lemmas.List.{take_at, drop_at, take_min, drop_all, take_all}
use Rattle.std.proofs.lemmas.Bool.{cases_lt}
use Rattle.as4_disk.specs.Bytes.{overwritten, Torn, TornCut}

-- nothing of a write
pub torn_same : (at n : ℕ) (old : List ℕ) → Torn at n old old
torn_same at n old = record {
  before = take_min at old;
  after = refl;
  no_shorter = omega arith;
  no_longer = omega arith;
}

length-overwritten : (at : ℕ) (bytes old : List ℕ) → length (overwritten at bytes old) ≡ min at (length old) + length bytes + (length old - (at + length bytes))
length-overwritten at bytes old =
    omega (arith, length-append (take at old ++ bytes) (drop (at + length bytes) old), length-append (take at old) bytes, length-take at old, length-drop (at + length bytes) old)

length-front : (at : ℕ) (bytes old : List ℕ) → length (take at old ++ bytes) ≡ min at (length old) + length bytes
length-front at bytes old = omega (arith, length-append (take at old) bytes, length-take at old)

overwritten_front : (at : ℕ) (bytes old : List ℕ) → take (min at (length old)) (overwritten at bytes old) ≡ take at old
overwritten_front at bytes old =
    ap (λ (l : List ℕ). take (min at (length old)) l) (append_assoc (take at old) bytes (drop (at + length bytes) old))
    ∙ take_at (take at old) (bytes ++ drop (at + length bytes) old) (min at (length old)) (length-take at old)

overwritten_back : (at : ℕ) (bytes old : List ℕ) → drop (at + length bytes) (overwritten at bytes old) ≡ drop (at + length bytes) old
overwritten_back at bytes old =
    ⊎_elim
    (λ (short : length old < at).
    drop_all (at + length bytes) (overwritten at bytes old) (omega (arith, length-overwritten at bytes old))
    ∙ sym (drop_all (at + length bytes) old (omega arith)))
    (λ (fits : at ≤ length old). drop_at (take at old ++ bytes) (drop (at + length bytes) old) (at + length bytes) (omega (arith, length-front at bytes old)))
    (cases_lt (length old) at)

-- all of a write
pub torn_whole : (at : ℕ) (bytes old : List ℕ) → Torn at (length bytes) old (overwritten at bytes old)
torn_whole at bytes old = record {
  before = overwritten_front at bytes old;
  after = overwritten_back at bytes old;
  no_shorter = omega (arith, length-overwritten at bytes old);
  no_longer = omega (arith, length-overwritten at bytes old);
}

-- nothing of a cut
pub cut_same : (len : ℕ) (old : List ℕ) → TornCut len old old
cut_same len old = record { no_shorter = omega arith; front = take_all _ _ (omega arith) }

-- all of a cut
pub cut_whole : (len : ℕ) (old : List ℕ) → TornCut len old (take len old)
cut_whole len old = record {
  no_shorter = omega (arith, length-take len old);
  front = ap (λ (n : ℕ). take n old) (length-take len old) ∙ take_min len old;
}

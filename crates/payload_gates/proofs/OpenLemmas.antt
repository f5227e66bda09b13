-- What holds of each open entry and its place.
use Rattle.std.proofs.Common.{◌≡◌, ℕ, zero, suc, ◌+◌, ◌≤◌, List, [], ◌∷◌, ◌++◌, Some, length, subst, arith}
use Rattle.std.specs.Prelude.{slice_get}
use Rattle.exchange_model.specs.Apply.{emptied}
use Rattle.exchange_model.specs.declared.inbox_entry.InboxEntry.{InboxEntry}
use Rattle.inbox.specs.Spots.{Spot}
use Rattle.msh_state.specs.Places.{EachOpen}

-- what follows from it holds too
pub each_weaker : (P Q : Spot → InboxEntry → Type 0) → ((spot : Spot) (entry : InboxEntry) → P spot entry → Q spot entry)
    → (confirmed : ℕ) (spots : List Spot) (inbox : List InboxEntry) → EachOpen P confirmed spots inbox → EachOpen Q confirmed spots inbox
each_weaker P Q implies confirmed [] [] each = tt
each_weaker P Q implies confirmed [] (e ∷ es) each = absurd each
each_weaker P Q implies zero (s ∷ ss) [] each = absurd each
each_weaker P Q implies (suc n) (s ∷ ss) [] each = absurd each
each_weaker P Q implies zero (s ∷ ss) (e ∷ es) each = (implies s e each.0, each_weaker P Q implies zero ss es each.1)
each_weaker P Q implies (suc n) (s ∷ ss) (e ∷ es) each = each_weaker P Q implies n ss es each

-- there are as many places as entries
pub each_length : (P : Spot → InboxEntry → Type 0) (confirmed : ℕ) (spots : List Spot) (inbox : List InboxEntry)
    → EachOpen P confirmed spots inbox → length spots ≡ length inbox
each_length P confirmed [] [] each = omega arith
each_length P confirmed [] (e ∷ es) each = absurd each
each_length P zero (s ∷ ss) [] each = absurd each
each_length P (suc n) (s ∷ ss) [] each = absurd each
each_length P zero (s ∷ ss) (e ∷ es) each = let rest = each_length P zero ss es each.1 in omega (arith, rest)
each_length P (suc n) (s ∷ ss) (e ∷ es) each = let rest = each_length P n ss es each in omega (arith, rest)

module _ (P : Spot → InboxEntry → Type 0) where
  -- one more entry, at its place
  pub each_push : (confirmed : ℕ) (spots : List Spot) (inbox : List InboxEntry) (spot : Spot) (entry : InboxEntry)
      → P spot entry → EachOpen P confirmed spots inbox → EachOpen P confirmed (spots ++ spot ∷ []) (inbox ++ entry ∷ [])
  each_push zero [] [] spot entry here each = (here, tt)
  each_push (suc n) [] [] spot entry here each = tt
  each_push confirmed [] (e ∷ es) spot entry here each = absurd each
  each_push zero (s ∷ ss) [] spot entry here each = absurd each
  each_push (suc n) (s ∷ ss) [] spot entry here each = absurd each
  each_push zero (s ∷ ss) (e ∷ es) spot entry here each = (each.0, each_push zero ss es spot entry here each.1)
  each_push (suc n) (s ∷ ss) (e ∷ es) spot entry here each = each_push n ss es spot entry here each

  -- where all are confirmed, one more that is
  pub each_kept : (confirmed more : ℕ) (spots : List Spot) (inbox : List InboxEntry) (spot : Spot) (entry : InboxEntry)
      → confirmed ≡ length inbox → more ≡ confirmed + 1 → EachOpen P confirmed spots inbox
      → EachOpen P more (spots ++ spot ∷ []) (inbox ++ entry ∷ [])
  each_kept confirmed zero spots inbox spot entry all next each = absurd (omega (arith, next))
  each_kept confirmed (suc more) [] [] spot entry all next each = tt
  each_kept confirmed (suc more) [] (e ∷ es) spot entry all next each = absurd each
  each_kept zero (suc more) (s ∷ ss) [] spot entry all next each = absurd each
  each_kept (suc n) (suc more) (s ∷ ss) [] spot entry all next each = absurd each
  each_kept zero (suc more) (s ∷ ss) (e ∷ es) spot entry all next each = absurd (omega (arith, all))
  each_kept (suc n) (suc more) (s ∷ ss) (e ∷ es) spot entry all next each =
      each_kept n more ss es spot entry (omega (arith, all)) (omega (arith, next)) each

  -- more are confirmed, and have lost their payloads
  pub each_emptied : (confirmed count : ℕ) (spots : List Spot) (inbox : List InboxEntry) → confirmed ≤ count
      → EachOpen P confirmed spots inbox → EachOpen P count spots (emptied count inbox)
  unfolding emptied
  each_emptied confirmed zero [] [] more each = tt
  each_emptied confirmed (suc count) [] [] more each = tt
  each_emptied confirmed count [] (e ∷ es) more each = absurd each
  each_emptied zero count (s ∷ ss) [] more each = absurd each
  each_emptied (suc n) count (s ∷ ss) [] more each = absurd each
  each_emptied zero zero (s ∷ ss) (e ∷ es) more each = each
  each_emptied (suc n) zero (s ∷ ss) (e ∷ es) more each = absurd (omega (arith, more))
  each_emptied zero (suc count) (s ∷ ss) (e ∷ es) more each = each_emptied zero count ss es (omega arith) each.1
  each_emptied (suc n) (suc count) (s ∷ ss) (e ∷ es) more each = each_emptied n count ss es (omega (arith, more)) each

  -- it holds at the number of an open entry
  pub each_at : (confirmed n : ℕ) (spots : List Spot) (inbox : List InboxEntry) (spot : Spot) (entry : InboxEntry)
      → EachOpen P confirmed spots inbox → confirmed ≤ n → slice_get spots n ≡ Some spot → slice_get inbox n ≡ Some entry → P spot entry
  each_at confirmed n [] inbox spot entry each at place there = absurd cc
  each_at zero n (s ∷ ss) [] spot entry each at place there = absurd each
  each_at (suc c) n (s ∷ ss) [] spot entry each at place there = absurd each
  each_at zero zero (s ∷ ss) (e ∷ es) spot entry each at place there =
      let spots_same : s ≡ spot = cc in
      let entries_same : e ≡ entry = cc in
      let Q : Spot → Type 0 = λ p. P p entry in
      subst Q spots_same (subst (P s) entries_same each.0)
  each_at (suc c) zero (s ∷ ss) (e ∷ es) spot entry each at place there = absurd (omega (arith, at))
  each_at zero (suc n) (s ∷ ss) (e ∷ es) spot entry each at place there =
      each_at zero n ss es spot entry each.1 (omega arith) place there
  each_at (suc c) (suc n) (s ∷ ss) (e ∷ es) spot entry each at place there =
      each_at c n ss es spot entry each (omega (arith, at)) place there

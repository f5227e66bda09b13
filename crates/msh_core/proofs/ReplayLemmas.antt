-- Effects are replayed one after another, until one doesn't fit.
use Rattle.std.proofs.Common.{◌≡◌, ℕ, suc, ◌+◌, ◌≤◌, List, [], ◌∷◌, Bool, true, false, Option, Some, None, option_map, length, refl, ap, ◌∙◌, arith}
use Rattle.std.specs.Prelude.{if◌then◌else◌}
use Rattle.as4_effects.specs.declared.effect.Effect.{Effect}
use Rattle.exchange_model.specs.Apply.{after, after_all, applied, first_unfit, is_fit, record_len}
use Rattle.exchange_model.specs.End.{End}
use Rattle.fold_laws.specs.Reached.{AreReplayed, IsReached}
use Rattle.fold_laws.proofs.ReachedLemmas.{reached_applied, reached_resized}
use Rattle.msh_core.specs.Folding.{CanBeReplayed}
use Rattle.msh_core.proofs.RecordLemmas.{size_after}

-- these effects lead from an endpoint to the same endpoint as all do, and the first unfit one is `at` places earlier
pub record IsBehind (effects : List Effect) (start : End) (at : ℕ) (rest : List Effect) (end : End) : Type 0 where
  pub leads : after_all rest end ≡ after_all effects start
  pub place : first_unfit effects start ≡ option_map (λ n. at + n) (first_unfit rest end)
  pub counted : at + length rest ≡ length effects

moved_on : (at : ℕ) (found : Option ℕ) → option_map (λ n. at + n) (option_map suc found) ≡ option_map (λ n. (at + 1) + n) found
moved_on at None = refl
moved_on at (Some n) = ap Some (let e : at + suc n ≡ (at + 1) + n = omega arith in e)

chosen : (b : Bool) (x : Option ℕ) → b ≡ true → (if b then option_map suc x else Some 0) ≡ option_map suc x
chosen true x e = refl
chosen false x e = absurd cc

-- after an effect that fits, an endpoint stays reached, whatever its journal's size
pub reached_after : (e : Effect) (end : End) → is_fit e end ≡ true → IsReached end → IsReached (after e end)
unfolding applied
reached_after e end fits reached =
    reached_resized (applied (e ∷ []) end) (after e end).size
    (reached_applied end (e ∷ []) reached (chosen (is_fit e end) None fits))

-- one more is applied
pub one_made : (effects : List Effect) (start : End) (at : ℕ) (e : Effect) (rest : List Effect) (end : End)
    → IsBehind effects start at (e ∷ rest) end → is_fit e end ≡ true → IsBehind effects start (at + 1) rest (after e end)
one_made effects start at e rest end behind fits = record {
  leads = behind.leads;
  place = behind.place ∙ ap (option_map (λ n. at + n)) (chosen (is_fit e end) (first_unfit rest (after e end)) fits)
      ∙ moved_on at (first_unfit rest (after e end));
  counted = let all : at + length (e ∷ rest) ≡ length effects = behind.counted in omega arith;
}

-- a journal grows by the record of one effect, and so by those of all
one_size : (e : Effect) (end : End) → (applied (e ∷ []) end).size ≡ end.size + record_len (e ∷ [])
unfolding applied
one_size e end = ap (λ n. n + record_len (e ∷ [])) (size_after e end)

replayed_grows : (effects : List Effect) (start end : End) → AreReplayed effects start end → start.size ≤ end.size
replayed_grows [] start end way = let same : start.size ≡ end.size = ap (λ (e : End). e.size) way in omega (arith, same)
replayed_grows (e ∷ effects) start end way =
    let one : (applied (e ∷ []) start).size ≡ start.size + record_len (e ∷ []) = one_size e start in
    let rest : (applied (e ∷ []) start).size ≤ end.size = replayed_grows effects (applied (e ∷ []) start) end way.1 in omega (arith, one, rest)

-- where the journal has room for all records, it has room for each on the way
pub can_be_replayed : (effects : List Effect) (start end : End) → AreReplayed effects start end → end.size ≤ 4294967296 → CanBeReplayed effects start end
can_be_replayed [] start end way room = way
can_be_replayed (e ∷ effects) start end way room =
    let one : (applied (e ∷ []) start).size ≡ start.size + record_len (e ∷ []) = one_size e start in
    let rest : (applied (e ∷ []) start).size ≤ end.size = replayed_grows effects (applied (e ∷ []) start) end way.1 in (
      chosen (is_fit e start) None way.0,
      omega (arith, one, rest, room),
      can_be_replayed effects (applied (e ∷ []) start) end way.1 room,
    )

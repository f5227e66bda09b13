-- The journal grows by the record of the effects; without effects there is no record.
use Rattle.std.proofs.Common.{◌≡◌, ℕ, ◌+◌, ◌≤◌, List, [], ◌∷◌, Bool, true, false, ◌==◌, length, refl, ap, ◌∙◌, arith}
use Rattle.std.specs.Prelude.{◌||◌}
use Rattle.std.proofs.lemmas.Bool.{eqb-true, leb-true, ne_eqb}
use Rattle.as4_effects.specs.declared.effect.Effect.{Effect}
use Rattle.as4_effects.specs.declared.effect.Effect.TheVariants as effect
use Rattle.exchange_model.specs.Apply.{after, after_all, applied, record_len}
use Rattle.exchange_model.specs.End.{End}
use Rattle.exchange_model.specs.Table.{has_room}
use Rattle.inbox.specs.Spots.{Spot}
use Rattle.msh_state.specs.Places.{places_after_all}

-- an effect doesn't change the journal's size
pub size_after : (e : Effect) (end : End) → (after e end).size ≡ end.size
unfolding after
size_after (effect.Submitted submission) end = refl
size_after (effect.Ticked tick) end = refl
size_after (effect.Tried number) end = refl
size_after (effect.Delivered delivery) end = refl
size_after (effect.Receipted number) end = refl
size_after (effect.Refused number code) end = refl
size_after (effect.Confirmed upto) end = refl
size_after (effect.Carried carried) end = refl
size_after (effect.Kept kept) end = refl

pub size_kept : (effects : List Effect) (end : End) → (after_all effects end).size ≡ end.size
size_kept [] end = refl
size_kept (e ∷ effects) end = size_kept effects (after e end) ∙ size_after e end

right_of : (a b : Bool) → a ≡ false → (a || b) ≡ true → b ≡ true
right_of false b e h = h
right_of true b e h = absurd cc

-- where there is room for the record, the journal can grow
pub room_to_grow : (effects : List Effect) (end later : End) → (length effects == 0) ≡ false → has_room end effects ≡ true
    → later ≡ after_all effects end → later.size + record_len effects ≤ 4294967296
unfolding has_room
room_to_grow effects end later some room same =
    let kept : later.size ≡ end.size = ap (λ (x : End). x.size) same ∙ size_kept effects end in
    let fits : end.size + record_len effects ≤ 4294967296 = leb-true _ _ (right_of (length effects == 0) _ some room) in omega arith

-- and then it is the endpoint after the record
pub grown : (effects : List Effect) (end later new : End) → (length effects == 0) ≡ false → later ≡ after_all effects end
    → new ≡ record later { size = later.size + record_len effects } → new ≡ applied effects end
unfolding applied
grown [] end later new some same grows = absurd cc
grown (e ∷ effects) end later new some same grows =
    grows ∙ ap (λ (x : End). record x { size = x.size + record_len (e ∷ effects) }) same

-- without effects there is no record
pub rests : (effects : List Effect) (end : End) → (length effects == 0) ≡ true → end ≡ applied effects end
unfolding applied
rests [] end none = refl
rests (e ∷ effects) end none =
    let zero : length (e ∷ effects) ≡ 0 = eqb-true (length (e ∷ effects)) 0 none in absurd (omega arith)

-- and nothing comes
pub rests_places : (effects : List Effect) (gate : ℕ) (places : List Spot) → (length effects == 0) ≡ true → places ≡ places_after_all effects gate places
unfolding places_after_all
rests_places [] gate places none = refl
rests_places (e ∷ effects) gate places none =
    let zero : length (e ∷ effects) ≡ 0 = eqb-true (length (e ∷ effects)) 0 none in absurd (omega arith)

-- there are effects
pub are_some : (effects : List Effect) → 1 ≤ length effects → (length effects == 0) ≡ false
are_some effects some = ne_eqb (length effects) 0 (λ none. omega arith)

-- the journal has room for their record
pub room_for_record : (effects : List Effect) (end later : End) → end.size + record_len effects ≤ 4294967296
    → later ≡ after_all effects end → later.size + record_len effects ≤ 4294967296
room_for_record effects end later fits same =
    let kept : later.size ≡ end.size = ap (λ (x : End). x.size) same ∙ size_kept effects end in omega (arith, fits)

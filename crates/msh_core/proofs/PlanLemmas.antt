-- A plan is carried out effect by effect.
use Rattle.std.proofs.Common.{◌≡◌, ℕ, zero, suc, ◌+◌, ◌-◌, ◌<◌, List, [], ◌∷◌, Bool, true, false, Option, Some, None, option_map, length, map, drop, get_or, refl, sym, subst, ◌∙◌, arith}
use Rattle.std.proofs.Math.Seq.{drop-cons}
use Rattle.std.specs.Prelude.{if◌then◌else◌}
use Rattle.as4_effects.specs.declared.effect.Effect.{Effect}
use Rattle.as4_effects.specs.declared.effect.Effect.TheVariants as effect
use Rattle.as4_effects.specs.declared.queue.Queue.{Queue}
use Rattle.msh_state.specs.Rooms.{Rooms, HasRoom, IsThere, TakesNoRoom, queue_for}
use Rattle.msh_state.specs.Standing.{TakeOneRoom}
use Rattle.msh_state.proofs.KeptLemmas.{fit_there, kept_queue, room_stays, there_before}
use Rattle.exchange_model.specs.Apply.{after, first_unfit, is_fit}
use Rattle.exchange_model.specs.End.{End}
use Rattle.exchange_model.specs.declared.sent.Sent.{Sent}
use Rattle.msh_core.specs.Machine.{HaveRoom}

-- the rest of a plan can be carried out
pub record CanGo (end : End) (rooms : Rooms) (rest : List Effect) (queues : List Queue) : Type 0 where
  pub fit : first_unfit rest end ≡ None
  pub placed : queues ≡ map (queue_for end.sent) rest
  pub room : HaveRoom rooms end.sent rest
  pub one_room : TakeOneRoom rest

-- where none is unfit, the first fits, and none of the others is unfit after it
first_of : (b : Bool) (x : Option ℕ) → (if b then option_map suc x else Some 0) ≡ None → (b ≡ true) × (x ≡ None)
first_of true None e = (refl, refl)
first_of true (Some n) e = absurd cc
first_of false x e = absurd cc

pub first_fits : (e : Effect) (rest : List Effect) (end : End) → first_unfit (e ∷ rest) end ≡ None
    → (is_fit e end ≡ true) × (first_unfit rest (after e end) ≡ None)
first_fits e rest end h = first_of (is_fit e end) (first_unfit rest (after e end)) h

-- effects that take no room keep the queues of others
kept_queues : (e : Effect) (rest : List Effect) (end : End) → TakesNoRoom e
    → map (queue_for (after e end).sent) rest ≡ map (queue_for end.sent) rest
kept_queues e [] end h = refl
kept_queues e (f ∷ rest) end h =
    rw (kept_queue e f end h, kept_queues e rest end h) refl

-- and have room at every endpoint
no_room : (e : Effect) (rooms : Rooms) (sent : List Sent) → TakesNoRoom e → HasRoom rooms sent e
unfolding TakesNoRoom HasRoom
no_room (effect.Submitted submission) rooms sent h = absurd h
no_room (effect.Ticked tick) rooms sent h = tt
no_room (effect.Tried number) rooms sent h = absurd h
no_room (effect.Delivered delivery) rooms sent h = absurd h
no_room (effect.Receipted number) rooms sent h = tt
no_room (effect.Refused number code) rooms sent h = tt
no_room (effect.Confirmed upto) rooms sent h = tt
no_room (effect.Carried carried) rooms sent h = absurd h
no_room (effect.Kept kept) rooms sent h = absurd h

-- the others keep their room after such an effect
rooms_stay : (e : Effect) (end : End) (rooms : Rooms) (rest : List Effect) → TakesNoRoom e → HaveRoom rooms end.sent rest
    → HaveRoom rooms (after e end).sent rest
rooms_stay e end rooms [] h room = tt
rooms_stay e end rooms (f ∷ rest) h room = (room_stays e f end rooms h room.0, rooms_stay e end rooms rest h room.1)

-- the last of two or more is the last of the rest
last_of_rest : (e f : Effect) (rest : List Effect) (d : Effect)
    → get_or (e ∷ f ∷ rest) (length (e ∷ f ∷ rest) - 1) d ≡ get_or (f ∷ rest) (length (f ∷ rest) - 1) d
last_of_rest e f rest d =
    let whole : length (e ∷ f ∷ rest) - 1 ≡ suc (length rest) = omega arith in
    let part : length (f ∷ rest) - 1 ≡ length rest = omega arith in rw (whole, part) refl

-- the submission of the last effect existed before all of them
pub last_there : (effects : List Effect) (end : End) (d : Effect) → first_unfit effects end ≡ None → TakeOneRoom effects → 0 < length effects
    → IsThere end.sent (get_or effects (length effects - 1) d)
last_there [] end d fit one some = absurd (omega arith)
last_there (e ∷ []) end d fit one some = fit_there e end (first_fits e [] end fit).0
last_there (e ∷ f ∷ rest) end d fit one some =
    rw (last_of_rest e f rest d) (there_before e (get_or (f ∷ rest) (length (f ∷ rest) - 1) d) end one.0
    (last_there (f ∷ rest) (after e end) d (first_fits e (f ∷ rest) end fit).1 one.1 (omega arith)))

-- where the last has room, all have
pub last_has : (effects : List Effect) (rooms : Rooms) (sent : List Sent) (d : Effect) → TakeOneRoom effects
    → HasRoom rooms sent (get_or effects (length effects - 1) d) → HaveRoom rooms sent effects
last_has [] rooms sent d one room = tt
last_has (e ∷ []) rooms sent d one room = (room, tt)
last_has (e ∷ f ∷ rest) rooms sent d one room =
    (no_room e rooms sent one.0, last_has (f ∷ rest) rooms sent d one.1 (rw (last_of_rest e f rest d) at room))

cons_parts : {X : Type 0} (x y : X) (xs ys : List X) → x ∷ xs ≡ y ∷ ys → (x ≡ y) × (xs ≡ ys)
cons_parts x y xs ys e = grind arith

nothing_left : {X : Type 0} {x : X} {rest : List X} (at : ℕ) → drop at [] ≡ x ∷ rest → ⊥
nothing_left zero e = absurd cc
nothing_left (suc at) e = absurd cc

one_room_of : (e : Effect) (rest : List Effect) → TakeOneRoom (e ∷ rest) → TakeOneRoom rest
one_room_of e [] one = tt
one_room_of e (f ∷ rest) one = one.1

-- after an effect the rest can be carried out
rest_goes : (end : End) (rooms later : Rooms) (e : Effect) (rest : List Effect) (queues : List Queue) → first_unfit rest (after e end) ≡ None
    → TakeOneRoom (e ∷ rest) → queues ≡ map (queue_for end.sent) rest → HaveRoom rooms end.sent rest → (TakesNoRoom e → later ≡ rooms)
    → CanGo (after e end) later rest queues
rest_goes end rooms later e [] queues fit one placed room stays = record { fit = fit; placed = placed; room = tt; one_room = tt }
rest_goes end rooms later e (f ∷ rest) queues fit one placed room stays = record {
  fit = fit;
  placed = placed ∙ sym (kept_queues e (f ∷ rest) end one.0);
  room = subst (λ r. HaveRoom r (after e end).sent (f ∷ rest)) (sym (stays one.0)) (rooms_stay e end rooms (f ∷ rest) one.0 room);
  one_room = one.1;
}

-- the first of the rest can be applied, with the queue at its place; after it the others can, if it keeps their room
pub record GoesOn (end : End) (rooms later : Rooms) (e : Effect) (rest : List Effect) (at : ℕ) (queues : List Queue) : Type 0 where
  pub fit : is_fit e end ≡ true
  pub room : HasRoom rooms end.sent e
  pub below : at < length queues
  pub queue : (d : Queue) → get_or queues at d ≡ queue_for end.sent e
  pub on : CanGo (after e end) later rest (drop (at + 1) queues)

-- where the rest from a place on isn't empty, the place is in the list
place_below : {X : Type 0} (xs : List X) (at : ℕ) (x : X) (rest : List X) → drop at xs ≡ x ∷ rest → at < length xs
place_below [] at x rest e = absurd (nothing_left at e)
place_below (y ∷ xs) zero x rest e = omega arith
place_below (y ∷ xs) (suc at) x rest e = let below : at < length xs = place_below xs at x rest e in omega arith

pub goes_on : (end : End) (rooms later : Rooms) (e : Effect) (rest : List Effect) (at : ℕ) (queues : List Queue)
    → CanGo end rooms (e ∷ rest) (drop at queues) → (TakesNoRoom e → later ≡ rooms) → GoesOn end rooms later e rest at queues
goes_on end rooms later e rest at queues can stays =
    let fits = first_fits e rest end can.fit in
    let below : at < length queues =
    place_below queues at (queue_for end.sent e) (map (queue_for end.sent) rest) can.placed in
    let parts : (d : Queue) → (get_or queues at d ≡ queue_for end.sent e) × (drop (suc at) queues ≡ map (queue_for end.sent) rest) =
    λ d. cons_parts _ _ _ _ (sym (drop-cons queues at d below) ∙ can.placed) in
    record {
      fit = fits.0;
      room = can.room.0;
      below = below;
      queue = λ d. (parts d).0;
      on = let one : at + 1 ≡ suc at = omega arith in
          rw one (rest_goes end rooms later e rest (drop (suc at) queues) fits.1 can.one_room (parts (queue_for end.sent e)).1 can.room.1 stays);
    }

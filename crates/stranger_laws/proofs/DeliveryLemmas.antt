-- A run that delivers: the left endpoint submits and pushes, the right one receives, and its receipt comes back.
use Rattle.std.proofs.Common.{◌≡◌, ℕ, ◌+◌, ◌≤◌, inl, inr, List, [], ◌∷◌, ◌++◌, Bool, true, false, Option, Some, length, length-append, refl, sym, ap, ◌∙◌, subst, arith}
use Rattle.std.specs.Prelude.{◌&&◌, IsSome, nat_le, if◌then◌else◌}
use Rattle.std.specs.List.{Contains}
use Rattle.std.proofs.lemmas.Bool.{cond-true}
use Rattle.std.proofs.lemmas.Bool.Decides.{nat_tests}
use Rattle.std.proofs.lemmas.Slice.Eq.{bytes_eq-Decides}
use Rattle.as4_effects.proofs.LengthLemmas.{number_length}
use Rattle.as4_effects.specs.Effects.{effect_body, effects_body}
use Rattle.as4_effects.specs.declared.effect.Effect.{Effect}
use Rattle.as4_effects.specs.declared.effect.Effect.TheVariants as effect
use Rattle.as4_effects.specs.declared.queue.Queue.TheVariants as queue
use Rattle.as4_effects.specs.declared.submission.Submission.{Submission}
use Rattle.mode_values.proofs.MatchLemmas.{decides_terms}
use Rattle.mode_values.specs.ModeMatch.{Matches, header_terms, mode_named, mode_of, mode_terms}
use Rattle.mode_values.specs.declared.mode.Mode.{Mode}
use Rattle.as4_values.specs.declared.header.UserHeader.{UserHeader}
use Rattle.as4_values.specs.declared.message.Message.{Message}
use Rattle.as4_values.specs.declared.payload.Load.{Load}
use Rattle.as4_values.specs.declared.route.Route.{Route}
use Rattle.as4_values.specs.declared.route.Route.TheVariants as route
use Rattle.exchange_model.specs.Alone.{written}
use Rattle.exchange_model.specs.Apply.{after, applied, record_len, unsent}
use Rattle.exchange_model.specs.Coming.{may_come}
use Rattle.exchange_model.specs.End.{End, empty_end}
use Rattle.exchange_model.specs.Least.{first_least}
use Rattle.exchange_model.specs.LosslessRound.{IsSettled, SecondSettles, SendsOne, ThirdSettles, behind_act}
use Rattle.exchange_model.specs.Questions.{due, head_of, is_in, is_ready, is_same_queue, queue_of}
use Rattle.exchange_model.specs.Room.{HasRoomForOne}
use Rattle.exchange_model.specs.Submitting.{IsHeaderOf, are_too_large}
use Rattle.exchange_model.specs.Table.{Step, Submits, Takes, TakesIn, message_of}
use Rattle.exchange_model.specs.Typed.{HasTexts}
use Rattle.exchange_model.specs.World.{Act, Happening, Does, Left, Right, MayAct, MayHappen, Site, World, new_speaker, new_world, speaker_at, world_after}
use Rattle.exchange_model.specs.declared.event.Event.{Event}
use Rattle.exchange_model.specs.declared.outcome.Outcome.{Outcome}
use Rattle.exchange_model.specs.declared.sent.Sent.{Sent}
use Rattle.exchange_model.specs.declared.what.What.{What}
use Rattle.exchange_model.specs.declared.what.What.TheVariants as what
use Rattle.exchange_model.proofs.ListLemmas.{Has}
use Rattle.exchange_laws.proofs.EffectLemmas.{size_applied}
use Rattle.exchange_laws.proofs.RoomLemmas.{IsSmall, submits_small, takes_small}
use Rattle.exchange_laws.proofs.RoundLemmas.{at_bool, at_some, can_write, row_at}
use Rattle.exchange_laws.proofs.Rounds.{settles}
use Rattle.exchange_laws.proofs.SendsLemmas.{step_sends, submission_may_come}
use Rattle.exchange_laws.proofs.WorldLemmas.{new_world_holds, world_holds}
use Rattle.outcome_laws.proofs.SomeOutcome.{dated_after, some_outcome}
use Rattle.stranger_laws.specs.Delivery.{Delivers}

-- the most bytes of the record of one small row
one_record : (e : Effect) → record_len (e ∷ []) ≡ length (effect_body e) + 11
unfolding record_len effects_body
one_record e = simp length-append (omega (arith, number_length 2 1, length-append (effect_body e) []))

two_records : (e f : Effect) → record_len (e ∷ f ∷ []) ≡ length (effect_body e) + length (effect_body f) + 11
unfolding record_len effects_body
two_records e f =
    simp length-append (omega (arith, number_length 2 2, length-append (effect_body e) (effect_body f ++ []), length-append (effect_body f) []))

small_written : (effects : List Effect) → IsSmall effects → written effects ≤ 536870921
small_written [] small = omega arith
small_written (e ∷ []) small = omega (arith, one_record e)
small_written (e ∷ f ∷ []) small = omega (arith, two_records e f, small.0, small.1)
small_written (e ∷ f ∷ g ∷ effects) small = absurd small

-- an event at the first moment
abbrev event_of : (w : What) → may_come w ≡ true → Event
event_of w may = record { stamp = 0; nonce = 0; what = w; dated = omega arith; deliverable = may }

-- each event has an outcome
some_step : (modes : List Mode) (end : End) (w : What) (may : may_come w ≡ true) → HasTexts w → end.moment ≤ 253402300799999
    → (outcome : Outcome) × Step modes end (event_of w may) outcome
some_step modes end w may texts dated = some_outcome modes end (event_of w may) (record { nonce = omega arith; texts = texts }) dated

submit_may : (name : List ℕ) (conversation : Option (List ℕ)) (loads : List Load) → may_come (what.Submit name conversation loads) ≡ true
unfolding may_come
submit_may name conversation loads = refl

take_may : may_come what.Take ≡ true
unfolding may_come
take_may = refl

-- the only mode of a list is the mode of its name, and of the headers that it matches
only_named : (mode : Mode) → mode_named (mode ∷ []) mode.name ≡ Some mode
unfolding mode_named
only_named mode = cond-true _ _ _ ((bytes_eq-Decides mode.name mode.name).1 refl)

only_matched : (mode : Mode) (header : UserHeader) → Matches mode header → mode_of (mode ∷ []) header ≡ Some mode
unfolding mode_of
only_matched mode header same = cond-true _ _ _ ((decides_terms (mode_terms mode) (header_terms header)).1 same)

-- the row of a submission
submits_row : (mode : Mode) (conversation : Option (List ℕ)) (loads : List Load) (event : Event) (outcome : Outcome)
    → Step (mode ∷ []) empty_end event outcome → event.what ≡ what.Submit mode.name conversation loads
    → Submits (mode ∷ []) empty_end event mode.name conversation loads outcome
submits_row mode conversation loads event outcome step asked =
    let w : What = what.Submit mode.name conversation loads in
    row_at (mode ∷ []) empty_end event outcome w step
    (can_write (mode ∷ []) empty_end event outcome w step (inr (omega arith)) asked
    (submits_small (mode ∷ []) empty_end event mode.name conversation loads step.row)) asked

submits_one : (mode : Mode) (conversation : Option (List ℕ)) (loads : List Load) (event : Event) (outcome : Outcome)
    → are_too_large loads ≡ false → Submits (mode ∷ []) empty_end event mode.name conversation loads outcome
    → TakesIn mode empty_end event conversation loads outcome
unfolding Submits
submits_one mode conversation loads event outcome small row =
    at_bool _ _ (are_too_large loads) false small (at_some _ _ (mode_named (mode ∷ []) mode.name) mode (only_named mode) row)

-- it is the head of the push queue
head_one : (s : Submission) (address : List ℕ) → s.moment ≡ 0 → s.route ≡ route.Push address
    → head_of queue.Push (applied (effect.Submitted s ∷ []) empty_end) ≡ Some (unsent s)
unfolding head_of applied after first_least is_same_queue
head_one s address now pushed =
    ap (λ (b : Bool). first_least due (if b then unsent s ∷ [] else [])) ready
  where
    resent : nat_le 0 s.retries ≡ true
    resent = grind (arith, nat_tests)

    first : nat_le s.moment 0 ≡ true
    first = grind (arith, nat_tests)

    ready : (is_ready 0 (unsent s) && is_in queue.Push (unsent s)) ≡ true
    ready = ap (λ (b : Bool). (b && nat_le s.moment 0) && is_in queue.Push (unsent s)) resent
        ∙ ap (λ (b : Bool). b && is_in queue.Push (unsent s)) first ∙ ap (λ (r : Route). is_same_queue (queue_of r) queue.Push) pushed

-- the four acts, each at the moment 0 and with its reply sent
abbrev act_at : Site → List Mode → Event → Outcome → Act
act_at site modes event outcome = record { site = site; modes = modes; event = event; outcome = outcome; lost = false }

-- the third and the fourth, from any world where the right endpoint is empty
pub record Returns (mode : Mode) (s : Sent) (world : World) : Type 0 where
  pub over : Act
  pub back : Act
  pub may : MayHappen (Does over ∷ Does back ∷ []) world
  pub settled : IsSettled Left s (world_after (Does over ∷ Does back ∷ []) world)

returns : (mode : Mode) (s : Sent) (world : World) → Matches mode s.submission.header → world.right.end ≡ empty_end
    → Contains world.left.said (message_of s.submission) → world.left.end.moment ≤ 253402300799999 → HasRoomForOne world.left.end
    → SecondSettles Left s world → Returns mode s world
returns mode s world matches empty said dated room second = record {
  over = over;
  back = back;
  may = (over_may, (back_may, tt));
  settled = third.2 back (record { here = refl; may = (back_may, tt); roomy = inr room }) refl;
}
  where
    over_step : (outcome : Outcome) × Step (mode ∷ []) world.right.end (event_of (what.Came (message_of s.submission)) (submission_may_come s.submission)) outcome
    over_step = some_step (mode ∷ []) world.right.end (what.Came (message_of s.submission)) (submission_may_come s.submission) tt
        (subst (λ (e : End). e.moment ≤ 253402300799999) (sym empty) (omega arith))

    over : Act
    over = act_at Right (mode ∷ []) (event_of (what.Came (message_of s.submission)) (submission_may_come s.submission)) over_step.0

    over_may : MayAct over world.right world.left
    over_may = record { heard = said; step = over_step.1 }

    third : (answer : Message) × SendsOne Right world over answer × ThirdSettles Left s answer (behind_act over world)
    third = second over (record { here = refl; may = (over_may, tt); roomy = inr (subst HasRoomForOne (sym empty) (omega arith)) })
        (record { message = refl; mode = subst IsSome (sym (only_matched mode s.submission.header matches)) refl })

    answered : may_come (what.Came third.0) ≡ true
    answered = step_sends (mode ∷ []) world.right.end over.event over.outcome over_step.1 third.0
        (subst (λ (ms : List Message). Has ms third.0) (sym third.1.one) (inl refl))

    back_step : (outcome : Outcome) × Step [] world.left.end (event_of (what.Came third.0) answered) outcome
    back_step = some_step [] world.left.end (what.Came third.0) answered tt dated

    back : Act
    back = act_at Left [] (event_of (what.Came third.0) answered) back_step.0

    back_may : MayAct back world.left (speaker_at Right (behind_act over world))
    back_may = record { heard = third.1.heard refl; step = back_step.1 }

-- a header by a mode matches it
header_matches : (mode : Mode) (id : List ℕ) (ms : ℕ) (conversation : Option (List ℕ)) (count : ℕ) (header : UserHeader)
    → IsHeaderOf mode id ms conversation count header → Matches mode header
header_matches mode id ms conversation count header h = rw (h.from, h.to, h.service, h.action, h.agreement) refl

pub delivers : (mode : Mode) (address : List ℕ) (conversation : Option (List ℕ)) (loads : List Load) → mode.route ≡ route.Push address
    → HasTexts (what.Submit mode.name conversation loads) → are_too_large loads ≡ false
    → (all : List Happening) × (s : Sent) × Delivers mode loads all s
delivers mode address conversation loads pushed texts small = (
  Does first ∷ Does out ∷ Does later.over ∷ Does later.back ∷ [],
  unsent taken.0,
  record { may = (first_may, (out_may, later.may)); matches = matches; contents = taken.1.loaded.contents; settled = later.settled },
)
  where
    first_event : Event
    first_event = event_of (what.Submit mode.name conversation loads) (submit_may mode.name conversation loads)

    first_step : (outcome : Outcome) × Step (mode ∷ []) empty_end first_event outcome
    first_step = some_step (mode ∷ []) empty_end (what.Submit mode.name conversation loads) (submit_may mode.name conversation loads) texts (omega arith)

    first : Act
    first = act_at Left (mode ∷ []) first_event first_step.0

    first_row : Submits (mode ∷ []) empty_end first_event mode.name conversation loads first_step.0
    first_row = submits_row mode conversation loads first_event first_step.0 first_step.1 refl

    taken : TakesIn mode empty_end first_event conversation loads first_step.0
    taken = submits_one mode conversation loads first_event first_step.0 small first_row

    matches : Matches mode taken.0.header
    matches = header_matches mode _ _ conversation _ taken.0.header taken.1.headed

    one : End
    one = applied first_step.0.effects empty_end

    head : head_of queue.Push one ≡ Some (unsent taken.0)
    head = subst (λ (o : Outcome). head_of queue.Push (applied o.effects empty_end) ≡ Some (unsent taken.0)) (sym taken.2)
        (head_one taken.0 address taken.1.moment (taken.1.route ∙ pushed))

    one_size : one.size ≤ 536870930
    one_size = omega (
      arith,
      size_applied first_step.0.effects empty_end,
      small_written first_step.0.effects
          (submits_small (mode ∷ []) empty_end first_event mode.name conversation loads first_step.0 first_row),
    )

    room : HasRoomForOne one
    room = omega (arith, one_size)

    first_may : MayAct first new_speaker new_speaker
    first_may = record { heard = tt; step = first_step.1 }

    world : World
    world = world_after (Does first ∷ []) new_world

    out_step : (outcome : Outcome) × Step [] one (event_of what.Take take_may) outcome
    out_step = some_step [] one what.Take take_may tt (dated_after (Does first ∷ []) empty_end (omega arith))

    out : Act
    out = act_at Left [] (event_of what.Take take_may) out_step.0

    out_may : MayAct out world.left world.right
    out_may = record { heard = tt; step = out_step.1 }

    round : SendsOne Left world out (message_of taken.0) × SecondSettles Left (unsent taken.0) (behind_act out world)
    round = settles Left (unsent taken.0) world (world_holds (Does first ∷ []) new_world new_world_holds (first_may, tt)) out
        (record { here = refl; may = (out_may, tt); roomy = inr room }) (inl (refl, head))

    out_row : Takes one out_step.0
    out_row = row_at [] one (event_of what.Take take_may) out_step.0 what.Take out_step.1
        (can_write [] one (event_of what.Take take_may) out_step.0 what.Take out_step.1 (inr room) refl (takes_small one out_step.1.row)) refl

    two_room : HasRoomForOne (applied out_step.0.effects one)
    two_room = omega (arith, one_size, size_applied out_step.0.effects one, small_written out_step.0.effects (takes_small one out_step.0 out_row))

    later : Returns mode (unsent taken.0) (behind_act out world)
    later = returns mode (unsent taken.0) (behind_act out world) matches refl (round.0.heard refl)
        (dated_after (Does first ∷ Does out ∷ []) empty_end (omega arith)) two_room round.1

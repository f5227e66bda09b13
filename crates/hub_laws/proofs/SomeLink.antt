-- Four acts on a link that deliver a message: the sender submits it and pushes it, the receiver, to which nothing has
-- happened yet, takes it in, and its receipt comes back.
use Rattle.std.proofs.Common.{◌≡◌, ℕ, ◌+◌, ◌≤◌, inl, inr, List, [], ◌∷◌, ◌++◌, Bool, true, false, Option, Some, length, length-append, map, refl, sym, ap, ◌∙◌, subst, arith}
use Rattle.std.specs.Prelude.{◌&&◌, nat_le, slice_get, if◌then◌else◌}
use Rattle.std.proofs.lemmas.Bool.{cond-true}
use Rattle.std.proofs.lemmas.Bool.Decides.{nat_tests}
use Rattle.std.proofs.lemmas.Slice.Eq.{bytes_eq-Decides}
use Rattle.as4_effects.proofs.LengthLemmas.{number_length}
use Rattle.as4_effects.specs.Effects.{effect_body, effects_body}
use Rattle.as4_effects.specs.declared.delivery.Delivery.{Delivery}
use Rattle.as4_effects.specs.declared.effect.Effect.{Effect}
use Rattle.as4_effects.specs.declared.effect.Effect.TheVariants as effect
use Rattle.as4_effects.specs.declared.queue.Queue.TheVariants as queue
use Rattle.as4_effects.specs.declared.submission.Submission.{Submission}
use Rattle.mode_values.proofs.MatchLemmas.{decides_terms}
use Rattle.mode_values.specs.ModeMatch.{Matches, header_terms, mode_named, mode_of, mode_terms}
use Rattle.mode_values.specs.declared.mode.Mode.{Mode}
use Rattle.as4_values.specs.declared.header.UserHeader.{UserHeader}
use Rattle.as4_effects.specs.declared.mark.Mark.TheVariants as mark
use Rattle.as4_values.specs.declared.message.Message.TheVariants as message
use Rattle.as4_values.specs.declared.signal.Signal.{Signal}
use Rattle.as4_values.specs.declared.payload.Load.{Load}
use Rattle.as4_values.specs.declared.payload.Payload.{Payload}
use Rattle.as4_values.specs.declared.route.Route.{Route}
use Rattle.as4_values.specs.declared.route.Route.TheVariants as route
use Rattle.exchange_model.specs.Alone.{written}
use Rattle.exchange_model.specs.Apply.{after, applied, marked, record_len, unsent}
use Rattle.exchange_model.specs.Coming.{may_come}
use Rattle.exchange_model.specs.End.{End, empty_end}
use Rattle.exchange_model.specs.Least.{first_least}
use Rattle.exchange_model.specs.Numbered.{AreNumberedFrom}
use Rattle.exchange_model.specs.Questions.{due, head_of, is_in, is_known, is_ready, is_same_queue, queue_of}
use Rattle.exchange_model.specs.Room.{HasRoomForOne}
use Rattle.exchange_model.specs.Submitting.{IsHeaderOf, address_of, are_too_large}
use Rattle.exchange_model.specs.Table.{Delivers, Gives, IsOther, Step, Submits, Takes, TakesIn, UserComes, message_of}
use Rattle.exchange_model.specs.Typed.{HasTexts}
use Rattle.exchange_model.specs.World.{Act, Does, Left, sends}
use Rattle.exchange_model.specs.declared.event.Event.{Event}
use Rattle.exchange_model.specs.declared.inbox_entry.InboxEntry.{InboxEntry}
use Rattle.exchange_model.specs.declared.outcome.Outcome.{Outcome}
use Rattle.exchange_model.specs.declared.reply.Reply.TheVariants as reply
use Rattle.exchange_model.specs.declared.sent.Sent.{Sent}
use Rattle.exchange_model.specs.declared.what.What.{What}
use Rattle.exchange_model.specs.declared.what.What.TheVariants as what
use Rattle.exchange_model.proofs.ListLemmas.{Has}
use Rattle.exchange_model.proofs.NumberedLemmas.{itself, none_numbered, place}
use Rattle.exchange_laws.proofs.EffectLemmas.{size_applied}
use Rattle.exchange_laws.proofs.RoomLemmas.{IsSmall, submits_small, takes_small, user_small}
use Rattle.exchange_laws.proofs.RoundLemmas.{IsPendingAt, at_bool, at_some, back_settles, can_write, out_sends, row_at}
use Rattle.exchange_laws.proofs.SendsLemmas.{signal_may_come, submission_may_come}
use Rattle.exchange_laws.proofs.StepLemmas.{step_goes}
use Rattle.outcome_laws.proofs.SomeOutcome.{dated_after, some_outcome}

-- the most bytes of the record of one small row
one_record : (e : Effect) → record_len (e ∷ []) ≡ length (effect_body e) + 11
unfolding record_len effects_body
one_record e = simp length-append (omega (arith, number_length 2 1, length-append (effect_body e) []))

two_records : (e f : Effect) → record_len (e ∷ f ∷ []) ≡ length (effect_body e) + length (effect_body f) + 11
unfolding record_len effects_body
two_records e f =
    simp length-append (omega (arith, number_length 2 2, length-append (effect_body e) (effect_body f ++ []), length-append (effect_body f) []))

small_written : (effects : List Effect) → IsSmall effects → written effects ≤ 536870921
small_written [] small = omega arith
small_written (e ∷ []) small = omega (arith, one_record e)
small_written (e ∷ f ∷ []) small = omega (arith, two_records e f, small.0, small.1)
small_written (e ∷ f ∷ g ∷ effects) small = absurd small

-- an event at the first moment
abbrev pub event_of : (w : What) → may_come w ≡ true → Event
event_of w may = record { stamp = 0; nonce = 0; what = w; dated = omega arith; deliverable = may }

-- each event has an outcome
some_step : (modes : List Mode) (end : End) (w : What) (may : may_come w ≡ true) → HasTexts w → end.moment ≤ 253402300799999
    → (outcome : Outcome) × Step modes end (event_of w may) outcome
some_step modes end w may texts dated = some_outcome modes end (event_of w may) (record { nonce = omega arith; texts = texts }) dated

pub submit_may : (name : List ℕ) (conversation : Option (List ℕ)) (loads : List Load) → may_come (what.Submit name conversation loads) ≡ true
unfolding may_come
submit_may name conversation loads = refl

pub take_may : may_come what.Take ≡ true
unfolding may_come
take_may = refl

-- the only mode of a list is the mode of its name, and of the headers that it matches
only_named : (mode : Mode) → mode_named (mode ∷ []) mode.name ≡ Some mode
unfolding mode_named
only_named mode = cond-true _ _ _ ((bytes_eq-Decides mode.name mode.name).1 refl)

only_matched : (mode : Mode) (header : UserHeader) → Matches mode header → mode_of (mode ∷ []) header ≡ Some mode
unfolding mode_of
only_matched mode header same = cond-true _ _ _ ((decides_terms (mode_terms mode) (header_terms header)).1 same)

header_matches : (mode : Mode) (id : List ℕ) (ms : ℕ) (conversation : Option (List ℕ)) (count : ℕ) (header : UserHeader)
    → IsHeaderOf mode id ms conversation count header → Matches mode header
header_matches mode id ms conversation count header h = rw (h.from, h.to, h.service, h.action, h.agreement) refl

-- an endpoint at the first moment that has submitted nothing
abbrev pub unused : List InboxEntry → ℕ → End
unused inbox size = record { sent = []; inbox = inbox; confirmed = 0; moment = 0; size = size }

-- its first submission is the head of the push queue
head_one : (inbox : List InboxEntry) (size : ℕ) (s : Submission) (address : List ℕ) → s.moment ≡ 0 → s.route ≡ route.Push address
    → head_of queue.Push (applied (effect.Submitted s ∷ []) (unused inbox size)) ≡ Some (unsent s)
unfolding head_of applied after first_least is_same_queue
head_one inbox size s address now pushed =
    ap (λ (b : Bool). first_least due (if b then unsent s ∷ [] else [])) ready
  where
    resent : nat_le 0 s.retries ≡ true
    resent = grind (arith, nat_tests)

    first : nat_le s.moment 0 ≡ true
    first = grind (arith, nat_tests)

    ready : (is_ready 0 (unsent s) && is_in queue.Push (unsent s)) ≡ true
    ready = ap (λ (b : Bool). (b && nat_le s.moment 0) && is_in queue.Push (unsent s)) resent
        ∙ ap (λ (b : Bool). b && is_in queue.Push (unsent s)) first ∙ ap (λ (r : Route). is_same_queue (queue_of r) queue.Push) pushed

first_dated : (inbox : List InboxEntry) (size : ℕ) (s : Submission)
    → (applied (effect.Submitted s ∷ []) (unused inbox size)).moment ≤ 253402300799999
unfolding applied after
first_dated inbox size s = omega arith

-- the sender after its first two acts
abbrev pub out_of : Outcome → Outcome → End → End
out_of first out sender = applied out.effects (applied first.effects sender)

-- the four acts, from a sender to an empty receiver
pub record LinkDelivers (sender : End) (mode : Mode) (conversation : Option (List ℕ)) (loads : List Load) : Type 0 where
  pub submission : Submission
  pub talks : submission.header.conversation ≡ conversation
  pub contents : map (λ (payload : Payload). payload.content) submission.payloads ≡ map (λ (load : Load). load.content) loads
  pub first : Outcome
  pub first_step : Step (mode ∷ []) sender (event_of (what.Submit mode.name conversation loads) (submit_may mode.name conversation loads)) first
  pub out : Outcome
  pub out_step : Step [] (applied first.effects sender) (event_of what.Take take_may) out
  pub sent : sends out.reply ≡ message_of submission ∷ []
  pub over : Outcome
  pub over_step : Step (mode ∷ []) empty_end (event_of (what.Came (message_of submission)) (submission_may_come submission)) over
  pub delivery : Delivery
  pub header : delivery.header ≡ submission.header
  pub payloads : delivery.payloads ≡ submission.payloads
  pub effects : over.effects ≡ effect.Delivered delivery ∷ []
  pub small : written over.effects ≤ 536870921
  pub signal : Signal
  pub answers : sends over.reply ≡ message.Signal signal ∷ []
  pub back : Outcome
  pub back_step : Step [] (out_of first out sender) (event_of (what.Came (message.Signal signal)) (signal_may_come signal)) back
  pub settled : Sent
  pub there : slice_get (applied back.effects (out_of first out sender)).sent 0 ≡ Some settled
  pub same : settled.submission ≡ submission
  pub mark : settled.mark ≡ mark.Receipted

none_known : (id : List ℕ) → is_known id [] ≡ false
unfolding is_known
none_known id = refl

pub link_delivers : (inbox : List InboxEntry) (size : ℕ) (mode : Mode) (address : List ℕ) (conversation : Option (List ℕ)) (loads : List Load)
    → size ≤ 1000000000 → mode.route ≡ route.Push address → HasTexts (what.Submit mode.name conversation loads) → are_too_large loads ≡ false
    → LinkDelivers (unused inbox size) mode conversation loads
unfolding Submits Takes UserComes
link_delivers inbox size mode address conversation loads short pushed texts few = record {
  submission = taken.0;
  talks = taken.1.headed.talks;
  contents = taken.1.loaded.contents;
  first = first_step.0;
  first_step = first_step.1;
  out = out_step.0;
  out_step = out_step.1;
  sent = ap (λ (o : Outcome). sends o.reply) handed;
  over = over_step.0;
  over_step = over_step.1;
  delivery = delivered.0;
  header = delivered.1;
  payloads = delivered.2;
  effects = ap (λ (o : Outcome). o.effects) delivered.3.2;
  small = small_written over_step.0.effects (user_small (mode ∷ []) empty_end over_event taken.0.header taken.0.payloads over_step.0 over_row);
  signal = signal;
  answers = ap (λ (o : Outcome). sends o.reply) delivered.3.2;
  back = back_step.0;
  back_step = back_step.1;
  settled = marked mark.Receipted pends.0;
  there = subst (λ n. slice_get three.sent n ≡ Some (marked mark.Receipted pends.0)) (ap (λ (u : Submission). u.number) pends.2 ∙ taken.1.numbered)
      (sym (place pends.0.submission.number three.sent three_numbered) ∙ itself 0 three.sent (marked mark.Receipted pends.0) three_numbered settled);
  same = pends.2;
  mark = refl;
}
  where
    sender : End
    sender = unused inbox size

    w : What
    w = what.Submit mode.name conversation loads

    first_event : Event
    first_event = event_of w (submit_may mode.name conversation loads)

    first_step : (outcome : Outcome) × Step (mode ∷ []) sender first_event outcome
    first_step = some_step (mode ∷ []) sender w (submit_may mode.name conversation loads) texts (omega arith)

    first_row : Submits (mode ∷ []) sender first_event mode.name conversation loads first_step.0
    first_row = row_at (mode ∷ []) sender first_event first_step.0 w first_step.1
        (can_write (mode ∷ []) sender first_event first_step.0 w first_step.1 (inr (omega arith)) refl
        (submits_small (mode ∷ []) sender first_event mode.name conversation loads first_step.1.row)) refl

    taken : TakesIn mode sender first_event conversation loads first_step.0
    taken = at_bool _ _ (are_too_large loads) false few (at_some _ _ (mode_named (mode ∷ []) mode.name) mode (only_named mode) first_row)

    one : End
    one = applied first_step.0.effects sender

    head : head_of queue.Push one ≡ Some (unsent taken.0)
    head = subst (λ (o : Outcome). head_of queue.Push (applied o.effects sender) ≡ Some (unsent taken.0)) (sym taken.2)
        (head_one inbox size taken.0 address taken.1.moment (taken.1.route ∙ pushed))

    room : HasRoomForOne one
    room = omega (
      arith,
      size_applied first_step.0.effects sender,
      small_written first_step.0.effects (submits_small (mode ∷ []) sender first_event mode.name conversation loads first_step.0 first_row),
    )

    dated : one.moment ≤ 253402300799999
    dated = subst (λ (o : Outcome). (applied o.effects sender).moment ≤ 253402300799999) (sym taken.2) (first_dated inbox size taken.0)

    out_step : (outcome : Outcome) × Step [] one (event_of what.Take take_may) outcome
    out_step = some_step [] one what.Take take_may tt dated

    out_row : Takes one out_step.0
    out_row = row_at [] one (event_of what.Take take_may) out_step.0 what.Take out_step.1
        (can_write [] one (event_of what.Take take_may) out_step.0 what.Take out_step.1 (inr room) refl (takes_small one out_step.1.row)) refl

    handed : Gives (effect.Tried taken.0.number) (reply.Push (address_of taken.0.route) (message_of taken.0)) out_step.0
    handed = at_some _ _ (head_of queue.Push one) (unsent taken.0) head out_row

    over_event : Event
    over_event = event_of (what.Came (message_of taken.0)) (submission_may_come taken.0)

    over_step : (outcome : Outcome) × Step (mode ∷ []) empty_end over_event outcome
    over_step = some_step (mode ∷ []) empty_end (what.Came (message_of taken.0)) (submission_may_come taken.0) tt (omega arith)

    over_row : UserComes (mode ∷ []) empty_end over_event taken.0.header taken.0.payloads over_step.0
    over_row = row_at (mode ∷ []) empty_end over_event over_step.0 (what.Came (message_of taken.0)) over_step.1
        (can_write (mode ∷ []) empty_end over_event over_step.0 (what.Came (message_of taken.0)) over_step.1 (inr (omega arith)) refl
        (user_small (mode ∷ []) empty_end over_event taken.0.header taken.0.payloads over_step.1.row)) refl

    delivered : Delivers over_event taken.0.header taken.0.payloads over_step.0
    delivered = at_bool _ _ (is_known taken.0.header.id []) false (none_known taken.0.header.id)
        (at_some _ _ (mode_of (mode ∷ []) taken.0.header) mode
        (only_matched mode taken.0.header (header_matches mode _ _ conversation _ taken.0.header taken.1.headed)) over_row)

    signal : Signal
    signal = delivered.3.0

    out : Act
    out = record { site = Left; modes = []; event = event_of what.Take take_may; outcome = out_step.0; lost = false }

    two : End
    two = out_of first_step.0 out_step.0 sender

    pends : IsPendingAt taken.0 two
    pends = (out_sends out one (unsent taken.0) out_step.1 (inr room) (inl (refl, head))).pends

    two_numbered : AreNumberedFrom 0 two.sent
    two_numbered =
        (step_goes [] one (event_of what.Take take_may) out_step.0
        (step_goes (mode ∷ []) sender first_event first_step.0 none_numbered first_step.1).sent.numbered out_step.1).sent.numbered

    two_dated : two.moment ≤ 253402300799999
    two_dated = dated_after (Does out ∷ []) one dated

    back_event : Event
    back_event = event_of (what.Came (message.Signal signal)) (signal_may_come signal)

    back_step : (outcome : Outcome) × Step [] two back_event outcome
    back_step = some_step [] two (what.Came (message.Signal signal)) (signal_may_come signal) tt two_dated

    back : Act
    back = record { site = Left; modes = []; event = back_event; outcome = back_step.0; lost = false }

    three : End
    three = applied back_step.0.effects two

    three_numbered : AreNumberedFrom 0 three.sent
    three_numbered = (step_goes [] two back_event back_step.0 two_numbered back_step.1).sent.numbered

    two_room : HasRoomForOne two
    two_room = omega (
      arith,
      size_applied first_step.0.effects sender,
      small_written first_step.0.effects (submits_small (mode ∷ []) sender first_event mode.name conversation loads first_step.0 first_row),
      size_applied out_step.0.effects one,
      small_written out_step.0.effects (takes_small one out_step.0 out_row),
    )

    own_copy : IsOther (Some taken.0.header) pends.0.submission.header → ⊥
    own_copy other = other (ap (λ (u : Submission). u.header) (sym pends.2))

    settled : Has three.sent (marked mark.Receipted pends.0)
    settled = back_settles back two pends.0 signal (Some taken.0.header) back_step.1 (inr two_room) refl
        (delivered.3.1.refers ∙ ap (λ (u : Submission). Some u.header.id) (sym pends.2)) delivered.3.1.copies own_copy
        two_numbered pends.1 pends.3

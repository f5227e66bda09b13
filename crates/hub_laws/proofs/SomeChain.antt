-- A chain in which a message comes through: the first endpoint submits and pushes it, the hub takes it in, relays and pushes
-- it, the last endpoint takes it in, and the receipts come back.
use Rattle.std.proofs.Common.{◌≡◌, ℕ, ◌+◌, ◌≤◌, inl, List, [], ◌∷◌, ◌++◌, Some, None, map, refl, sym, ap, ◌∙◌, subst, arith}
use Rattle.std.specs.Prelude.{false, slice_get}
use Rattle.std.specs.List.{Contains}
use Rattle.as4_effects.specs.declared.delivery.Delivery.{Delivery}
use Rattle.as4_effects.specs.declared.effect.Effect.{Effect}
use Rattle.as4_effects.specs.declared.effect.Effect.TheVariants as effect
use Rattle.as4_effects.specs.declared.submission.Submission.{Submission}
use Rattle.as4_values.specs.declared.header.UserHeader.{UserHeader}
use Rattle.as4_values.specs.declared.message.Message.{Message}
use Rattle.as4_values.specs.declared.message.Message.TheVariants as message
use Rattle.as4_values.specs.declared.payload.Payload.{Payload}
use Rattle.as4_values.specs.declared.signal.Signal.{Signal}
use Rattle.as4_values.specs.declared.route.Route.TheVariants as route
use Rattle.mode_values.specs.declared.mode.Mode.{Mode}
use Rattle.exchange_model.specs.Alone.{MayHappenTo, end_after, written}
use Rattle.exchange_model.specs.Apply.{after, applied, record_len}
use Rattle.exchange_model.specs.End.{End, empty_end}
use Rattle.exchange_model.specs.Numbered.{AreNumberedFrom}
use Rattle.exchange_model.specs.Submitting.{are_too_large}
use Rattle.exchange_model.specs.Table.{message_of}
use Rattle.exchange_model.specs.World.{Does, Happening, Left, Right, Site, sends}
use Rattle.exchange_model.specs.declared.event.Event.{Event}
use Rattle.exchange_model.specs.declared.inbox_entry.InboxEntry.{InboxEntry}
use Rattle.exchange_model.specs.declared.outcome.Outcome.{Outcome}
use Rattle.exchange_model.specs.declared.what.What.TheVariants as what
use Rattle.exchange_model.proofs.ListLemmas.{Has}
use Rattle.exchange_model.proofs.NumberedLemmas.{none_numbered}
use Rattle.exchange_laws.proofs.ListLemmas.{contains_had, had_right, has_got}
use Rattle.exchange_laws.proofs.SendsLemmas.{signal_may_come, submission_may_come}
use Rattle.exchange_laws.proofs.StayLemmas.{keeps_all}
use Rattle.hub_laws.specs.Chain.{Front, Link, MayAllPass, Passing, Rear, Relays, chain_after, loads_of, new_chain}
use Rattle.hub_laws.specs.SomeChain.{ComesThrough}
use Rattle.hub_laws.proofs.SomeLink.{LinkDelivers, event_of, link_delivers, out_of, submit_may, take_may, unused}

abbrev entry_of : Delivery → InboxEntry
entry_of d = record { header = d.header; payloads = d.payloads }

-- an endpoint that received one message
received : (d : Delivery) → applied (effect.Delivered d ∷ []) empty_end ≡ unused (entry_of d ∷ []) (9 + record_len (effect.Delivered d ∷ []))
unfolding applied after
received d = refl

none_large : are_too_large [] ≡ false
unfolding are_too_large
none_large = refl

none_loaded : (payloads : List Payload) → map (λ (payload : Payload). payload.content) payloads ≡ [] → [] ≡ loads_of payloads
unfolding loads_of
none_loaded [] e = refl
none_loaded (payload ∷ payloads) e = absurd cc

-- the last message that was sent
said_last : (said new : List Message) (m : Message) → new ≡ m ∷ [] → Contains (said ++ new) m
said_last said new m e = contains_had (said ++ new) m (subst (λ (ms : List Message). Has (said ++ ms) m) (sym e) (had_right said (m ∷ []) m (inl refl)))

abbrev passing : Link → Site → List Mode → Event → Outcome → Passing
passing link site modes event outcome =
    record { link = link; happening = Does (record { site = site; modes = modes; event = event; outcome = outcome; lost = false }) }

abbrev submitting : Mode → Event
submitting mode = event_of (what.Submit mode.name None []) (submit_may mode.name None [])

abbrev taking : Event
taking = event_of what.Take take_may

abbrev coming : Submission → Event
coming s = event_of (what.Came (message_of s)) (submission_may_come s)

abbrev returning : Signal → Event
returning signal = event_of (what.Came (message.Signal signal)) (signal_may_come signal)

-- the hub, which received the message, may relay it
relays_one : (d : Delivery) → d.header.conversation ≡ None → map (λ (payload : Payload). payload.content) d.payloads ≡ []
    → Relays (unused (entry_of d ∷ []) (9 + record_len (effect.Delivered d ∷ []))) None []
relays_one d talks none = record {
  entry = entry_of d;
  there = refl;
  waits = omega arith;
  talks = sym talks;
  loaded = none_loaded d.payloads none;
}

-- the entry that the hub received stays in its inbox
stays_received : (d : Delivery) (hub : End) (id : List ℕ) (all : List Happening) → hub ≡ unused (entry_of d ∷ []) (9 + record_len (effect.Delivered d ∷ []))
    → d.header.id ≡ id → MayHappenTo all hub → (entry : InboxEntry) × (slice_get (end_after all hub).inbox 0 ≡ Some entry) × (entry.header.id ≡ id)
stays_received d hub id all is same may =
    let keeps = keeps_all all hub (subst (λ (end : End). AreNumberedFrom 0 end.sent) (sym is) none_numbered) may in
    let later = keeps.entries 0 (entry_of d) (subst (λ (end : End). slice_get end.inbox 0 ≡ Some (entry_of d)) (sym is) refl) in
    (later.0, later.1, ap (λ (header : UserHeader). header.id) later.2 ∙ same)

pub comes_through : (mode : Mode) (address : List ℕ) → mode.route ≡ route.Push address
    → (all : List Passing) × MayAllPass all new_chain × ComesThrough (chain_after all new_chain)
comes_through mode address pushed = (
  submits_first ∷ pushes_first ∷ hub_receives ∷ hub_relays ∷ hub_pushes ∷ last_receives ∷ hub_settles ∷ first_settles ∷ [],
  (
    record { happens = (record { heard = tt; step = front.first_step }, tt); meets = tt },
    (
      record { happens = (record { heard = tt; step = front.out_step }, tt); meets = tt },
      (
        record { happens = (record { heard = said_last (sends front.first.reply) (sends front.out.reply) (message_of front.submission) front.sent; step = front.over_step }, tt); meets = tt },
        (
          record { happens = (record { heard = tt; step = rear.first_step }, tt); meets = relays },
          (
            record { happens = (record { heard = tt; step = rear.out_step }, tt); meets = tt },
            (
              record { happens = (record { heard = said_last (sends rear.first.reply) (sends rear.out.reply) (message_of rear.submission) rear.sent; step = rear.over_step }, tt); meets = tt },
              (
                record { happens = (record { heard = said_last [] (sends rear.over.reply) (message.Signal rear.signal) rear.answers; step = rear.back_step }, tt); meets = tt },
                (
                  record { happens = (record { heard = said_last [] (sends front.over.reply) (message.Signal front.signal) front.answers; step = front.back_step }, tt); meets = tt },
                  tt,
                ),
              ),
            ),
          ),
        ),
      ),
    ),
  ),
  record {
    source = front.settled;
    submitted = contains_had _ front.settled (has_got _ 0 front.settled front.there);
    source_mark = front.mark;
    received = record { received = kept.0; there = kept.1; identified = kept.2 };
    relayed = rear.settled;
    there = rear.there;
    relayed_mark = rear.mark;
  },
)
  where
    front : LinkDelivers (unused [] 9) mode None []
    front = link_delivers [] 9 mode address None [] (omega arith) pushed tt none_large

    size : ℕ
    size = 9 + record_len (effect.Delivered front.delivery ∷ [])

    hub : applied front.over.effects empty_end ≡ unused (entry_of front.delivery ∷ []) size
    hub = ap (λ (effects : List Effect). applied effects empty_end) front.effects ∙ received front.delivery

    short : size ≤ 1000000000
    short = let wrote : written (effect.Delivered front.delivery ∷ []) ≤ 536870921 = subst (λ (effects : List Effect). written effects ≤ 536870921) front.effects front.small in omega (arith, wrote)

    rear : LinkDelivers (applied front.over.effects empty_end) mode None []
    rear = subst (λ (end : End). LinkDelivers end mode None []) (sym hub)
        (link_delivers (entry_of front.delivery ∷ []) size mode address None [] short pushed tt none_large)

    relays : Relays (applied front.over.effects empty_end) None []
    relays = subst (λ (end : End). Relays end None []) (sym hub)
        (relays_one front.delivery (ap (λ (header : UserHeader). header.conversation) front.header ∙ front.talks)
        (ap (map (λ (payload : Payload). payload.content)) front.payloads ∙ front.contents))

    submits_first : Passing
    submits_first = passing Front Left (mode ∷ []) (submitting mode) front.first

    pushes_first : Passing
    pushes_first = passing Front Left [] taking front.out

    hub_receives : Passing
    hub_receives = passing Front Right (mode ∷ []) (coming front.submission) front.over

    hub_relays : Passing
    hub_relays = passing Rear Left (mode ∷ []) (submitting mode) rear.first

    hub_pushes : Passing
    hub_pushes = passing Rear Left [] taking rear.out

    last_receives : Passing
    last_receives = passing Rear Right (mode ∷ []) (coming rear.submission) rear.over

    hub_settles : Passing
    hub_settles = passing Rear Left [] (returning rear.signal) rear.back

    first_settles : Passing
    first_settles = passing Front Left [] (returning front.signal) front.back

    id : List ℕ
    id = front.settled.submission.header.id

    kept : (entry : InboxEntry) × (slice_get (applied rear.back.effects (out_of rear.first rear.out (applied front.over.effects empty_end))).inbox 0 ≡ Some entry)
        × (entry.header.id ≡ id)
    kept = stays_received front.delivery (applied front.over.effects empty_end) id
        (hub_relays.happening ∷ hub_pushes.happening ∷ hub_settles.happening ∷ []) hub
        (ap (λ (header : UserHeader). header.id) front.header ∙ ap (λ (s : Submission). s.header.id) (sym front.same))
        (rear.first_step, (rear.out_step, (rear.back_step, tt)))

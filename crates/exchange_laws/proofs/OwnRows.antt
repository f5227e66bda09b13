-- What an endpoint does with the events of its own producer, consumer and clock.
use Rattle.std.proofs.Common.{◌≡◌, ℕ, ◌+◌, ◌≤◌, List, [], ◌∷◌, Bool, true, false, Option, Some, None, length, inl, inr, refl, sym, ap, subst, arith}
use Rattle.std.specs.Prelude.{nat_le, nat_lt, slice_get, if◌then◌else◌}
use Rattle.std.proofs.lemmas.Bool.Decides.{nat_tests}
use Rattle.as4_effects.specs.declared.effect.Effect.TheVariants as effect
use Rattle.as4_effects.specs.declared.queue.Queue.{Queue}
use Rattle.as4_effects.specs.declared.queue.Queue.TheVariants as queue
use Rattle.mode_values.specs.ModeMatch.{mode_named}
use Rattle.as4_values.specs.declared.message.Message.{Message}
use Rattle.as4_values.specs.declared.message.Message.TheVariants as message
use Rattle.mode_values.specs.declared.mode.Mode.{Mode}
use Rattle.as4_values.specs.declared.payload.Load.{Load}
use Rattle.as4_values.specs.declared.route.Route.{Route}
use Rattle.as4_values.specs.declared.route.Route.TheVariants as route
use Rattle.exchange_model.specs.Apply.{after, applied}
use Rattle.exchange_model.specs.End.{End}
use Rattle.exchange_model.specs.Numbered.{AreNumberedFrom}
use Rattle.exchange_model.specs.Questions.{head_of}
use Rattle.exchange_model.specs.Submitting.{are_too_large}
use Rattle.exchange_model.specs.Table.{Rests, Gives, Submits, TakesIn, Ticks, Takes, Asks, AsksBy, AsksWith, AsksWithBy, AsksWithEntry, Confirms, message_of, read_reply, entry_reply, standing_reply, mark_reply}
use Rattle.exchange_model.specs.World.{sends}
use Rattle.exchange_model.specs.declared.event.Event.{Event}
use Rattle.exchange_model.specs.declared.inbox_entry.InboxEntry.{InboxEntry}
use Rattle.exchange_model.specs.declared.outcome.Outcome.{Outcome}
use Rattle.exchange_model.specs.declared.reply.Reply.{Reply}
use Rattle.exchange_model.specs.declared.reply.Reply.TheVariants as reply
use Rattle.as4_effects.specs.declared.mark.Mark.{Mark}
use Rattle.as4_effects.specs.declared.mark.Mark.TheVariants as mark
use Rattle.exchange_model.specs.declared.sent.Sent.{Sent}
use Rattle.exchange_model.specs.declared.what.What.{What}
use Rattle.exchange_model.specs.declared.what.What.TheVariants.{Tick}
use Rattle.exchange_model.proofs.FoundLemmas.{head_has}
use Rattle.exchange_model.proofs.ListLemmas.{Has}
use Rattle.exchange_laws.proofs.InboxLemmas.{id_of}
use Rattle.exchange_laws.proofs.ListLemmas.{has_got, had_mapped}
use Rattle.exchange_laws.proofs.SentSteps.{sent_stays, sent_push}
use Rattle.exchange_laws.proofs.SentChanges.{sent_ticked, sent_tried}
use Rattle.exchange_laws.proofs.InboxSteps.{inbox_stays, inbox_emptied}
use Rattle.exchange_laws.proofs.TriesSteps.{tries_quiet, stay_same, stay_ticked, tries_push, tries_tried}
use Rattle.exchange_laws.proofs.EndSteps.{Backs, BacksSignal, EndGoes, goes_by, receipt_backs, rests, rests_silent, by_option, by_bool}

-- the result of the event
abbrev pub Goes : What → End → Outcome → Type 0
Goes what end outcome = EndGoes what outcome.reply end (applied outcome.effects end)

-- one message is sent
pub says_one : (sent : List Sent) (inbox : List InboxEntry) (m : Message) → Backs sent inbox m → (x : Message) → Has (m ∷ []) x
    → Backs sent inbox x
says_one sent inbox m b x (inl e) = subst (Backs sent inbox) e b
says_one sent inbox m b x (inr none) = absurd none

-- Submit
pub submits : (what : What) (modes : List Mode) (end : End) (event : Event) (name : List ℕ) (conversation : Option (List ℕ))
    (loads : List Load) (outcome : Outcome)
    → AreNumberedFrom 0 end.sent → Submits modes end event name conversation loads outcome → Goes what end outcome
unfolding Submits after
submits what modes end event name conversation loads outcome numbered h =
    by_option _ _ _ (mode_named modes name) h (rests_silent what reply.NoMode end outcome refl numbered) (λ mode _ k.
    by_bool _ _ _ (nat_le 1048576 (length end.sent)) k (λ _. rests_silent what reply.OutboxFull end outcome refl numbered) (λ _ l.
    by_bool _ _ _ (are_too_large loads) l (λ _. rests_silent what reply.TooLarge end outcome refl numbered) (λ _ t. taken mode t)))
  where
    taken : (mode : Mode) → TakesIn mode end event conversation loads outcome → Goes what end outcome
    taken mode t =
        goes_by what (reply.Submitted t.0.number t.0.header.id) (effect.Submitted t.0 ∷ []) end outcome t.2
        (record {
          sent = sent_push what end.sent t.0 numbered t.1.numbered;
          inbox = inbox_stays what end.inbox end.confirmed;
          says = λ m none. absurd none;
          tries = tries_push [] end.sent t.0 refl t.1.numbered;
        })

-- Tick
pub ticks : (end : End) (event : Event) (outcome : Outcome) → AreNumberedFrom 0 end.sent → Ticks end event outcome
    → Goes Tick end outcome
unfolding Ticks after
ticks end event outcome numbered h =
    by_bool _ _ _ (nat_le event.stamp end.moment) h (λ _. rests_silent Tick (reply.Ticked 0) end outcome refl numbered) (λ _ t.
    goes_by Tick _ (effect.Ticked t.0 ∷ []) end outcome t.2
    (record {
      sent = sent_ticked end.sent t.0.moment numbered;
      inbox = inbox_stays Tick end.inbox end.confirmed;
      says = λ m none. absurd none;
      tries = tries_quiet [] end.sent _ (λ id. refl) (stay_ticked end.sent t.0.moment);
    }))

-- a head is sent
pub hands_out : (what : What) (q : Queue) (end : End) (s : Sent) (r : Reply) (outcome : Outcome) → AreNumberedFrom 0 end.sent
    → head_of q end ≡ Some s
    → sends r ≡ message_of s.submission ∷ [] → Gives (effect.Tried s.submission.number) r outcome → Goes what end outcome
unfolding after
hands_out what q end s r outcome numbered head says h =
    let there = head_has q end s head in
    let goes = sent_tried what end.sent s end.moment numbered there.0 there.1 in
    let t = goes.kept s there.0 in
    goes_by what r (effect.Tried s.submission.number ∷ []) end outcome h
    (record {
      sent = goes;
      inbox = inbox_stays what end.inbox end.confirmed;
      says = λ m k. says_one _ end.inbox (message_of s.submission)
          (t.0, t.1, ap (λ u. u.header) t.2, ap (λ u. u.payloads) t.2) m (subst (λ (ms : List Message). Has ms m) says k);
      tries = tries_tried (sends r) end.sent s end.moment numbered there.0 says;
    })

-- Take
pub takes : (what : What) (end : End) (outcome : Outcome) → AreNumberedFrom 0 end.sent → Takes end outcome → Goes what end outcome
unfolding Takes
takes what end outcome numbered h =
    by_option _ _ _ (head_of queue.Push end) h (rests_silent what reply.Nothing end outcome refl numbered) (λ s head g.
    hands_out what queue.Push end s _ outcome numbered head refl g)

-- Ask
pub asks : (what : What) (modes : List Mode) (end : End) (event : Event) (name : List ℕ) (outcome : Outcome) → AreNumberedFrom 0 end.sent
    → Asks modes event name outcome → Goes what end outcome
unfolding Asks
asks what modes end event name outcome numbered h =
    by_option _ _ _ (mode_named modes name) h (rests_silent what reply.NoMode end outcome refl numbered) (λ mode _ k. asked mode.route k)
  where
    asked : (r : Route) → AsksBy r event outcome → Goes what end outcome
    asked (route.Push address) k = rests_silent what reply.NoMode end outcome refl numbered k
    asked (route.Pull mpc address) k =
        rests what (reply.Request address (message.Signal k.0)) end outcome numbered k.2 (λ id. refl)
        (says_one end.sent end.inbox (message.Signal k.0) (subst (BacksSignal end.inbox k.0.ref_to) (sym k.1.asks) tt))

-- AskWith
pub asks_with : (what : What) (modes : List Mode) (end : End) (event : Event) (name : List ℕ) (n : ℕ) (outcome : Outcome) → AreNumberedFrom 0 end.sent
    → AsksWith modes end event name n outcome → Goes what end outcome
unfolding AsksWith
asks_with what modes end event name n outcome numbered h =
    by_option _ _ _ (mode_named modes name) h (rests_silent what reply.NoMode end outcome refl numbered) (λ mode _ k. asked mode.route k)
  where
    paired : (mpc address : List ℕ) (o : Option InboxEntry) → slice_get end.inbox n ≡ o → AsksWithEntry mpc address event o outcome → Goes what end outcome
    paired mpc address None at k = rests_silent what reply.NoEntry end outcome refl numbered k
    paired mpc address (Some entry) at k =
        rests what (reply.Request address (message.Pair k.0)) end outcome numbered k.2 (λ id. refl)
        (says_one end.sent end.inbox (message.Pair k.0)
        (receipt_backs end.inbox entry.header k.0.receipt k.1.receipt.refers k.1.receipt.copies
        (had_mapped id_of end.inbox entry (has_got end.inbox n entry at))))

    asked : (r : Route) → AsksWithBy r end event n outcome → Goes what end outcome
    asked (route.Push address) k = rests_silent what reply.NoMode end outcome refl numbered k
    asked (route.Pull mpc address) k =
        by_bool _ _ _ (nat_lt n end.confirmed) k (λ _. rests_silent what reply.Gone end outcome refl numbered)
        (λ _. paired mpc address (slice_get end.inbox n) refl)

-- the reply about an entry sends nothing
pub read_silent : (end : End) (n : ℕ) → sends (read_reply end n) ≡ []
unfolding read_reply
read_silent end n = silent_by (nat_lt n end.confirmed)
  where
    silent_entry : (o : Option InboxEntry) → sends (entry_reply o) ≡ []
    silent_entry None = refl
    silent_entry (Some entry) = refl

    silent_by : (b : Bool) → sends (if b then reply.Gone else entry_reply (slice_get end.inbox n)) ≡ []
    silent_by true = refl
    silent_by false = silent_entry (slice_get end.inbox n)

-- Read
pub reads : (what : What) (end : End) (n : ℕ) (outcome : Outcome) → AreNumberedFrom 0 end.sent → Rests (read_reply end n) outcome
    → Goes what end outcome
reads what end n outcome numbered h = rests_silent what (read_reply end n) end outcome (read_silent end n) numbered h

at_least : (upto confirmed : ℕ) → nat_lt upto confirmed ≡ false → confirmed ≤ upto + 1
at_least upto confirmed h = grind (arith, nat_tests)

-- Confirm
pub confirms : (what : What) (end : End) (upto : ℕ) (outcome : Outcome) → AreNumberedFrom 0 end.sent → Confirms end upto outcome
    → Goes what end outcome
unfolding Confirms after
confirms what end upto outcome numbered h =
    by_bool _ _ _ (nat_lt upto end.confirmed) h (λ _. rests_silent what reply.Gone end outcome refl numbered) (λ below k.
    by_bool _ _ _ (nat_le (length end.inbox) upto) k (λ _. rests_silent what reply.NoEntry end outcome refl numbered) (λ _ g.
    goes_by what (reply.Confirmed upto) (effect.Confirmed upto ∷ []) end outcome g
    (record {
      sent = sent_stays what end.sent numbered;
      inbox = inbox_emptied what end.inbox end.confirmed (upto + 1) (at_least upto end.confirmed below);
      says = λ m none. absurd none;
      tries = tries_quiet [] end.sent _ (λ id. refl) (stay_same end.sent);
    })))

-- the reply about a submission sends nothing
pub standing_silent : (o : Option Sent) → sends (standing_reply o) ≡ []
standing_silent None = refl
standing_silent (Some s) = silent_mark s.tries s.mark
  where
    silent_mark : (tries : ℕ) (m : Mark) → sends (mark_reply tries m) ≡ []
    silent_mark tries mark.Pending = refl
    silent_mark tries mark.Receipted = refl
    silent_mark tries mark.Failed = refl
    silent_mark tries (mark.Refused code) = refl

-- Status
pub tells_status : (what : What) (end : End) (o : Option Sent) (outcome : Outcome) → AreNumberedFrom 0 end.sent
    → Rests (standing_reply o) outcome → Goes what end outcome
tells_status what end o outcome numbered h = rests_silent what (standing_reply o) end outcome (standing_silent o) numbered h

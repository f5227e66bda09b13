-- The kinds of outcome: a step accepts a submission, sets the clock, confirms entries, or does none of these.
use Rattle.std.proofs.Common.{◌≡◌, ℕ, ◌<◌, ◌≤◌, ◌⊎◌, inl, inr, List, [], ◌∷◌, Bool, true, false, Option, Some, None, length, map, refl, sym, ap, ◌∙◌, subst, arith}
use Rattle.std.specs.Prelude.{nat_le, nat_lt, slice_get, if◌then◌else◌}
use Rattle.std.specs.List.{filter_map}
use Rattle.std.specs.Option.{option_and_then}
use Rattle.std.proofs.lemmas.Bool.Decides.{nat_tests}
use Rattle.as4_effects.specs.declared.effect.Effect.{Effect}
use Rattle.as4_effects.specs.declared.effect.Effect.TheVariants as effect
use Rattle.as4_effects.specs.declared.effect.Tick.{Tick}
use Rattle.as4_effects.specs.declared.queue.Queue.TheVariants as queue
use Rattle.as4_effects.specs.declared.submission.Submission.{Submission}
use Rattle.mode_values.specs.ModeFields.{side_fields}
use Rattle.mode_values.specs.ModeMatch.{Agreed, Matches, agreed_of, mode_named, mode_of, channel_mode}
use Rattle.as4_values.specs.declared.header.UserHeader.{UserHeader}
use Rattle.as4_values.specs.declared.message.Pair.{Pair}
use Rattle.as4_values.specs.declared.message.Message.{Message}
use Rattle.as4_values.specs.declared.message.Message.TheVariants as message
use Rattle.mode_values.specs.declared.mode.Mode.{Mode}
use Rattle.as4_values.specs.declared.payload.Load.{Load}
use Rattle.as4_values.specs.declared.payload.Payload.{Payload}
use Rattle.as4_values.specs.declared.route.Route.{Route}
use Rattle.as4_values.specs.declared.route.Route.TheVariants as route
use Rattle.as4_values.specs.declared.signal_body.SignalBody.{SignalBody}
use Rattle.as4_values.specs.declared.signal_body.SignalBody.TheVariants as body
use Rattle.exchange_model.specs.End.{End}
use Rattle.exchange_model.specs.Questions.{head_of, is_known, is_pending, sent_of}
use Rattle.exchange_model.specs.Refusing.{Rejection, refusal_of, refusals_of, once}
use Rattle.exchange_model.specs.Submitting.{IsHeaderOf, are_too_large}
use Rattle.exchange_model.specs.Table.{Rests, Gives, Errs, Receipts, Submits, TakesIn, Ticks, Takes, Asks, AsksBy, AsksWith, AsksWithBy, AsksWithEntry, UserComes, PullComes, Settles, IsOther, ReceiptComes, SignalComes, PairComes, Comes, Confirms, RowOf, IsLimited, Step, has_room, read_reply, entry_reply, standing_reply, mark_reply}
use Rattle.exchange_model.specs.declared.event.Event.{Event}
use Rattle.exchange_model.specs.declared.inbox_entry.InboxEntry.{InboxEntry}
use Rattle.exchange_model.specs.declared.outcome.Outcome.{Outcome}
use Rattle.exchange_model.specs.declared.reply.Reply.{Reply}
use Rattle.exchange_model.specs.declared.reply.Reply.TheVariants as reply
use Rattle.as4_effects.specs.declared.mark.Mark.{Mark}
use Rattle.as4_effects.specs.declared.mark.Mark.TheVariants as mark
use Rattle.exchange_model.specs.declared.sent.Sent.{Sent}
use Rattle.exchange_model.specs.declared.what.What.{What}
use Rattle.exchange_model.specs.declared.what.What.TheVariants as what
use Rattle.exchange_laws.proofs.EndSteps.{by_option, by_bool}
use Rattle.exchange_laws.proofs.PairRows.{pair_cases}

-- effects that submit nothing, set no clock and confirm nothing, and replies that report none of these
abbrev pub IsPlainEffect : Effect → Type 0
IsPlainEffect (effect.Submitted submission) = ⊥
IsPlainEffect (effect.Ticked tick) = ⊥
IsPlainEffect (effect.Confirmed upto) = ⊥
IsPlainEffect (effect.Carried carried) = ⊥
IsPlainEffect (effect.Kept kept) = ⊥
IsPlainEffect e = Unit {0}

abbrev pub ArePlain : List Effect → Type 0
ArePlain [] = Unit {0}
ArePlain (e ∷ effects) = IsPlainEffect e × ArePlain effects

abbrev pub IsPlainReply : Reply → Type 0
IsPlainReply (reply.Submitted number id) = ⊥
IsPlainReply (reply.Confirmed upto) = ⊥
IsPlainReply r = Unit {0}

pub record IsPlain (outcome : Outcome) : Type 0 where
  pub effects : ArePlain outcome.effects
  pub reply : IsPlainReply outcome.reply

-- a submission is accepted, by a mode
pub record IsTakenIn (modes : List Mode) (w : What) (s : Submission) : Type 0 where
  pub name : List ℕ
  pub conversation : Option (List ℕ)
  pub loads : List Load
  pub mode : Mode
  pub asked : w ≡ what.Submit name conversation loads
  pub named : mode_named modes name ≡ Some mode
  pub contents : map (λ (payload : Payload). payload.content) s.payloads ≡ map (λ (load : Load). load.content) loads
  pub medias : map (λ (payload : Payload). payload.media) s.payloads ≡ map (λ (load : Load). load.media) loads
  pub talks : s.header.conversation ≡ conversation
  pub matches : Matches mode s.header
  pub route : s.route ≡ mode.route
  pub retries : s.retries ≡ mode.retries
  pub period : s.period ≡ mode.period

pub record Submitting (modes : List Mode) (end : End) (w : What) (outcome : Outcome) : Type 0 where
  pub submission : Submission
  pub is : outcome ≡ record { effects = effect.Submitted submission ∷ []; reply = reply.Submitted submission.number submission.header.id }
  pub next : submission.number ≡ length end.sent
  pub taken : IsTakenIn modes w submission

-- the clock is set to a later moment
pub record Setting (end : End) (event : Event) (outcome : Outcome) : Type 0 where
  pub tick : Tick
  pub failed : ℕ
  pub is : outcome ≡ record { effects = effect.Ticked tick ∷ []; reply = reply.Ticked failed }
  pub later : end.moment ≤ tick.moment
  pub at : tick.moment ≡ event.stamp

-- received entries are confirmed
pub record Confirming (end : End) (w : What) (outcome : Outcome) : Type 0 where
  pub upto : ℕ
  pub asked : w ≡ what.Confirm upto
  pub is : outcome ≡ record { effects = effect.Confirmed upto ∷ []; reply = reply.Confirmed upto }
  pub came : upto < length end.inbox

abbrev pub Kind : List Mode → End → Event → What → Outcome → Type 0
Kind modes end event w outcome =
    IsPlain outcome ⊎ (Submitting modes end w outcome ⊎ (Setting end event outcome ⊎ Confirming end w outcome))

-- no event carries a submission over or keeps a header
abbrev pub IsMade : Effect → Type 0
IsMade (effect.Carried carried) = ⊥
IsMade (effect.Kept kept) = ⊥
IsMade e = Unit {0}

abbrev pub AreMade : List Effect → Type 0
AreMade [] = Unit {0}
AreMade (e ∷ effects) = IsMade e × AreMade effects

plain_made : (effects : List Effect) → ArePlain effects → AreMade effects
plain_made [] plain = tt
plain_made (e ∷ effects) plain = (one e plain.0, plain_made effects plain.1)
  where
    one : (e : Effect) → IsPlainEffect e → IsMade e
    one (effect.Submitted submission) plain = absurd plain
    one (effect.Ticked tick) plain = absurd plain
    one (effect.Tried number) plain = tt
    one (effect.Delivered delivery) plain = tt
    one (effect.Receipted number) plain = tt
    one (effect.Refused number code) plain = tt
    one (effect.Confirmed upto) plain = absurd plain
    one (effect.Carried carried) plain = absurd plain
    one (effect.Kept kept) plain = absurd plain

pub kind_made : (modes : List Mode) (end : End) (event : Event) (w : What) (outcome : Outcome) → Kind modes end event w outcome → AreMade outcome.effects
kind_made modes end event w outcome (inl plain) = plain_made outcome.effects plain.effects
kind_made modes end event w outcome (inr (inl submits)) = subst (λ (o : Outcome). AreMade o.effects) (sym submits.is) (tt, tt)
kind_made modes end event w outcome (inr (inr (inl sets))) = subst (λ (o : Outcome). AreMade o.effects) (sym sets.is) (tt, tt)
kind_made modes end event w outcome (inr (inr (inr confirms))) = subst (λ (o : Outcome). AreMade o.effects) (sym confirms.is) (tt, tt)

plain_of : (effects : List Effect) (r : Reply) (outcome : Outcome) → ArePlain effects → IsPlainReply r
    → outcome ≡ record { effects = effects; reply = r } → IsPlain outcome
plain_of effects r outcome es reply e = subst IsPlain (sym e) (record { effects = es; reply = reply })

pub plain_rest : (r : Reply) (outcome : Outcome) → IsPlainReply r → Rests r outcome → IsPlain outcome
plain_rest r outcome reply e = plain_of [] r outcome tt reply e

-- Submit
matching : (mode : Mode) (id : List ℕ) (ms : ℕ) (conversation : Option (List ℕ)) (count : ℕ) (header : UserHeader)
    → IsHeaderOf mode id ms conversation count header → Matches mode header
matching mode id ms conversation count header h =
    rw (h.from, h.to, h.service, h.action, h.agreement) refl

submits : (modes : List Mode) (end : End) (event : Event) (name : List ℕ) (conversation : Option (List ℕ)) (loads : List Load) (outcome : Outcome)
    → Submits modes end event name conversation loads outcome → Kind modes end event (what.Submit name conversation loads) outcome
unfolding Submits
submits modes end event name conversation loads outcome h =
    by_option _ _ _ (mode_named modes name) h (λ r. inl (plain_rest reply.NoMode outcome tt r)) (λ mode named k.
    by_bool _ _ _ (nat_le 1048576 (length end.sent)) k (λ _ r. inl (plain_rest reply.OutboxFull outcome tt r)) (λ _ l.
    by_bool _ _ _ (are_too_large loads) l (λ _ r. inl (plain_rest reply.TooLarge outcome tt r)) (λ _ t. inr (inl (taken mode named t)))))
  where
    taken : (mode : Mode) → mode_named modes name ≡ Some mode → TakesIn mode end event conversation loads outcome
        → Submitting modes end (what.Submit name conversation loads) outcome
    taken mode named t = record {
      submission = t.0;
      is = t.2;
      next = t.1.numbered;
      taken = record {
        name = name;
        conversation = conversation;
        loads = loads;
        mode = mode;
        asked = refl;
        named = named;
        contents = t.1.loaded.contents;
        medias = t.1.loaded.medias;
        talks = t.1.headed.talks;
        matches = matching mode _ _ conversation _ t.0.header t.1.headed;
        route = t.1.route;
        retries = t.1.retries;
        period = t.1.period;
      };
    }

-- Tick
later_than : (stamp moment : ℕ) → nat_le stamp moment ≡ false → moment ≤ stamp
later_than stamp moment e = grind (arith, nat_tests)

ticks : (modes : List Mode) (end : End) (event : Event) (outcome : Outcome) → Ticks end event outcome → Kind modes end event what.Tick outcome
unfolding Ticks
ticks modes end event outcome h =
    by_bool _ _ _ (nat_le event.stamp end.moment) h (λ _ r. inl (plain_rest (reply.Ticked 0) outcome tt r)) (λ late t.
    inr (inr (inl (record { tick = t.0; failed = _; is = t.2; later = omega (arith, t.1, later_than event.stamp end.moment late); at = t.1 }))))

-- Take
takes : (end : End) (outcome : Outcome) → Takes end outcome → IsPlain outcome
unfolding Takes
takes end outcome h =
    by_option _ _ _ (head_of queue.Push end) h (plain_rest reply.Nothing outcome tt) (λ s _ g. plain_of _ _ outcome (tt, tt) tt g)

-- Ask
asks : (modes : List Mode) (event : Event) (name : List ℕ) (outcome : Outcome) → Asks modes event name outcome → IsPlain outcome
unfolding Asks
asks modes event name outcome h =
    by_option _ _ _ (mode_named modes name) h (plain_rest reply.NoMode outcome tt) (λ mode _ k. asked mode.route k)
  where
    asked : (r : Route) → AsksBy r event outcome → IsPlain outcome
    asked (route.Push address) k = plain_rest reply.NoMode outcome tt k
    asked (route.Pull mpc address) k = plain_rest (reply.Request address (message.Signal k.0)) outcome tt k.2

-- AskWith
asks_with : (modes : List Mode) (end : End) (event : Event) (name : List ℕ) (n : ℕ) (outcome : Outcome) → AsksWith modes end event name n outcome
    → IsPlain outcome
unfolding AsksWith
asks_with modes end event name n outcome h =
    by_option _ _ _ (mode_named modes name) h (plain_rest reply.NoMode outcome tt) (λ mode _ k. asked mode.route k)
  where
    paired : (mpc address : List ℕ) (o : Option InboxEntry) → AsksWithEntry mpc address event o outcome → IsPlain outcome
    paired mpc address None k = plain_rest reply.NoEntry outcome tt k
    paired mpc address (Some entry) k = plain_rest (reply.Request address (message.Pair k.0)) outcome tt k.2

    asked : (r : Route) → AsksWithBy r end event n outcome → IsPlain outcome
    asked (route.Push address) k = plain_rest reply.NoMode outcome tt k
    asked (route.Pull mpc address) k =
        by_bool _ _ _ (nat_lt n end.confirmed) k (λ _. plain_rest reply.Gone outcome tt) (λ _. paired mpc address (slice_get end.inbox n))

-- Came
errs : (code : ℕ) (about : List ℕ) (event : Event) (outcome : Outcome) → Errs code about event outcome → IsPlain outcome
errs code about event outcome h = plain_rest (reply.Answer (message.Signal h.0)) outcome tt h.2

receipts : (header : UserHeader) (effects : List Effect) (event : Event) (outcome : Outcome) → ArePlain effects
    → Receipts header effects event outcome → IsPlain outcome
receipts header effects event outcome es h = plain_of effects (reply.Answer (message.Signal h.0)) outcome es tt h.2

user_comes : (modes : List Mode) (end : End) (event : Event) (header : UserHeader) (payloads : List Payload) (outcome : Outcome)
    → UserComes modes end event header payloads outcome → IsPlain outcome
unfolding UserComes
user_comes modes end event header payloads outcome h =
    by_option _ _ _ (mode_of modes header) h (errs 10 header.id event outcome) (λ mode _ k.
    by_bool _ _ _ (is_known header.id end.inbox) k (λ _. receipts header [] event outcome tt) (λ _ d.
    receipts header (effect.Delivered d.0 ∷ []) event outcome (tt, tt) d.3))

pull_comes : (modes : List Mode) (end : End) (event : Event) (id mpc : List ℕ) (outcome : Outcome)
    → PullComes modes end event id mpc outcome → IsPlain outcome
unfolding PullComes
pull_comes modes end event id mpc outcome h =
    by_option _ _ _ (channel_mode modes mpc) h (errs 1 id event outcome) (λ mode _ k.
    by_option _ _ _ (head_of (queue.Channel mpc) end) k (errs 6 id event outcome) (λ s _ g. plain_of _ _ outcome (tt, tt) tt g))

receipt_comes : (end : End) (event : Event) (id : List ℕ) (ref_to : Option (List ℕ)) (copy : Option UserHeader) (outcome : Outcome)
    → ReceiptComes end event id ref_to copy outcome → IsPlain outcome
unfolding ReceiptComes
receipt_comes end event id ref_to copy outcome h =
    by_option _ _ _ (option_and_then (λ ref. sent_of ref end.sent) ref_to) h (errs 3 id event outcome) (λ s _ k.
    elim k [ inl other ↦ errs 302 id event outcome other.1 | inr own ↦ settles s own.1 ])
  where
    settles : (s : Sent) → Settles s outcome → IsPlain outcome
    settles s k = by_bool _ _ _ (is_pending s) k (λ _ g. plain_of _ _ outcome (tt, tt) tt g) (λ _. plain_rest reply.Quiet outcome tt)

refusals_plain : (refusals : List Rejection) → ArePlain (map (λ (refusal : Rejection). effect.Refused refusal.number refusal.code) refusals)
refusals_plain [] = tt
refusals_plain (refusal ∷ refusals) = (tt, refusals_plain refusals)

signal_comes : (modes : List Mode) (end : End) (event : Event) (id : List ℕ) (ref_to : Option (List ℕ)) (b : SignalBody) (outcome : Outcome)
    → SignalComes modes end event id ref_to b outcome → IsPlain outcome
unfolding refusals_of
signal_comes modes end event id ref_to (body.Pull mpc) outcome h = pull_comes modes end event id mpc outcome h
signal_comes modes end event id ref_to (body.Receipt copy) outcome h = receipt_comes end event id ref_to copy outcome h
signal_comes modes end event id ref_to (body.Errors items) outcome h =
    plain_of (refusals_of ref_to end.sent items) reply.Quiet outcome (refusals_plain (once (filter_map (refusal_of ref_to end.sent) items))) tt h

pair_comes : (modes : List Mode) (end : End) (event : Event) (pair : Pair) (outcome : Outcome)
    → PairComes modes end event pair.receipt pair.pull outcome → IsPlain outcome
pair_comes modes end event pair outcome h = elim (pair_cases modes end event pair outcome h) [
  | inl r ↦ errs r.code r.about event outcome r.errs
  | inr s ↦ elim s.row [
    | inl a ↦ pull_comes modes end event pair.pull.id s.mpc outcome a.row
    | inr b ↦ (let p = pull_comes modes _ event pair.pull.id s.mpc b.pulled b.row in
        plain_of (effect.Receipted s.one.submission.number ∷ b.pulled.effects) b.pulled.reply outcome (tt, p.effects) p.reply b.is)
  ]
]

comes : (modes : List Mode) (end : End) (event : Event) (m : Message) (outcome : Outcome) → Comes modes end event m outcome → IsPlain outcome
comes modes end event (message.User header payloads) outcome h = user_comes modes end event header payloads outcome h
comes modes end event (message.Signal signal) outcome h = signal_comes modes end event signal.id signal.ref_to signal.body outcome h
comes modes end event (message.Pair pair) outcome h = pair_comes modes end event pair outcome h

-- Read
reads : (end : End) (n : ℕ) → IsPlainReply (read_reply end n)
unfolding read_reply
reads end n = by_test (nat_lt n end.confirmed)
  where
    entry : (o : Option InboxEntry) → IsPlainReply (entry_reply o)
    entry None = tt
    entry (Some e) = tt

    by_test : (b : Bool) → IsPlainReply (if b then reply.Gone else entry_reply (slice_get end.inbox n))
    by_test true = tt
    by_test false = entry (slice_get end.inbox n)

-- Confirm
below : (upto n : ℕ) → nat_le n upto ≡ false → upto < n
below upto n e = grind (arith, nat_tests)

confirms : (modes : List Mode) (end : End) (event : Event) (upto : ℕ) (outcome : Outcome) → Confirms end upto outcome
    → Kind modes end event (what.Confirm upto) outcome
unfolding Confirms
confirms modes end event upto outcome h =
    by_bool _ _ _ (nat_lt upto end.confirmed) h (λ _ r. inl (plain_rest reply.Gone outcome tt r)) (λ _ k.
    by_bool _ _ _ (nat_le (length end.inbox) upto) k (λ _ r. inl (plain_rest reply.NoEntry outcome tt r)) (λ there g.
    inr (inr (inr (record { upto = upto; asked = refl; is = g; came = below upto (length end.inbox) there })))))

-- Status
stands : (o : Option Sent) → IsPlainReply (standing_reply o)
stands None = tt
stands (Some s) = marked s.tries s.mark
  where
    marked : (tries : ℕ) (m : Mark) → IsPlainReply (mark_reply tries m)
    marked tries mark.Pending = tt
    marked tries mark.Receipted = tt
    marked tries mark.Failed = tt
    marked tries (mark.Refused code) = tt

-- by the rows of the event
row_kind : (modes : List Mode) (end : End) (event : Event) (w : What) (outcome : Outcome) → RowOf modes end event w outcome
    → Kind modes end event w outcome
row_kind modes end event (what.Submit mode conversation loads) outcome h = submits modes end event mode conversation loads outcome h
row_kind modes end event what.Tick outcome h = ticks modes end event outcome h
row_kind modes end event what.Take outcome h = inl (takes end outcome h)
row_kind modes end event (what.Ask mode) outcome h = inl (asks modes event mode outcome h)
row_kind modes end event (what.AskWith mode n) outcome h = inl (asks_with modes end event mode n outcome h)
row_kind modes end event (what.Came m) outcome h = inl (comes modes end event m outcome h)
row_kind modes end event (what.Read n) outcome h = inl (plain_rest (read_reply end n) outcome (reads end n) h)
row_kind modes end event (what.Confirm upto) outcome h = confirms modes end event upto outcome h
row_kind modes end event (what.Status id) outcome h =
    inl (plain_rest (standing_reply (sent_of id end.sent)) outcome (stands (sent_of id end.sent)) h)

pub step_kind : (modes : List Mode) (end : End) (event : Event) (outcome : Outcome) → Step modes end event outcome
    → Kind modes end event event.what outcome
step_kind modes end event outcome step =
    by_bool _ _ _ (has_room end step.row.effects) step.limited
    (λ _ same. subst (Kind modes end event event.what) (sym same) (row_kind modes end event event.what step.row step.decided))
    (λ _ full. inl (plain_rest (reply.Full end.size _) outcome tt full))

-- What an endpoint answers a message with is read as itself.
use Rattle.std.proofs.Common.{◌≡◌, ◌⊎◌, inl, inr, ℕ, List, [], ◌∷◌, ◌++◌, Bool, true, false, Option, sym, subst, ap}
use Rattle.std.specs.Prelude.{is_some, if◌then◌else◌}
use Rattle.std.specs.Option.{option_and_then}
use Rattle.answer_laws.proofs.SentLemmas.{AreSentSpelled, IsSpelledSent, after_more, from_after_all, from_applied, has_spelled, journal_spells}
use Rattle.answer_laws.proofs.SignalLemmas.{HeaderTold, IsTold, error_itself, receipt_itself, sent_itself}
use Rattle.answer_laws.specs.ReadBack.{IsAnswer}
use Rattle.as4_effects.specs.declared.effect.Effect.{Effect}
use Rattle.as4_effects.specs.declared.effect.Effect.TheVariants as effect
use Rattle.as4_effects.specs.declared.queue.Queue.TheVariants as queue
use Rattle.as4_values.specs.declared.header.UserHeader.{UserHeader}
use Rattle.as4_values.specs.declared.message.Message.{Message}
use Rattle.as4_values.specs.declared.message.Message.TheVariants as message
use Rattle.as4_values.specs.declared.payload.Payload.{Payload}
use Rattle.as4_values.specs.declared.signal.Signal.{Signal}
use Rattle.as4_values.specs.declared.signal_body.SignalBody.{SignalBody}
use Rattle.as4_values.specs.declared.signal_body.SignalBody.TheVariants as body
use Rattle.exchange_laws.proofs.EndSteps.{by_bool, by_option}
use Rattle.exchange_model.proofs.FoundLemmas.{head_has}
use Rattle.exchange_model.specs.Apply.{after_all, applied}
use Rattle.exchange_model.specs.End.{End, empty_end}
use Rattle.exchange_model.specs.Questions.{head_of, is_known, is_pending, sent_of}
use Rattle.exchange_model.specs.Table.{Comes, Errs, IsLimited, IsOther, PairComes, PullComes, PullsBehind, ReceiptComes, Receipts, RowOf, Settles, SignalComes, Step, UserComes, has_room, is_quiet, message_of, names_channel}
use Rattle.exchange_model.specs.declared.event.Event.{Event}
use Rattle.exchange_model.specs.declared.outcome.Outcome.{Outcome}
use Rattle.exchange_model.specs.declared.reply.Reply.{Reply}
use Rattle.exchange_model.specs.declared.reply.Reply.TheVariants as reply
use Rattle.exchange_model.specs.declared.sent.Sent.{Sent}
use Rattle.exchange_model.specs.declared.what.What.{What}
use Rattle.exchange_model.specs.declared.what.What.TheVariants as what
use Rattle.mode_values.specs.ModeMatch.{channel_mode, mode_of}
use Rattle.mode_values.specs.declared.mode.Mode.{Mode}
use Rattle.msh_recovery.specs.Records.{RecordsLead}

-- what is known of a received message: its header, its identifiers
abbrev pub IsKnown : Message → Type 0
IsKnown (message.User header payloads) = HeaderTold header × IsTold header.id
IsKnown (message.Signal s) = IsTold s.id
IsKnown (message.Pair p) = IsTold p.receipt.id × IsTold p.pull.id

by_value : (effects : List Effect) (r : Reply) (outcome : Outcome) → IsAnswer r → outcome ≡ record { effects = effects; reply = r } → IsAnswer outcome.reply
by_value effects r outcome told is = subst (λ (o : Outcome). IsAnswer o.reply) (sym is) told

errs : (code : ℕ) (about : List ℕ) (event : Event) (outcome : Outcome) → IsTold about → Errs code about event outcome → IsAnswer outcome.reply
errs code about event outcome told row =
    by_value [] (reply.Answer (message.Signal row.0)) outcome (error_itself code about event.stamp event.nonce row.0 told row.1) row.2

receipts : (header : UserHeader) (effects : List Effect) (event : Event) (outcome : Outcome) → HeaderTold header → IsTold header.id
    → Receipts header effects event outcome → IsAnswer outcome.reply
receipts header effects event outcome told id row =
    by_value effects (reply.Answer (message.Signal row.0)) outcome (receipt_itself header event.stamp event.nonce row.0 told id row.1) row.2

user_comes : (modes : List Mode) (end : End) (event : Event) (header : UserHeader) (payloads : List Payload) (outcome : Outcome)
    → HeaderTold header → IsTold header.id → UserComes modes end event header payloads outcome → IsAnswer outcome.reply
unfolding UserComes
user_comes modes end event header payloads outcome told id h =
    by_option _ _ _ (mode_of modes header) h (errs 10 header.id event outcome id) (λ mode _ k.
    by_bool _ _ _ (is_known header.id end.inbox) k (λ _. receipts header [] event outcome told id) (λ _ d.
    receipts header (effect.Delivered d.0 ∷ []) event outcome told id d.3))

-- a submission that is the head of a queue
tried : (s : Sent) (outcome : Outcome) → IsSpelledSent s
    → outcome ≡ record { effects = effect.Tried s.submission.number ∷ []; reply = reply.Answer (message_of s.submission) } → IsAnswer outcome.reply
tried s outcome spelled is =
    by_value _ (reply.Answer (message_of s.submission)) outcome (sent_itself s.submission.header s.submission.payloads spelled s.submission.paired) is

-- the submissions after the effects of a row are spelled, if the row names a channel
abbrev Spells : Bool → End → Outcome → Type 0
Spells named end outcome = named ≡ true → AreSentSpelled (after_all outcome.effects end)

pull_comes : (modes : List Mode) (end : End) (event : Event) (id mpc : List ℕ) (outcome : Outcome) → IsTold id
    → Spells (is_some (channel_mode modes mpc)) end outcome → PullComes modes end event id mpc outcome → IsAnswer outcome.reply
unfolding PullComes
pull_comes modes end event id mpc outcome told spells h =
    by_option _ _ _ (channel_mode modes mpc) h (errs 1 id event outcome told) (λ mode named k.
    by_option _ _ _ (head_of (queue.Channel mpc) end) k (errs 6 id event outcome told) (λ s head g.
    let each = from_after_all outcome.effects end (spells (ap is_some named)) in
    tried s outcome (has_spelled end.sent s each (head_has (queue.Channel mpc) end s head).0) g))

receipt_comes : (end : End) (event : Event) (id : List ℕ) (ref_to : Option (List ℕ)) (copy : Option UserHeader) (outcome : Outcome) → IsTold id
    → ReceiptComes end event id ref_to copy outcome → IsAnswer outcome.reply
unfolding ReceiptComes
receipt_comes end event id ref_to copy outcome told h =
    by_option _ _ _ (option_and_then (λ ref. sent_of ref end.sent) ref_to) h (errs 3 id event outcome told) (λ s _ k. named s k)
  where
    settles : (s : Sent) → Settles s outcome → IsAnswer outcome.reply
    settles s k =
        by_bool _ _ _ (is_pending s) k (λ _. by_value _ reply.Quiet outcome tt) (λ _. by_value _ reply.Quiet outcome tt)

    named : (s : Sent)
        → (IsOther copy s.submission.header × Errs 302 id event outcome) ⊎ ((IsOther copy s.submission.header → ⊥) × Settles s outcome)
        → IsAnswer outcome.reply
    named s (inl other) = errs 302 id event outcome told other.1
    named s (inr own) = settles s own.1

signal_comes : (modes : List Mode) (end : End) (event : Event) (id : List ℕ) (ref_to : Option (List ℕ)) (b : SignalBody) (outcome : Outcome)
    → IsTold id → Spells (names_channel modes b) end outcome → SignalComes modes end event id ref_to b outcome → IsAnswer outcome.reply
signal_comes modes end event id ref_to (body.Pull mpc) outcome told spells h = pull_comes modes end event id mpc outcome told spells h
signal_comes modes end event id ref_to (body.Receipt copy) outcome told spells h = receipt_comes end event id ref_to copy outcome told h
signal_comes modes end event id ref_to (body.Errors items) outcome told spells h = by_value _ reply.Quiet outcome tt h

-- the effects behind those of the receipt, where the channel is named
behind : (named : Bool) (end : End) (settled pulled outcome : Outcome) → named ≡ true → AreSentSpelled (after_all outcome.effects end)
    → outcome ≡ record { effects = if named then settled.effects ++ pulled.effects else []; reply = pulled.reply }
    → AreSentSpelled (after_all pulled.effects (after_all settled.effects end))
behind true end settled pulled outcome here each is =
    subst AreSentSpelled (after_more settled.effects pulled.effects end)
    (subst (λ (o : Outcome). AreSentSpelled (after_all o.effects end)) is each)
behind false end settled pulled outcome here each is = absurd cc

pair_comes : (modes : List Mode) (end : End) (event : Event) (receipt pull : Signal) (outcome : Outcome) → IsTold receipt.id → IsTold pull.id
    → AreSentSpelled (after_all outcome.effects end) → PairComes modes end event receipt pull outcome → IsAnswer outcome.reply
unfolding PairComes
pair_comes modes end event receipt pull outcome one other each (settled, row, h) =
    by_bool _ _ _ (is_quiet settled.reply) h (λ _ k. pulls k) (λ _ same.
    subst (λ (o : Outcome). IsAnswer o.reply) (sym same)
    (signal_comes modes end event receipt.id receipt.ref_to receipt.body settled one
    (λ _. subst (λ (o : Outcome). AreSentSpelled (after_all o.effects end)) same each) row))
  where
    pulls : PullsBehind modes end event pull settled outcome → IsAnswer outcome.reply
    pulls (pulled, behind_row, is) =
        by_value _ pulled.reply outcome
        (signal_comes modes (after_all settled.effects end) event pull.id pull.ref_to pull.body pulled other
        (λ named. behind (names_channel modes pull.body) end settled pulled outcome named each is) behind_row) is

comes : (modes : List Mode) (end : End) (event : Event) (m : Message) (outcome : Outcome) → IsKnown m
    → AreSentSpelled (after_all outcome.effects end) → Comes modes end event m outcome → IsAnswer outcome.reply
comes modes end event (message.User header payloads) outcome known each h = user_comes modes end event header payloads outcome known.0 known.1 h
comes modes end event (message.Signal s) outcome known each h = signal_comes modes end event s.id s.ref_to s.body outcome known (λ _. each) h
comes modes end event (message.Pair p) outcome known each h = pair_comes modes end event p.receipt p.pull outcome known.0 known.1 each h

-- where the journal has room for it
limited : (end : End) (row outcome : Outcome) → (AreSentSpelled (after_all row.effects end) → IsAnswer row.reply)
    → AreSentSpelled (after_all outcome.effects end) → IsLimited end row outcome → IsAnswer outcome.reply
limited end row outcome told each h =
    by_bool _ _ _ (has_room end row.effects) h
    (λ _ same. subst (λ (o : Outcome). IsAnswer o.reply) (sym same) (told (subst (λ (o : Outcome). AreSentSpelled (after_all o.effects end)) same each)))
    (λ _ full. by_value _ (reply.Full _ _) outcome tt full)

pub answer_itself : (m : Message) (modes : List Mode) (end : End) (event : Event) (outcome : Outcome) (bodies : List (List ℕ)) → IsKnown m
    → Step modes end event outcome → event.what ≡ what.Came m → RecordsLead bodies empty_end (applied outcome.effects end) → IsAnswer outcome.reply
answer_itself m modes end event outcome bodies known step came leads =
    let each = from_applied outcome.effects end (journal_spells bodies (applied outcome.effects end) leads) in
    limited end step.row outcome
    (λ spelled. comes modes end event m step.row known spelled (subst (λ (w : What). RowOf modes end event w step.row) came step.decided))
    each step.limited

-- What an endpoint does with the messages of the other endpoint.
use Rattle.std.proofs.Common.{◌≡◌, ℕ, ◌⊎◌, List, [], ◌∷◌, ◌++◌, true, false, Option, Some, None, map, inl, inr, refl, sym, ap, ◌∙◌, subst}
use Rattle.std.specs.List.{filter_map}
use Rattle.std.specs.Option.{option_map, option_and_then}
use Rattle.as4_effects.specs.declared.effect.Effect.{Effect}
use Rattle.as4_effects.specs.declared.effect.Effect.TheVariants as effect
use Rattle.as4_effects.specs.declared.queue.Queue.TheVariants as queue
use Rattle.as4_effects.specs.declared.submission.Submission.{Submission}
use Rattle.mode_values.specs.ModeMatch.{mode_of, channel_mode}
use Rattle.as4_values.specs.declared.header.UserHeader.{UserHeader}
use Rattle.as4_values.specs.declared.message.Pair.{Pair}
use Rattle.as4_values.specs.declared.message.Message.{Message}
use Rattle.as4_values.specs.declared.message.Message.TheVariants as message
use Rattle.mode_values.specs.declared.mode.Mode.{Mode}
use Rattle.as4_values.specs.declared.payload.Payload.{Payload}
use Rattle.as4_values.specs.declared.signal.Signal.{Signal}
use Rattle.as4_values.specs.declared.signal_body.ErrorItem.{ErrorItem}
use Rattle.as4_values.specs.declared.signal_body.SignalBody.{SignalBody}
use Rattle.as4_values.specs.declared.signal_body.SignalBody.TheVariants as body
use Rattle.exchange_model.specs.Apply.{after, after_all, changed, marked}
use Rattle.exchange_model.specs.End.{End}
use Rattle.as4_codes.specs.ErrorCodes.{ErrorRow, error_row, error_item}
use Rattle.exchange_model.specs.LosslessRound.{IsReceiptAt}
use Rattle.exchange_model.specs.Numbered.{AreNumberedFrom}
use Rattle.exchange_model.specs.Questions.{head_of, is_known, is_pending, sent_of}
use Rattle.exchange_model.specs.Refusing.{Rejection, refusal_of, refusals_of, once}
use Rattle.exchange_model.specs.Table.{Errs, Receipts as Answers, Delivers, UserComes, PullComes, Settles, IsOther, ReceiptComes, SignalComes, PairComes, Comes}
use Rattle.exchange_model.specs.declared.event.Event.{Event}
use Rattle.exchange_model.specs.declared.inbox_entry.InboxEntry.{InboxEntry}
use Rattle.exchange_model.specs.declared.outcome.Outcome.{Outcome}
use Rattle.exchange_model.specs.World.{sends}
use Rattle.exchange_model.specs.declared.reply.Reply.{Reply}
use Rattle.exchange_model.specs.declared.reply.Reply.TheVariants as reply
use Rattle.as4_effects.specs.declared.mark.Mark.TheVariants as mark
use Rattle.exchange_model.specs.declared.sent.Sent.{Sent}
use Rattle.exchange_model.specs.declared.what.What.{What}
use Rattle.exchange_model.specs.declared.what.What.TheVariants.{Came}
use Rattle.exchange_model.proofs.FoundLemmas.{sent_of_has}
use Rattle.exchange_model.proofs.ListLemmas.{Has}
use Rattle.exchange_laws.proofs.ListLemmas.{had_mapped, had_right}
use Rattle.exchange_laws.proofs.SentSteps.{Receipts, Fails, SentGoes, sent_stays, sent_then}
use Rattle.exchange_laws.proofs.SentChanges.{IsPendingNumber, pending_behind, sent_receipted, sent_refused}
use Rattle.exchange_laws.proofs.RefusalLemmas.{AreApart, once_apart, refusals_pend, refusals_fail}
use Rattle.exchange_laws.proofs.InboxLemmas.{ids, id_of, known_has}
use Rattle.exchange_laws.proofs.InboxSteps.{inbox_stays, inbox_push}
use Rattle.exchange_laws.proofs.TriesSteps.{TriesStay, tries_quiet, tries_behind, stay_same, stay_marked, stay_then}
use Rattle.exchange_laws.proofs.EndSteps.{BacksSignal, EndGoes, goes_by, unapplied, receipt_backs, rests, rests_silent, by_option, by_bool}
use Rattle.exchange_laws.proofs.OwnRows.{Goes, says_one, hands_out}
use Rattle.exchange_laws.proofs.PairRows.{IsBehind, pair_cases, receipt_names}

-- an error signal is no receipt
errors_back : (inbox : List InboxEntry) (ref_to about : Option (List ℕ)) (b : SignalBody) (o : Option ErrorRow)
    → option_map (λ row. body.Errors (error_item row about ∷ [])) o ≡ Some b → BacksSignal inbox ref_to b
errors_back inbox ref_to about b None e = absurd cc
errors_back inbox ref_to about b (Some row) e =
    let same : body.Errors (error_item row about ∷ []) ≡ b = cc in subst (BacksSignal inbox ref_to) same tt

-- an error is reported
errs : (what : What) (code : ℕ) (about : List ℕ) (end : End) (event : Event) (outcome : Outcome) → AreNumberedFrom 0 end.sent
    → Errs code about event outcome
    → Goes what end outcome
errs what code about end event outcome numbered h =
    rests what _ end outcome numbered h.2 (λ id. refl)
    (says_one end.sent end.inbox (message.Signal h.0) (errors_back end.inbox h.0.ref_to (Some about) h.0.body (error_row code) h.1.tells))

-- a user message
user_comes : (modes : List Mode) (end : End) (event : Event) (header : UserHeader) (payloads : List Payload) (outcome : Outcome)
    → AreNumberedFrom 0 end.sent
    → UserComes modes end event header payloads outcome → Goes (Came (message.User header payloads)) end outcome
unfolding UserComes after
user_comes modes end event header payloads outcome numbered h =
    by_option _ _ _ (mode_of modes header) h (errs what 10 header.id end event outcome numbered) (λ mode _ k.
    by_bool _ _ _ (is_known header.id end.inbox) k known delivered)
  where
    what : What
    what = Came (message.User header payloads)

    known : is_known header.id end.inbox ≡ true → Answers header [] event outcome → Goes what end outcome
    known there a =
        rests what _ end outcome numbered a.2 (λ id. refl)
        (says_one end.sent end.inbox (message.Signal a.0)
        (receipt_backs end.inbox header a.0 a.1.refers a.1.copies (known_has header.id end.inbox there)))

    delivered : is_known header.id end.inbox ≡ false → Delivers event header payloads outcome → Goes what end outcome
    delivered unknown d =
        let entry : InboxEntry = record { header = d.0.header; payloads = d.0.payloads } in
        let came : what ≡ Came (message.User d.0.header d.0.payloads) = cc in
        let new : is_known d.0.header.id end.inbox ≡ false = ap (λ (h : UserHeader). is_known h.id end.inbox) d.1 ∙ unknown in
        let there : Has (ids (end.inbox ++ entry ∷ [])) header.id =
        subst (λ (h : UserHeader). Has (ids (end.inbox ++ entry ∷ [])) h.id) d.1
        (had_mapped id_of (end.inbox ++ entry ∷ []) entry (had_right end.inbox (entry ∷ []) entry (inl refl))) in
        goes_by what _ (effect.Delivered d.0 ∷ []) end outcome d.3.2
        (record {
          sent = sent_stays what end.sent numbered;
          inbox = inbox_push what end.inbox end.confirmed entry new came;
          says = says_one end.sent (end.inbox ++ entry ∷ []) (message.Signal d.3.0)
              (receipt_backs (end.inbox ++ entry ∷ []) header d.3.0 d.3.1.refers d.3.1.copies there);
          tries = tries_quiet _ end.sent _ (λ id. refl) (stay_same end.sent);
        })

-- a pull request
pub pull_comes : (what : What) (modes : List Mode) (end : End) (event : Event) (id mpc : List ℕ) (outcome : Outcome)
    → AreNumberedFrom 0 end.sent
    → PullComes modes end event id mpc outcome → Goes what end outcome
unfolding PullComes
pull_comes what modes end event id mpc outcome numbered h =
    by_option _ _ _ (channel_mode modes mpc) h (errs what 1 id end event outcome numbered) (λ mode _ k.
    by_option _ _ _ (head_of (queue.Channel mpc) end) k (errs what 6 id end event outcome numbered) (λ s head g.
    hands_out what (queue.Channel mpc) end s _ outcome numbered head refl g))

-- the reference that finds a submission
reference : (sent : List Sent) (ref_to : Option (List ℕ)) (s : Sent) → option_and_then (λ ref. sent_of ref sent) ref_to ≡ Some s
    → (id : List ℕ) × (ref_to ≡ Some id) × (sent_of id sent ≡ Some s)
reference sent None s e = absurd cc
reference sent (Some id) s e = (id, refl, e)

-- a receipt
receipt_comes : (signal : Signal) (copy : Option UserHeader) (end : End) (event : Event) (outcome : Outcome)
    → signal.body ≡ body.Receipt copy
    → AreNumberedFrom 0 end.sent → ReceiptComes end event signal.id signal.ref_to copy outcome
    → Goes (Came (message.Signal signal)) end outcome
unfolding ReceiptComes after
receipt_comes signal copy end event outcome receipt numbered h =
    by_option _ _ _ (option_and_then (λ ref. sent_of ref end.sent) signal.ref_to) h (errs what 3 signal.id end event outcome numbered) named
  where
    what : What
    what = Came (message.Signal signal)

    settles : (s : Sent) → Has end.sent s → Receipts what s.submission → Settles s outcome → Goes what end outcome
    settles s there r k =
        by_bool _ _ _ (is_pending s) k
        (λ pending g. goes_by what reply.Quiet (effect.Receipted s.submission.number ∷ []) end outcome g
        (record {
          sent = sent_receipted what end.sent s numbered there pending r;
          inbox = inbox_stays what end.inbox end.confirmed;
          says = λ m none. absurd none;
          tries = tries_quiet [] end.sent _ (λ id. refl) (stay_marked end.sent s.submission.number mark.Receipted);
        }))
        (λ _. rests_silent what reply.Quiet end outcome refl numbered)

    named : (s : Sent) → option_and_then (λ ref. sent_of ref end.sent) signal.ref_to ≡ Some s
        → (IsOther copy s.submission.header × Errs 302 signal.id event outcome) ⊎ ((IsOther copy s.submission.header → ⊥) × Settles s outcome)
        → Goes what end outcome
    named s e (inl other) = errs what 302 signal.id end event outcome numbered other.1
    named s e (inr own) =
        let r = reference end.sent signal.ref_to s e in
        let there = sent_of_has r.0 end.sent s r.2 in
        let brought : Receipts what s.submission =
        record { signal = signal; copy = copy; came = refl; receipt = receipt; names = r.1 ∙ ap Some (sym there.1); same = own.0 } in
        settles s there.0 brought own.1

-- the effects of refusals
abbrev refused : List Rejection → List Effect
refused refusals = map (λ (refusal : Rejection). effect.Refused refusal.number refusal.code) refusals

-- refusals are no tries
refused_stay : (refusals : List Rejection) (end : End) → TriesStay end.sent (after_all (refused refusals) end).sent
unfolding after
refused_stay [] end = stay_same end.sent
refused_stay (refusal ∷ refusals) end =
    stay_then end.sent _ _ (stay_marked end.sent refusal.number (mark.Refused refusal.code))
    (refused_stay refusals (after (effect.Refused refusal.number refusal.code) end))

-- a failure is about each submission that is refused
abbrev AreFailures : What → List Rejection → List Sent → Type 0
AreFailures what refusals sent = (refusal : Rejection) → Has refusals refusal
    → (s : Sent) → Has sent s → s.submission.number ≡ refusal.number → Fails what s.submission refusal.code

-- the same after a refusal
failures_behind : (what : What) (refusal : Rejection) (refusals : List Rejection) (sent : List Sent) → AreFailures what refusals sent
    → AreFailures what refusals (changed refusal.number (marked (mark.Refused refusal.code)) sent)
failures_behind what refusal refusals sent fail later h t there number =
    let s = stay_marked sent refusal.number (mark.Refused refusal.code) t there in
    subst (λ (u : Submission). Fails what u later.code) s.2 (fail later h s.0 s.1 (ap (λ (u : Submission). u.number) s.2 ∙ number))

-- the refusals one after another, each of a pending submission
refuses : (what : What) (refusals : List Rejection) (end : End) → AreNumberedFrom 0 end.sent → AreApart refusals
    → ((refusal : Rejection) → Has refusals refusal → IsPendingNumber refusal.number end.sent) → AreFailures what refusals end.sent
    → EndGoes what reply.Quiet end (after_all (refused refusals) end)
unfolding after
refuses what [] end numbered apart pend fail =
    record {
      sent = sent_stays what end.sent numbered;
      inbox = inbox_stays what end.inbox end.confirmed;
      says = λ m none. absurd none;
      tries = tries_quiet [] end.sent end.sent (λ id. refl) (stay_same end.sent);
    }
refuses what (refusal ∷ refusals) end numbered apart pend fail =
    let first = sent_refused what end.sent refusal.number refusal.code numbered (pend refusal (inl refl)) (fail refusal (inl refl)) in
    let rest = refuses what refusals (after (effect.Refused refusal.number refusal.code) end) first.numbered apart.1
    (λ later h. pending_behind end.sent later.number refusal.number refusal.code (apart.0 later h) (pend later (inr h)))
    (failures_behind what refusal refusals end.sent (λ later h. fail later (inr h))) in
    record {
      sent = sent_then what _ _ _ first rest.sent;
      inbox = rest.inbox;
      says = λ m none. absurd none;
      tries = tries_quiet [] end.sent _ (λ id. refl) (refused_stay (refusal ∷ refusals) end);
    }

-- errors
errors_come : (signal : Signal) (items : List ErrorItem) (end : End) (outcome : Outcome) → signal.body ≡ body.Errors items
    → AreNumberedFrom 0 end.sent
    → outcome ≡ record { effects = refusals_of signal.ref_to end.sent items; reply = reply.Quiet } → Goes (Came (message.Signal signal)) end outcome
unfolding refusals_of
errors_come signal items end outcome errors numbered h = goes_by (Came (message.Signal signal)) reply.Quiet _ end outcome h
    (refuses (Came (message.Signal signal)) (once (filter_map (refusal_of signal.ref_to end.sent) items)) end numbered (once_apart _)
    (refusals_pend end.sent signal.ref_to items numbered) (refusals_fail end.sent signal items numbered errors))

-- a signal, by its body
signal_comes : (modes : List Mode) (end : End) (event : Event) (signal : Signal) (b : SignalBody) (outcome : Outcome)
    → signal.body ≡ b → AreNumberedFrom 0 end.sent
    → SignalComes modes end event signal.id signal.ref_to b outcome → Goes (Came (message.Signal signal)) end outcome
signal_comes modes end event signal (body.Pull mpc) outcome e numbered h =
    pull_comes (Came (message.Signal signal)) modes end event signal.id mpc outcome numbered h
signal_comes modes end event signal (body.Receipt copy) outcome e numbered h = receipt_comes signal copy end event outcome e numbered h
signal_comes modes end event signal (body.Errors items) outcome e numbered h =
    errors_come signal items end outcome e numbered h

-- the receipt of a pair settles a submission first
goes_behind : (what : What) (r : Reply) (number : ℕ) (end new : End)
    → SentGoes what end.sent (changed number (marked mark.Receipted) end.sent)
    → EndGoes what r (after (effect.Receipted number) end) new → EndGoes what r end new
unfolding after
goes_behind what r number end new first rest = record {
  sent = sent_then what _ _ _ first rest.sent;
  inbox = rest.inbox;
  says = rest.says;
  tries = tries_behind (sends r) end.sent number mark.Receipted new.sent rest.tries;
}

-- the row of its pull request at the endpoint after the receipt
pub pulls_behind : (modes : List Mode) (end : End) (event : Event) (pair : Pair) (mpc : List ℕ) (s : Sent) (outcome : Outcome)
    → AreNumberedFrom 0 end.sent → IsReceiptAt s pair.receipt end → (b : IsBehind modes end event pair.pull mpc s outcome)
    → SentGoes (Came (message.Pair pair)) end.sent (changed s.submission.number (marked mark.Receipted) end.sent)
    × EndGoes (Came (message.Pair pair)) b.pulled.reply (after (effect.Receipted s.submission.number) end)
    (after_all b.pulled.effects (after (effect.Receipted s.submission.number) end))
unfolding after
pulls_behind modes end event pair mpc s outcome numbered of b = (
  first,
  unapplied _ _ b.pulled.effects _ (pull_comes _ modes _ event pair.pull.id mpc b.pulled first.numbered b.row),
)
  where
    brought : Receipts (Came (message.Pair pair)) s.submission
    brought = record {
      signal = pair.receipt;
      copy = of.copy;
      came = refl;
      receipt = of.receipt;
      names = (receipt_names s pair.receipt end of).0;
      same = of.own;
    }

    first : SentGoes (Came (message.Pair pair)) end.sent (changed s.submission.number (marked mark.Receipted) end.sent)
    first = sent_receipted _ end.sent s numbered (receipt_names s pair.receipt end of).1 b.pending brought

-- a pair
pair_comes : (modes : List Mode) (end : End) (event : Event) (pair : Pair) (outcome : Outcome) → AreNumberedFrom 0 end.sent
    → PairComes modes end event pair.receipt pair.pull outcome → Goes (Came (message.Pair pair)) end outcome
pair_comes modes end event pair outcome numbered h = elim (pair_cases modes end event pair outcome h) [
  | inl r ↦ errs what r.code r.about end event outcome numbered r.errs
  | inr s ↦ elim s.row [
    | inl a ↦ pull_comes what modes end event pair.pull.id s.mpc outcome numbered a.row
    | inr b ↦ (let g = pulls_behind modes end event pair s.mpc s.one outcome numbered s.of b in
        goes_by what b.pulled.reply (effect.Receipted s.one.submission.number ∷ b.pulled.effects) end outcome b.is
        (goes_behind what b.pulled.reply s.one.submission.number end _ g.0 g.1))
  ]
]
  where
    what : What
    what = Came (message.Pair pair)

-- any received message
pub comes : (modes : List Mode) (end : End) (event : Event) (m : Message) (outcome : Outcome) → AreNumberedFrom 0 end.sent
    → Comes modes end event m outcome → Goes (Came m) end outcome
comes modes end event (message.User header payloads) outcome numbered h = user_comes modes end event header payloads outcome numbered h
comes modes end event (message.Signal signal) outcome numbered h = signal_comes modes end event signal signal.body outcome refl numbered h
comes modes end event (message.Pair pair) outcome numbered h = pair_comes modes end event pair outcome numbered h

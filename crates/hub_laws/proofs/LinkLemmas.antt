-- One step of one endpoint of a link, whatever it receives.
use Rattle.std.proofs.Common.{◌≡◌, ℕ, ◌+◌, ◌<◌, ◌≤◌, ◌⊎◌, inl, inr, List, [], ◌∷◌, ◌++◌, Some, length, length-append, sym, ap, ◌∙◌, subst, arith}
use Rattle.std.specs.Prelude.{slice_get}
use Rattle.std.proofs.lemmas.Bool.{cases_lt}
use Rattle.std.proofs.lemmas.List.{length-map}
use Rattle.as4_effects.specs.declared.mark.Mark.TheVariants as mark
use Rattle.as4_effects.specs.declared.submission.Submission.{Submission}
use Rattle.as4_values.specs.declared.header.UserHeader.{UserHeader}
use Rattle.as4_values.specs.declared.payload.Payload.{Payload}
use Rattle.as4_values.specs.declared.message.Message.{Message}
use Rattle.as4_values.specs.declared.message.Message.TheVariants as message
use Rattle.as4_values.specs.declared.signal.Signal.{Signal}
use Rattle.as4_values.specs.declared.signal_body.SignalBody.TheVariants as body
use Rattle.mode_values.specs.declared.mode.Mode.{Mode}
use Rattle.exchange_model.specs.Apply.{after, applied, unsent}
use Rattle.exchange_model.specs.DeliveredOnce.{CameFrom}
use Rattle.exchange_model.specs.End.{End}
use Rattle.exchange_model.specs.Numbered.{AreNumberedFrom}
use Rattle.exchange_model.specs.Table.{Step}
use Rattle.exchange_model.specs.World.{IsHeard, Speaker}
use Rattle.exchange_model.specs.declared.event.Event.{Event}
use Rattle.exchange_model.specs.declared.inbox_entry.InboxEntry.{InboxEntry}
use Rattle.exchange_model.specs.declared.outcome.Outcome.{Outcome}
use Rattle.exchange_model.specs.declared.reply.Reply.{Reply}
use Rattle.exchange_model.specs.declared.sent.Sent.{Sent}
use Rattle.exchange_model.specs.declared.what.What.{What}
use Rattle.exchange_model.specs.declared.what.What.TheVariants as what
use Rattle.exchange_model.proofs.ListLemmas.{Has}
use Rattle.exchange_laws.proofs.EffectLemmas.{plain_applied}
use Rattle.exchange_laws.proofs.EndSteps.{Backs, BacksSignal, EndGoes}
use Rattle.exchange_laws.proofs.InboxLemmas.{ids}
use Rattle.exchange_laws.proofs.InboxSteps.{Stood}
use Rattle.exchange_laws.proofs.ListLemmas.{got_last, has_contained}
use Rattle.exchange_laws.proofs.OutcomeKinds.{IsTakenIn, Kind, Submitting, step_kind}
use Rattle.exchange_laws.proofs.SentSteps.{Receipts, brings_either, receipted_by}
use Rattle.exchange_laws.proofs.StepLemmas.{step_goes}
use Rattle.exchange_laws.proofs.WorldLemmas.{Holds, SpeakerHolds}
use Rattle.hub_laws.proofs.ListLemmas.{below_got, got_below}

-- a received message is backed by the endpoint that sent it
pub heard : (w : What) (m : Message) (other : Speaker) → SpeakerHolds other → IsHeard other.said w → w ≡ what.Came m
    → Backs other.end.sent other.end.inbox m
heard w m other holds h e = holds.said m (has_contained other.said m (subst (IsHeard other.said) e h))

-- a receipt that is received is for a message of the inbox of the endpoint that sent it
pub receipt_heard : (w : What) (s : Submission) (other : Speaker) → SpeakerHolds other → IsHeard other.said w → Receipts w s
    → Has (ids other.end.inbox) s.header.id
receipt_heard w s other holds h r =
    let backs : BacksSignal other.end.inbox r.signal.ref_to r.signal.body = elim (brings_either w r.signal r.came) [
      | inl came ↦ heard w (message.Signal r.signal) other holds h came
      | inr came ↦ subst (λ (signal : Signal). BacksSignal other.end.inbox signal.ref_to signal.body) came.2
          (heard w (message.Pair came.0) other holds h came.1)
    ] in
    let of_receipt : BacksSignal other.end.inbox r.signal.ref_to (body.Receipt r.copy) =
    subst (BacksSignal other.end.inbox r.signal.ref_to) r.receipt backs in
    of_receipt s.header.id r.names

-- after a step of the sender, where the receipts that it receives are for messages that the receiver has
pub sender_goes : (w : What) (r : Reply) (old new receiver : End) → EndGoes w r old new
    → ((s : Submission) → Receipts w s → Has (ids receiver.inbox) s.header.id) → Holds old receiver → Holds new receiver
sender_goes w r old new receiver goes known h = record {
  submitted = λ n entry at. later entry (receiver.confirmed ≤ n) (h.submitted n entry at);
  receipted = λ t there m. of_receipted t (receipted_by w old.sent new.sent t goes.sent there m);
}
  where
    later : (entry : InboxEntry) (kept : Type 0) → (s : Sent) × Has old.sent s × CameFrom s entry kept
        → (s : Sent) × Has new.sent s × CameFrom s entry kept
    later entry kept s =
        let t = goes.sent.kept s.0 s.1 in
        (t.0, t.1, record { header = s.2.header ∙ ap (λ u. u.header) (sym t.2); payloads = λ k. s.2.payloads k ∙ ap (λ u. u.payloads) (sym t.2) })

    of_receipted : (t : Sent)
        → ((s : Sent) × Has old.sent s × (s.mark ≡ mark.Receipted) × (s.submission ≡ t.submission)) ⊎ Receipts w t.submission
        → Has (ids receiver.inbox) t.submission.header.id
    of_receipted t (inl s) = subst (Has (ids receiver.inbox)) (ap (λ u. u.header.id) s.3) (h.receipted s.0 s.1 s.2)
    of_receipted t (inr r) = known t.submission r

-- after a step of the receiver, where the user messages that it receives are those of the sender
pub receiver_goes : (w : What) (r : Reply) (sender old new : End) → EndGoes w r old new
    → ((header : UserHeader) (payloads : List Payload) → w ≡ what.Came (message.User header payloads)
    → Backs sender.sent sender.inbox (message.User header payloads))
    → Holds sender old → Holds sender new
receiver_goes w r sender old new goes backed h = record {
  submitted = λ n entry at. came n entry (goes.inbox.entries n entry at);
  receipted = λ s there m. goes.inbox.known s.submission.header.id (h.receipted s there m);
}
  where
    came : (n : ℕ) (entry : InboxEntry)
        → Stood old.inbox old.confirmed n entry (new.confirmed ≤ n) ⊎ (w ≡ what.Came (message.User entry.header entry.payloads))
        → (s : Sent) × Has sender.sent s × CameFrom s entry (new.confirmed ≤ n)
    came n entry (inl stood) =
        let s = h.submitted n stood.before stood.there in
        (s.0, s.1, record { header = stood.header ∙ s.2.header; payloads = λ k. stood.payloads k ∙ s.2.payloads (stood.unconfirmed k) })
    came n entry (inr new) =
        let s = backed entry.header entry.payloads new in
        (s.0, s.1, record { header = sym s.2; payloads = λ k. sym s.3 })

-- the submission at this place was there before the step, or it is the next one, and the step accepted it
pub record WasThere (old : List Sent) (n : ℕ) (t : Sent) : Type 0 where
  pub one : Sent
  pub there : slice_get old n ≡ Some one
  pub same : t.submission ≡ one.submission

pub record IsNext (modes : List Mode) (w : What) (old : List Sent) (n : ℕ) (t : Sent) : Type 0 where
  pub place : n ≡ length old
  pub taken : IsTakenIn modes w t.submission

-- only a submission makes the list longer
pub rests_count : (modes : List Mode) (end : End) (event : Event) (outcome : Outcome)
    → Kind modes end event event.what outcome
    → (length (applied outcome.effects end).sent ≡ length end.sent) ⊎ Submitting modes end event.what outcome
unfolding applied after
rests_count modes end event outcome (inl plain) = inl (plain_applied outcome.effects end plain.effects).count
rests_count modes end event outcome (inr (inl submits)) = inr submits
rests_count modes end event outcome (inr (inr (inl sets))) =
    inl (ap (λ (o : Outcome). length (applied o.effects end).sent) sets.is ∙ length-map end.sent _)
rests_count modes end event outcome (inr (inr (inr confirms))) =
    inl (ap (λ (o : Outcome). length (applied o.effects end).sent) confirms.is)

pushed_by : (modes : List Mode) (end : End) (w : What) (outcome : Outcome) (submits : Submitting modes end w outcome)
    → (applied outcome.effects end).sent ≡ end.sent ++ unsent submits.submission ∷ []
unfolding applied after
pushed_by modes end w outcome submits = ap (λ (o : Outcome). (applied o.effects end).sent) submits.is

pub sent_from : (modes : List Mode) (end : End) (event : Event) (outcome : Outcome) (n : ℕ) (t : Sent) → AreNumberedFrom 0 end.sent
    → Step modes end event outcome → slice_get (applied outcome.effects end).sent n ≡ Some t
    → WasThere end.sent n t ⊎ IsNext modes event.what end.sent n t
sent_from modes end event outcome n t numbered step at = elim (cases_lt n (length end.sent)) [
  | inl less ↦ inl (before less)
  | inr more ↦ elim (rests_count modes end event outcome (step_kind modes end event outcome step)) [
    | inl count ↦ absurd (omega (arith, more, count, below_got new.sent n t at))
    | inr submits ↦ inr (last submits more)
  ]
]
  where
    new : End
    new = applied outcome.effects end

    goes : EndGoes event.what outcome.reply end new
    goes = step_goes modes end event outcome numbered step

    before : n < length end.sent → WasThere end.sent n t
    before less =
        let one = got_below end.sent n less in
        let later = goes.sent.stands n one.0 one.1 in
        let same : later.later ≡ t = let both : Some later.later ≡ Some t = sym later.there ∙ at in cc in
        record { one = one.0; there = one.1; same = ap (λ (u : Sent). u.submission) (sym same) ∙ later.same }

    last : Submitting modes end event.what outcome → length end.sent ≤ n → IsNext modes event.what end.sent n t
    last submits more =
        let pushed = pushed_by modes end event.what outcome submits in
        let count : length new.sent ≡ length end.sent + 1 = ap length pushed ∙ length-append end.sent (unsent submits.submission ∷ []) in
        let place : n ≡ length end.sent = omega (arith, more, count, below_got new.sent n t at) in
        let got : slice_get new.sent n ≡ Some (unsent submits.submission) =
        ap (slice_get new.sent) place ∙ ap (λ (sent : List Sent). slice_get sent (length end.sent)) pushed ∙ got_last end.sent (unsent submits.submission) in
        let same : unsent submits.submission ≡ t = let both : Some (unsent submits.submission) ≡ Some t = sym got ∙ at in cc in
        record { place = place; taken = subst (λ (u : Sent). IsTakenIn modes event.what u.submission) same submits.taken }

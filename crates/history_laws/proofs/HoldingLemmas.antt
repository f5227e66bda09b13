-- A message that was answered with a receipt is held.
use Rattle.std.proofs.Common.{◌≡◌, ℕ, suc, ◌≤◌, inl, inr, Bool, true, false, List, [], ◌∷◌, ◌++◌, Option, Some, None, option_map, length, refl, sym, ap, ◌∙◌, subst, arith}
use Rattle.std.specs.Prelude.{slice_get}
use Rattle.std.proofs.lemmas.List.{map_push}
use Rattle.as4_codes.specs.ErrorCodes.{error_item, error_row}
use Rattle.as4_disk.specs.declared.fault_counts.FaultCounts.{FaultCounts}
use Rattle.as4_values.specs.declared.header.UserHeader.{UserHeader}
use Rattle.as4_values.specs.declared.message.Message.TheVariants as message
use Rattle.as4_values.specs.declared.payload.Payload.{Payload}
use Rattle.as4_values.specs.declared.signal.Signal.{Signal}
use Rattle.as4_values.specs.declared.signal_body.SignalBody.{SignalBody}
use Rattle.as4_values.specs.declared.signal_body.SignalBody.TheVariants as body
use Rattle.mode_values.specs.ModeMatch.{mode_of}
use Rattle.mode_values.specs.declared.mode.Mode.{Mode}
use Rattle.exchange_model.specs.Apply.{after, applied}
use Rattle.exchange_model.specs.End.{End}
use Rattle.exchange_model.specs.LosslessRound.{IsFull}
use Rattle.exchange_model.specs.Questions.{is_known}
use Rattle.exchange_model.specs.Staying.{Keeps}
use Rattle.exchange_model.specs.Table.{Delivers, Errs, Receipts, Step, UserComes}
use Rattle.exchange_model.specs.declared.event.Event.{Event}
use Rattle.exchange_model.specs.declared.inbox_entry.InboxEntry.{InboxEntry}
use Rattle.exchange_model.specs.declared.outcome.Outcome.{Outcome}
use Rattle.exchange_model.specs.declared.reply.Reply.{Reply}
use Rattle.exchange_model.specs.declared.reply.Reply.TheVariants as reply
use Rattle.exchange_model.specs.declared.what.What.TheVariants as what
use Rattle.exchange_model.proofs.ListLemmas.{Has}
use Rattle.exchange_laws.proofs.EndSteps.{by_bool, by_option}
use Rattle.exchange_laws.proofs.InboxLemmas.{has_known, id_of, ids, known_has}
use Rattle.exchange_laws.proofs.ListLemmas.{got_last, had_mapped, had_right, has_got}
use Rattle.exchange_laws.proofs.RoundLemmas.{row_at}
use Rattle.office.specs.Calls.{LeadsWhere, stop_of}
use Rattle.office.specs.Observed.{StepWhere}
use Rattle.office.specs.declared.call.Call.{Call}
use Rattle.office.specs.declared.call.Call.TheVariants.{Done}
use Rattle.history_laws.specs.Following.{GoesOn}
use Rattle.history_laws.specs.Holding.{IsHeldAt, IsReceipted}
use Rattle.history_laws.proofs.FollowingLemmas.{split}
use Rattle.history_laws.proofs.KeepingLemmas.{keeps_calls, same_without}

-- ---- later ends

-- an identifier of the inbox has a place
place_of : (id : List ℕ) (inbox : List InboxEntry) → Has (ids inbox) id
    → (n : ℕ) × (entry : InboxEntry) × (slice_get inbox n ≡ Some entry) × (entry.header.id ≡ id)
place_of id [] h = absurd h
place_of id (e ∷ es) (inl same) = (0, e, refl, same)
place_of id (e ∷ es) (inr h) = let later = place_of id es h in (suc later.0, later.1, later.2, later.3)

pub known_later : (id : List ℕ) (before later : End) → Keeps before later → is_known id before.inbox ≡ true → is_known id later.inbox ≡ true
known_later id before later keeps known =
    let found = place_of id before.inbox (known_has id before.inbox known) in
    let stays = keeps.entries found.0 found.1 found.2 in
    has_known id later.inbox
    (subst (Has (ids later.inbox)) (ap (λ (header : UserHeader). header.id) stays.2 ∙ found.3)
    (had_mapped id_of later.inbox stays.0 (has_got later.inbox found.0 stays.0 stays.1)))

pub held_later : (n : ℕ) (header : UserHeader) (payloads : List Payload) (before later : End) → Keeps before later
    → IsHeldAt n header payloads before → IsHeldAt n header payloads later
held_later n header payloads before later keeps held =
    let stays = keeps.entries n held.entry held.there in
    record {
      entry = stays.0;
      there = stays.1;
      same = stays.2 ∙ held.same;
      contents = λ open_still. stays.3 open_still ∙ held.contents (let less : before.confirmed ≤ later.confirmed = keeps.confirmed in omega arith);
    }

-- ---- the step that sends the receipt

-- what the step of a receipted message leaves
record Holds (header : UserHeader) (payloads : List Payload) (old new : End) : Type 0 where
  pub known : is_known header.id new.inbox ≡ true
  pub held : is_known header.id old.inbox ≡ false → IsHeldAt (length old.inbox) header payloads new

-- an error isn't a receipt
no_receipt : {X : Type 0} (row : Option X) (f : X → SignalBody) (b : SignalBody) (copy : Option UserHeader)
    → ((x : X) → f x ≡ body.Receipt copy → ⊥) → option_map f row ≡ Some b → b ≡ body.Receipt copy → ⊥
no_receipt None f b copy none is receipt = absurd cc
no_receipt (Some x) f b copy none is receipt = none x (let same : f x ≡ b = cc in same ∙ receipt)

no_error : (code : ℕ) (about : List ℕ) (event : Event) (outcome : Outcome) (signal : Signal) (copy : Option UserHeader)
    → Errs code about event outcome → outcome.reply ≡ reply.Answer (message.Signal signal) → signal.body ≡ body.Receipt copy → ⊥
no_error code about event outcome signal copy (error, made, rests) answered receipt =
    let both : reply.Answer (message.Signal error) ≡ reply.Answer (message.Signal signal) = sym (ap (λ (o : Outcome). o.reply) rests) ∙ answered in
    let same : error ≡ signal = cc in
    no_receipt (error_row code) (λ row. body.Errors (error_item row (Some about) ∷ [])) error.body copy (λ row is. absurd cc) made.tells
    (ap (λ (s : Signal). s.body) same ∙ receipt)

-- the last entry of an inbox is known
last_known : (inbox : List InboxEntry) (entry : InboxEntry) → is_known entry.header.id (inbox ++ entry ∷ []) ≡ true
last_known inbox entry =
    has_known entry.header.id (inbox ++ entry ∷ [])
    (subst (λ (xs : List (List ℕ)). Has xs entry.header.id) (sym (map_push id_of inbox entry))
    (had_right (ids inbox) (entry.header.id ∷ []) entry.header.id (inl refl)))

-- received before
held_again : (end : End) (event : Event) (outcome : Outcome) (header : UserHeader) (payloads : List Payload) → is_known header.id end.inbox ≡ true
    → Receipts header [] event outcome → Holds header payloads end (applied outcome.effects end)
held_again end event outcome header payloads known a =
    let same : applied outcome.effects end ≡ end = same_without outcome.effects end (ap (λ (o : Outcome). o.effects) a.2) in
    record {
      known = ap (λ (e : End). is_known header.id e.inbox) same ∙ known;
      held = λ new. absurd (let no : false ≡ true = sym new ∙ known in cc);
    }

-- received for the first time
held_first : (end : End) (event : Event) (outcome : Outcome) (header : UserHeader) (payloads : List Payload)
    → Delivers event header payloads outcome → Holds header payloads end (applied outcome.effects end)
unfolding applied after
held_first end event outcome header payloads (d, same_header, same_payloads, (signal, made, is)) = record {
  known = ap (is_known header.id) longer ∙ last_known end.inbox entry;
  held = λ new. record {
    entry = entry;
    there = ap (λ (inbox : List InboxEntry). slice_get inbox (length end.inbox)) longer ∙ got_last end.inbox entry;
    same = refl;
    contents = λ still. refl;
  };
}
  where
    entry : InboxEntry
    entry = record { header = header; payloads = payloads }

    made_of : InboxEntry
    made_of = record { header = d.header; payloads = d.payloads }

    same : made_of ≡ entry
    same = rw (same_header, same_payloads) refl

    longer : (applied outcome.effects end).inbox ≡ end.inbox ++ entry ∷ []
    longer = ap (λ (o : Outcome). (applied o.effects end).inbox) is ∙ ap (λ (x : InboxEntry). end.inbox ++ x ∷ []) same

held_step : (modes : List Mode) (end : End) (event : Event) (outcome : Outcome) (header : UserHeader) (payloads : List Payload)
    → Step modes end event outcome → IsReceipted header payloads event outcome.reply → Holds header payloads end (applied outcome.effects end)
unfolding UserComes
held_step modes end event outcome header payloads step receipted =
    let row : UserComes modes end event header payloads outcome =
    row_at modes end event outcome (what.Came (message.User header payloads)) step (inl roomy) receipted.came in
    by_option _ _ _ (mode_of modes header) row
    (λ error. absurd (no_error 10 header.id event outcome receipted.signal receipted.copy error receipted.answered receipted.receipt))
    (λ mode _ taken. by_bool _ _ _ (is_known header.id end.inbox) taken
    (held_again end event outcome header payloads) (λ _. held_first end event outcome header payloads))
  where
    roomy : IsFull outcome.reply → ⊥
    roomy full = subst IsFull receipted.answered full

with_reply : (header : UserHeader) (payloads : List Payload) (event : Event) (r known : Reply) → r ≡ known → IsReceipted header payloads event r
    → IsReceipted header payloads event known
with_reply header payloads event r known is receipted = subst (IsReceipted header payloads event) is receipted

held_where : (observable : Bool) (modes : List Mode) (end : End) (event : Event) (outcome : Outcome) (header : UserHeader) (payloads : List Payload)
    → StepWhere observable modes end event outcome → IsReceipted header payloads event outcome.reply
    → Holds header payloads end (applied outcome.effects end)
held_where true modes end event outcome header payloads step receipted = held_step modes end event outcome header payloads step receipted
held_where false modes end event outcome header payloads (inl step) receipted = held_step modes end event outcome header payloads step receipted
held_where false modes end event outcome header payloads (inr read) receipted =
    absurd (let both : what.Read read.number ≡ what.Came (message.User header payloads) = sym read.asked ∙ receipted.came in cc)

-- ---- over calls

-- no receipt is sent after a fault
pub answered_on : (observable : Bool) (modes : List Mode) (stop : Option FaultCounts) (more : List Call) (event : Event) (r : Reply)
    (header : UserHeader) (payloads : List Payload) (here end : End) → IsReceipted header payloads event r
    → GoesOn observable modes stop here (Done event r ∷ more) end → LeadsWhere observable modes here (Done event r ∷ more) end
answered_on observable modes None more event r header payloads here end receipted goes = goes
answered_on observable modes (Some halt) more event r header payloads here end receipted (refused, same) =
    absurd (let both : reply.Stopped halt.before halt.after ≡ reply.Answer (message.Signal receipted.signal) = sym refused.0 ∙ receipted.answered in cc)

receipted_on : (observable : Bool) (modes : List Mode) (more : List Call) (event : Event) (r : Reply)
    (header : UserHeader) (payloads : List Payload) (here end : End) → IsReceipted header payloads event r
    → LeadsWhere observable modes here (Done event r ∷ more) end → is_known header.id end.inbox ≡ true
receipted_on observable modes more event r header payloads here end receipted (outcome, step, is, rest) =
    let new : End = applied outcome.effects here in
    known_later header.id new end (keeps_calls observable modes more new end rest)
    (held_where observable modes here event outcome header payloads step
    (with_reply header payloads event r outcome.reply is receipted)).known

pub receipted_known : (observable : Bool) (modes : List Mode) (calls more : List Call) (event : Event) (r : Reply)
    (header : UserHeader) (payloads : List Payload) (start end : End) → IsReceipted header payloads event r
    → LeadsWhere observable modes start (calls ++ Done event r ∷ more) end → is_known header.id end.inbox ≡ true
receipted_known observable modes calls more event r header payloads start end receipted leads =
    let parts = split observable modes calls (Done event r ∷ more) start end leads in
    receipted_on observable modes more event r header payloads parts.0 end receipted
    (answered_on observable modes (stop_of calls) more event r header payloads parts.0 end receipted parts.2)

pub delivered_held : (observable : Bool) (modes : List Mode) (more : List Call) (event : Event) (r : Reply)
    (header : UserHeader) (payloads : List Payload) (start end : End) → IsReceipted header payloads event r
    → is_known header.id start.inbox ≡ false → LeadsWhere observable modes start (Done event r ∷ more) end
    → IsHeldAt (length start.inbox) header payloads end
delivered_held observable modes more event r header payloads start end receipted new (outcome, step, is, rest) =
    let next : End = applied outcome.effects start in
    held_later (length start.inbox) header payloads next end (keeps_calls observable modes more next end rest)
    ((held_where observable modes start event outcome header payloads step
    (with_reply header payloads event r outcome.reply is receipted)).held new)

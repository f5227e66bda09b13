-- A user message with a mode is taken.
use Rattle.std.proofs.Common.{◌≡◌, ℕ, inl, List, [], ◌∷◌, ◌++◌, Some, None, true, false, refl, sym, ap, ◌∙◌, subst}
use Rattle.std.specs.Prelude.{IsSome}
use Rattle.std.proofs.lemmas.List.{map_push}
use Rattle.mode_values.specs.ModeMatch.{mode_of}
use Rattle.mode_values.specs.declared.mode.Mode.{Mode}
use Rattle.as4_values.specs.declared.header.UserHeader.{UserHeader}
use Rattle.as4_values.specs.declared.message.Message.TheVariants as message
use Rattle.as4_values.specs.declared.payload.Payload.{Payload}
use Rattle.exchange_model.specs.Apply.{after, applied}
use Rattle.exchange_model.specs.End.{End}
use Rattle.exchange_model.specs.LosslessRound.{IsFull}
use Rattle.exchange_model.specs.Questions.{is_known}
use Rattle.exchange_model.specs.Table.{Delivers, Errs, Receipts, Step, UserComes}
use Rattle.exchange_model.specs.World.{sends}
use Rattle.exchange_model.specs.declared.event.Event.{Event}
use Rattle.exchange_model.specs.declared.inbox_entry.InboxEntry.{InboxEntry}
use Rattle.exchange_model.specs.declared.outcome.Outcome.{Outcome}
use Rattle.exchange_model.specs.declared.reply.Reply.TheVariants as reply
use Rattle.exchange_model.specs.declared.what.What.TheVariants as what
use Rattle.exchange_model.proofs.ListLemmas.{Has}
use Rattle.exchange_laws.proofs.EndSteps.{by_bool, by_option}
use Rattle.exchange_laws.proofs.InboxLemmas.{has_known, id_of, ids}
use Rattle.exchange_laws.proofs.ListLemmas.{had_right}
use Rattle.exchange_laws.proofs.RoomLemmas.{rest_taken}
use Rattle.exchange_laws.proofs.RoundLemmas.{at_any, row_at}
use Rattle.stranger_laws.specs.Taken.{IsRefusedFor, IsTaken}
use Rattle.stranger_laws.proofs.OneStep.{rests_same, row_of}

-- the last entry of an inbox is known
last_known : (inbox : List InboxEntry) (entry : InboxEntry) → is_known entry.header.id (inbox ++ entry ∷ []) ≡ true
last_known inbox entry =
    has_known entry.header.id (inbox ++ entry ∷ [])
    (subst (λ (xs : List (List ℕ)). Has xs entry.header.id) (sym (map_push id_of inbox entry))
    (had_right (ids inbox) (entry.header.id ∷ []) entry.header.id (inl refl)))

-- received before
taken_again : (end : End) (event : Event) (outcome : Outcome) (header : UserHeader) (payloads : List Payload) → is_known header.id end.inbox ≡ true
    → Receipts header [] event outcome → IsTaken header payloads outcome.reply end (applied outcome.effects end)
taken_again end event outcome header payloads known a =
    let same : applied outcome.effects end ≡ end = rests_same end outcome (ap (λ (o : Outcome). o.effects) a.2) in
    record {
      known = ap (λ (e : End). is_known header.id e.inbox) same ∙ known;
      delivered = λ new. absurd (let no : false ≡ true = sym new ∙ known in cc);
      again = λ _. ap (λ (e : End). e.inbox) same;
      signal = a.0;
      sent = ap (λ (o : Outcome). sends o.reply) a.2;
      refers = a.1.refers;
      copies = a.1.copies;
    }

-- received for the first time
taken_first : (end : End) (event : Event) (outcome : Outcome) (header : UserHeader) (payloads : List Payload) → is_known header.id end.inbox ≡ false
    → Delivers event header payloads outcome → IsTaken header payloads outcome.reply end (applied outcome.effects end)
unfolding applied after
taken_first end event outcome header payloads new d = record {
  known = ap (is_known header.id) longer ∙ last_known end.inbox entry;
  delivered = λ _. longer;
  again = λ known. absurd (let no : false ≡ true = sym new ∙ known in cc);
  signal = d.3.0;
  sent = ap (λ (o : Outcome). sends o.reply) d.3.2;
  refers = d.3.1.refers;
  copies = d.3.1.copies;
}
  where
    entry : InboxEntry
    entry = record { header = header; payloads = payloads }

    made : InboxEntry
    made = record { header = d.0.header; payloads = d.0.payloads }

    same : made ≡ entry
    same = rw (d.1, d.2) refl

    longer : (applied outcome.effects end).inbox ≡ end.inbox ++ entry ∷ []
    longer = ap (λ (o : Outcome). (applied o.effects end).inbox) d.3.2 ∙ ap (λ (x : InboxEntry). end.inbox ++ x ∷ []) same

pub takes_in : (modes : List Mode) (end : End) (event : Event) (outcome : Outcome) (header : UserHeader) (payloads : List Payload)
    → Step modes end event outcome → event.what ≡ what.Came (message.User header payloads) → IsSome (mode_of modes header)
    → (IsFull outcome.reply → ⊥) → IsTaken header payloads outcome.reply end (applied outcome.effects end)
unfolding UserComes
takes_in modes end event outcome header payloads step came mode roomy =
    let row : UserComes modes end event header payloads outcome =
    row_at modes end event outcome (what.Came (message.User header payloads)) step (inl roomy) came in
    by_bool _ _ _ (is_known header.id end.inbox) (at_any _ _ (mode_of modes header) mode row).1
    (taken_again end event outcome header payloads) (taken_first end event outcome header payloads)

-- without a mode for it a user message is refused, and nothing changes
pub refused : (modes : List Mode) (end : End) (event : Event) (outcome : Outcome) (header : UserHeader) (payloads : List Payload)
    → Step modes end event outcome → event.what ≡ what.Came (message.User header payloads) → mode_of modes header ≡ None
    → IsRefusedFor header event outcome
unfolding UserComes
refused modes end event outcome header payloads step came none =
    let errs : Errs 10 header.id event step.row =
    by_option _ _ _ (mode_of modes header) (row_of modes end event outcome (what.Came (message.User header payloads)) step came) (λ e. e)
    (λ mode is _. absurd (let no : Some mode ≡ None = sym is ∙ none in cc)) in
    let same = rest_taken end step.row outcome (reply.Answer (message.Signal errs.0)) step.limited errs.2 in record {
      unchanged = ap (λ (o : Outcome). o.effects) same;
      signal = errs.0;
      says = errs.1;
      sent = ap (λ (o : Outcome). o.reply) same;
    }

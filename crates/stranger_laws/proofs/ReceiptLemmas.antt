-- A receipt that is sent refers to a message that was received.
use Rattle.std.proofs.Common.{◌≡◌, ℕ, inl, inr, List, [], ◌∷◌, Option, Some, refl, sym, ap, ◌∙◌, subst}
use Rattle.mode_values.specs.declared.mode.Mode.{Mode}
use Rattle.as4_values.specs.declared.header.UserHeader.{UserHeader}
use Rattle.as4_values.specs.declared.message.Message.{Message}
use Rattle.as4_values.specs.declared.message.Message.TheVariants as message
use Rattle.as4_values.specs.declared.signal.Signal.{Signal}
use Rattle.as4_values.specs.declared.signal_body.SignalBody.TheVariants as body
use Rattle.exchange_model.specs.Alone.{MayHappenTo, end_after}
use Rattle.exchange_model.specs.Apply.{applied}
use Rattle.exchange_model.specs.End.{End}
use Rattle.exchange_model.specs.Fold.{resized}
use Rattle.exchange_model.specs.Numbered.{AreNumberedFrom}
use Rattle.exchange_model.specs.Table.{Step}
use Rattle.exchange_model.specs.World.{Act, Happening, Does, Folds, acts_of, sends}
use Rattle.exchange_model.specs.declared.event.Event.{Event}
use Rattle.exchange_model.specs.declared.outcome.Outcome.{Outcome}
use Rattle.exchange_model.specs.declared.reply.Reply.{Reply}
use Rattle.exchange_model.specs.declared.reply.Reply.TheVariants as reply
use Rattle.exchange_model.specs.declared.what.What.{What}
use Rattle.exchange_model.proofs.ListLemmas.{Has}
use Rattle.exchange_laws.proofs.EndSteps.{Backs, BacksSignal, EndGoes}
use Rattle.exchange_laws.proofs.InboxLemmas.{ids}
use Rattle.exchange_laws.proofs.ListLemmas.{has_contained}
use Rattle.exchange_laws.proofs.StepLemmas.{step_goes}
use Rattle.stranger_laws.specs.Receipting.{Carries, SendsReceipt}
use Rattle.stranger_laws.proofs.OneStep.{row_or_full}
use Rattle.stranger_laws.proofs.ReplyLemmas.{HasReference, RefersIf, Suits, row_suits}

-- a received message has the identifier that the receipt refers to
abbrev pub NamesOne : Signal → End → Type 0
NamesOne receipt end = (id : List ℕ) × (receipt.ref_to ≡ Some id) × Has (ids end.inbox) id

sent_suits : (w : What) (r : Reply) → Suits w r → (m : Message) → Has (sends r) m → HasReference m
sent_suits w (reply.Push address one) suits m (inl e) = subst HasReference e suits.0
sent_suits w (reply.Push address one) suits m (inr none) = absurd none
sent_suits w (reply.Request address one) suits m (inl e) = subst HasReference e suits.0
sent_suits w (reply.Request address one) suits m (inr none) = absurd none
sent_suits w (reply.Answer one) suits m (inl e) = subst HasReference e suits.0
sent_suits w (reply.Answer one) suits m (inr none) = absurd none
sent_suits w (reply.Submitted number id) suits m h = absurd h
sent_suits w reply.NoMode suits m h = absurd h
sent_suits w reply.OutboxFull suits m h = absurd h
sent_suits w reply.TooLarge suits m h = absurd h
sent_suits w (reply.Ticked failed) suits m h = absurd h
sent_suits w reply.Nothing suits m h = absurd h
sent_suits w reply.Quiet suits m h = absurd h
sent_suits w (reply.Entry header payloads) suits m h = absurd h
sent_suits w reply.NoEntry suits m h = absurd h
sent_suits w reply.Gone suits m h = absurd h
sent_suits w (reply.Confirmed upto) suits m h = absurd h
sent_suits w (reply.Pending tries) suits m h = absurd h
sent_suits w reply.Receipted suits m h = absurd h
sent_suits w reply.Failed suits m h = absurd h
sent_suits w (reply.RefusedWith code) suits m h = absurd h
sent_suits w reply.Unknown suits m h = absurd h
sent_suits w (reply.Full size need) suits m h = absurd h
sent_suits w (reply.Stopped before after) suits m h = absurd h

-- a message that a step sends has a reference, if it is a receipt
step_refers : (modes : List Mode) (end : End) (event : Event) (outcome : Outcome) → Step modes end event outcome
    → (m : Message) → Has (sends outcome.reply) m → HasReference m
step_refers modes end event outcome step m h = elim (row_or_full modes end event outcome event.what step refl) [
  | inl row ↦ sent_suits event.what outcome.reply (row_suits modes end event event.what outcome row) m h
  | inr full ↦ absurd (subst (λ (o : Outcome). Has (sends o.reply) m) full.1 h)
]

names_by : (signal : Signal) (copy : Option UserHeader) (end : End) → signal.body ≡ body.Receipt copy → RefersIf signal.ref_to signal.body
    → BacksSignal end.inbox signal.ref_to signal.body → NamesOne signal end
names_by signal copy end is refers backs =
    let one = subst (RefersIf signal.ref_to) is refers in
    (one.0, one.1, subst (BacksSignal end.inbox signal.ref_to) is backs one.0 one.1)

carried_names : (m : Message) (receipt : Signal) (copy : Option UserHeader) (end : End) → Carries m receipt → receipt.body ≡ body.Receipt copy
    → HasReference m → Backs end.sent end.inbox m → NamesOne receipt end
carried_names (message.User header payloads) receipt copy end carries is refers backs = absurd carries
carried_names (message.Signal alone) receipt copy end carries is refers backs =
    subst (λ (s : Signal). NamesOne s end) carries
    (names_by alone copy end (ap (λ (s : Signal). s.body) carries ∙ is) refers backs)
carried_names (message.Pair pair) receipt copy end carries is refers backs =
    subst (λ (s : Signal). NamesOne s end) carries
    (names_by pair.receipt copy end (ap (λ (s : Signal). s.body) carries ∙ is) refers backs)

-- the identifiers in an inbox stay
ids_stay : (all : List Happening) (end : End) (id : List ℕ) → AreNumberedFrom 0 end.sent → MayHappenTo all end → Has (ids end.inbox) id
    → Has (ids (end_after all end).inbox) id
ids_stay [] end id numbered may h = h
ids_stay (Does act ∷ later) end id numbered may h =
    let goes = step_goes act.modes end act.event act.outcome numbered may.0 in
    ids_stay later (applied act.outcome.effects end) id goes.sent.numbered may.1 (goes.inbox.known id h)
ids_stay (Folds site size ∷ later) end id numbered may h = ids_stay later (resized size end) id numbered may.1 h

-- any run
pub receipts_name : (all : List Happening) (end : End) (act : Act) (receipt : Signal) → AreNumberedFrom 0 end.sent → MayHappenTo all end
    → Has (acts_of all) act → SendsReceipt act.outcome.reply receipt → NamesOne receipt (end_after all end)
receipts_name [] end act receipt numbered may there sent = absurd there
receipts_name (Does first ∷ later) end act receipt numbered may there sent =
    by_place (λ h. receipts_name later new act receipt goes.sent.numbered may.1 h sent) there
  where
    new : End
    new = applied first.outcome.effects end

    goes : EndGoes first.event.what first.outcome.reply end new
    goes = step_goes first.modes end first.event first.outcome numbered may.0

    now : first ≡ act → NamesOne receipt new
    now same =
        let said : Has (sends first.outcome.reply) sent.carrier =
        subst (λ (a : Act). Has (sends a.outcome.reply) sent.carrier) (sym same) (has_contained (sends act.outcome.reply) sent.carrier sent.sent) in
        carried_names sent.carrier receipt sent.copy new sent.carries sent.is_receipt
        (step_refers first.modes end first.event first.outcome may.0 sent.carrier said) (goes.says sent.carrier said)

    by_place : (Has (acts_of later) act → NamesOne receipt (end_after later new)) → Has (first ∷ acts_of later) act → NamesOne receipt (end_after later new)
    by_place rest (inl same) = let n = now same in (n.0, n.1, ids_stay later new n.0 goes.sent.numbered may.1 n.2)
    by_place rest (inr h) = rest h
receipts_name (Folds site size ∷ later) end act receipt numbered may there sent =
    receipts_name later (resized size end) act receipt numbered may.1 there sent

-- Three acts without loss: a submission is sent, is received, and its receipt is returned.
use Rattle.std.proofs.Common.{◌≡◌, ℕ, ◌⊎◌, inl, inr, List, [], ◌∷◌, Bool, true, false, Option, Some, None, length, refl, sym, ap, ◌∙◌, subst, arith}
use Rattle.std.specs.Prelude.{MatchOption, IsSome, IsTrue, is_some, ◌==◌, if◌then◌else◌}
use Rattle.std.specs.Bool.{MatchBool}
use Rattle.std.specs.Option.{option_and_then}
use Rattle.std.proofs.lemmas.Bool.Decides.{nat_tests}
use Rattle.as4_effects.specs.declared.effect.Effect.{Effect}
use Rattle.as4_effects.specs.declared.effect.Effect.TheVariants as effect
use Rattle.as4_effects.specs.declared.queue.Queue.{Queue}
use Rattle.as4_effects.specs.declared.queue.Queue.TheVariants as queue
use Rattle.as4_effects.specs.declared.submission.Submission.{Submission}
use Rattle.mode_values.specs.ModeMatch.{mode_of, channel_mode}
use Rattle.as4_values.specs.declared.header.UserHeader.{UserHeader}
use Rattle.as4_values.specs.declared.message.Message.TheVariants as message
use Rattle.as4_values.specs.declared.message.Pair.{Pair}
use Rattle.mode_values.specs.declared.mode.Mode.{Mode}
use Rattle.as4_values.specs.declared.signal.Signal.{Signal}
use Rattle.as4_values.specs.declared.signal_body.SignalBody.{SignalBody}
use Rattle.as4_values.specs.declared.signal_body.SignalBody.TheVariants as body
use Rattle.exchange_model.specs.Apply.{tried, marked, changed, after, applied}
use Rattle.exchange_model.specs.End.{End}
use Rattle.exchange_model.specs.Causes.{BringsSignal}
use Rattle.exchange_model.specs.LosslessRound.{IsFull, IsPulled, IsReceiptAt, IsAskedFor, StandsIn, behind_receipt}
use Rattle.exchange_model.specs.Numbered.{AreNumberedFrom}
use Rattle.exchange_model.specs.Questions.{head_of, is_known, is_pending, sent_of}
use Rattle.exchange_model.specs.Room.{HasRoomForOne}
use Rattle.exchange_model.specs.Table.{Gives, Receipts, Takes, UserComes, Delivers, PullComes, SignalComes, ReceiptComes, PairComes, Settles, IsOther, Errs, RowOf, Step, has_room, names_channel, message_of}
use Rattle.exchange_model.specs.World.{Act, sends}
use Rattle.exchange_model.specs.declared.event.Event.{Event}
use Rattle.exchange_model.specs.declared.inbox_entry.InboxEntry.{InboxEntry}
use Rattle.exchange_model.specs.declared.outcome.Outcome.{Outcome}
use Rattle.exchange_model.specs.declared.reply.Reply.{Reply}
use Rattle.exchange_model.specs.declared.reply.Reply.TheVariants as reply
use Rattle.as4_effects.specs.declared.mark.Mark.TheVariants as mark
use Rattle.exchange_model.specs.declared.sent.Sent.{Sent}
use Rattle.exchange_model.specs.declared.what.What.{What}
use Rattle.exchange_model.specs.declared.what.What.TheVariants as what
use Rattle.exchange_model.proofs.FoundLemmas.{head_has}
use Rattle.exchange_model.proofs.ListLemmas.{Has}
use Rattle.exchange_laws.proofs.ListLemmas.{had_mapped, got_last}
use Rattle.exchange_laws.proofs.SentLemmas.{sent_of_own, and_left}
use Rattle.exchange_laws.proofs.ComingRows.{pulls_behind}
use Rattle.exchange_laws.proofs.EffectLemmas.{longer}
use Rattle.exchange_laws.proofs.EndSteps.{by_bool}
use Rattle.exchange_laws.proofs.PairRows.{IsAlone, IsBehind, pair_served}
use Rattle.exchange_laws.proofs.RoomLemmas.{CanWrite, IsSmall, row_taken, takes_small, pull_small, pair_small, user_small, receipt_small}

-- the row of the event
pub row_at : (modes : List Mode) (end : End) (event : Event) (outcome : Outcome) (w : What) (step : Step modes end event outcome)
    → CanWrite end step.row outcome → event.what ≡ w
    → RowOf modes end event w outcome
row_at modes end event outcome w step room e =
    subst (RowOf modes end event w) (sym (row_taken end step.row outcome step.limited room))
    (subst (λ (x : What). RowOf modes end event x step.row) e step.decided)

-- the journal isn't full, or has room for any effect
abbrev pub IsRoomy : End → Outcome → Type 0
IsRoomy end outcome = (IsFull outcome.reply → ⊥) ⊎ HasRoomForOne end

-- so it can write a small record
pub can_write : (modes : List Mode) (end : End) (event : Event) (outcome : Outcome) (w : What) (step : Step modes end event outcome)
    → IsRoomy end outcome → event.what ≡ w → (RowOf modes end event w step.row → IsSmall step.row.effects)
    → CanWrite end step.row outcome
can_write modes end event outcome w step (inl roomy) e small = inl roomy
can_write modes end event outcome w step (inr room) e small =
    inr (room, small (subst (λ (x : What). RowOf modes end event x step.row) e step.decided))

-- the case of a match that is taken
pub at_some : {X : Type 0} (P : Type 0) (Q : X → Type 0) (o : Option X) (x : X) → o ≡ Some x → MatchOption o P Q → Q x
at_some P Q o x e m = subst (λ p. MatchOption p P Q) e m

pub at_any : {X : Type 0} (P : Type 0) (Q : X → Type 0) (o : Option X) → IsSome o → MatchOption o P Q → (x : X) × Q x
at_any P Q None some m = absurd cc
at_any P Q (Some x) some m = (x, m)

pub at_bool : (P Q : Type 0) (b c : Bool) → b ≡ c → MatchBool b P Q → MatchBool c P Q
at_bool P Q b c e m = subst (λ a. MatchBool a P Q) e m

-- one effect
gives_after : (e : Effect) (r : Reply) (end : End) (outcome : Outcome) (R : End → Type 0) → Gives e r outcome
    → R (applied (e ∷ []) end) → R (applied outcome.effects end)
gives_after e r end outcome R h there = subst (λ (o : Outcome). R (applied o.effects end)) (sym h) there

-- a number equals itself
own_number : (n : ℕ) → (n == n) ≡ true
own_number n = grind (arith, nat_tests)

-- the submission of a number, changed
changed_has : (sent : List Sent) (s : Sent) (change : Sent → Sent) → Has sent s
    → Has (changed s.submission.number change sent) (change s)
unfolding changed
changed_has sent s change h =
    subst (Has (changed s.submission.number change sent)) (ap (λ (b : Bool). if b then change s else s) (own_number s.submission.number))
    (had_mapped (λ (t : Sent). if t.submission.number == s.submission.number then change t else t) sent s h)

-- it is there, and has no receipt yet
abbrev pub IsPendingAt : Submission → End → Type 0
IsPendingAt u end = (t : Sent) × Has end.sent t × (t.submission ≡ u) × (is_pending t ≡ true)

-- it is pending there, and its message is sent
pub record IsOut (s : Sent) (outcome : Outcome) (end : End) : Type 0 where
  pub sent : sends outcome.reply ≡ message_of s.submission ∷ []
  pub pends : IsPendingAt s.submission end

-- a head that is sent is pending
tried_out : (q : Queue) (end : End) (s : Sent) (r : Reply) (outcome : Outcome) → head_of q end ≡ Some s
    → sends r ≡ message_of s.submission ∷ [] → Gives (effect.Tried s.submission.number) r outcome
    → IsOut s outcome (applied outcome.effects end)
unfolding applied after
tried_out q end s r outcome head says h =
    let there = head_has q end s head in
    record {
      sent = ap (λ (o : Outcome). sends o.reply) h ∙ says;
      pends = gives_after (effect.Tried s.submission.number) r end outcome (IsPendingAt s.submission) h
          (tried end.moment s, changed_has end.sent s (tried end.moment) there.0, refl, and_left _ _ there.1);
    }

-- the row of a pull request
pull_row : (act : Act) (end : End) (signal : Signal) (mpc : List ℕ) → Step act.modes end act.event act.outcome → IsRoomy end act.outcome
    → act.event.what ≡ what.Came (message.Signal signal) → signal.body ≡ body.Pull mpc
    → PullComes act.modes end act.event signal.id mpc act.outcome
pull_row act end signal mpc step room came pull =
    subst (λ (b : SignalBody). SignalComes act.modes end act.event signal.id signal.ref_to b act.outcome) pull
    (row_at act.modes end act.event act.outcome (what.Came (message.Signal signal)) step
    (can_write act.modes end act.event act.outcome (what.Came (message.Signal signal)) step room came small) came)
  where
    small : SignalComes act.modes end act.event signal.id signal.ref_to signal.body step.row → IsSmall step.row.effects
    small row = pull_small act.modes end act.event signal.id mpc step.row
        (subst (λ (b : SignalBody). SignalComes act.modes end act.event signal.id signal.ref_to b step.row) pull row)

-- this row sends the head of the channel
pull_out : (modes : List Mode) (end : End) (event : Event) (id mpc : List ℕ) (outcome : Outcome) (s : Sent) → PullComes modes end event id mpc outcome
    → IsSome (channel_mode modes mpc) → head_of (queue.Channel mpc) end ≡ Some s → IsOut s outcome (applied outcome.effects end)
unfolding PullComes
pull_out modes end event id mpc outcome s row named head =
    let served = at_any _ _ (channel_mode modes mpc) named row in
    tried_out (queue.Channel mpc) end s _ outcome head refl (at_some _ _ (head_of (queue.Channel mpc) end) s head served.1)

-- the row of a pair
pair_row : (act : Act) (end : End) (pair : Pair) → Step act.modes end act.event act.outcome → IsRoomy end act.outcome
    → act.event.what ≡ what.Came (message.Pair pair) → PairComes act.modes end act.event pair.receipt pair.pull act.outcome
pair_row act end pair step room came =
    row_at act.modes end act.event act.outcome (what.Came (message.Pair pair)) step
    (can_write act.modes end act.event act.outcome (what.Came (message.Pair pair)) step room came (pair_small act.modes end act.event pair step.row)) came

-- a pull request asks for it
pulled_out : (act : Act) (end : End) (s : Sent) (signal : Signal) → Step act.modes end act.event act.outcome → IsRoomy end act.outcome
    → act.event.what ≡ what.Came (message.Signal signal) → IsPulled s act.modes signal end → IsOut s act.outcome (applied act.outcome.effects end)
pulled_out act end s signal step room came p =
    pull_out act.modes end act.event signal.id p.0 act.outcome s (pull_row act end signal p.0 step room came p.1) p.2 p.3

-- the pull request of a pair asks for it, at the endpoint after the receipt
behind_out : (modes : List Mode) (end : End) (event : Event) (pair : Pair) (mpc : List ℕ) (t s : Sent) (outcome : Outcome)
    → IsBehind modes end event pair.pull mpc t outcome → IsSome (channel_mode modes mpc) → head_of (queue.Channel mpc) (behind_receipt t end) ≡ Some s
    → IsOut s outcome (applied outcome.effects end)
unfolding applied
behind_out modes end event pair mpc t s outcome b named head =
    subst (λ (o : Outcome). IsOut s o (applied o.effects end)) (sym b.is) (record {
      sent = out.sent;
      pends = subst (λ (sent : List Sent). (u : Sent) × Has sent u × (u.submission ≡ s.submission) × (is_pending u ≡ true))
          (longer b.pulled.effects mid).sent out.pends;
    })
  where
    mid : End
    mid = after (effect.Receipted t.submission.number) end

    out : IsOut s b.pulled (applied b.pulled.effects mid)
    out = pull_out modes mid event pair.pull.id mpc b.pulled s b.row named
        (ap (λ (at : Bool). head_of (queue.Channel mpc) (if at then mid else end)) (sym b.pending) ∙ head)

pair_out : (act : Act) (end : End) (s : Sent) (pair : Pair) → Step act.modes end act.event act.outcome → IsRoomy end act.outcome
    → act.event.what ≡ what.Came (message.Pair pair) → (t : Sent) → IsReceiptAt t pair.receipt end
    → IsPulled s act.modes pair.pull (behind_receipt t end) → IsOut s act.outcome (applied act.outcome.effects end)
pair_out act end s pair step room came t of p =
    let served = pair_served act.modes end act.event pair act.outcome t (pair_row act end pair step room came) of named in
    let same : body.Pull served.0 ≡ body.Pull p.0 = sym served.1 ∙ p.1 in
    let mpc : served.0 ≡ p.0 = cc in
    by_row (subst (λ m. IsAlone act.modes end act.event pair.pull m t act.outcome ⊎ IsBehind act.modes end act.event pair.pull m t act.outcome) mpc served.2)
  where
    some_named : (o : Option Mode) → IsSome o → is_some o ≡ true
    some_named None some = absurd cc
    some_named (Some mode) some = refl

    named : IsTrue (names_channel act.modes pair.pull.body)
    named = ap (names_channel act.modes) p.1 ∙ some_named (channel_mode act.modes p.0) p.2

    by_row : IsAlone act.modes end act.event pair.pull p.0 t act.outcome ⊎ IsBehind act.modes end act.event pair.pull p.0 t act.outcome
        → IsOut s act.outcome (applied act.outcome.effects end)
    by_row (inl a) = pull_out act.modes end act.event pair.pull.id p.0 act.outcome s a.row p.2
        (ap (λ (at : Bool). head_of (queue.Channel p.0) (if at then after (effect.Receipted t.submission.number) end else end)) (sym a.settled) ∙ p.3)
    by_row (inr b) = behind_out act.modes end act.event pair p.0 t s act.outcome b p.2 p.3

-- a message that is asked for is sent
pub out_sends : (act : Act) (end : End) (s : Sent) → Step act.modes end act.event act.outcome → IsRoomy end act.outcome
    → IsAskedFor s act end
    → IsOut s act.outcome (applied act.outcome.effects end)
unfolding Takes
out_sends act end s step room (inl taken) =
    let row : Takes end act.outcome = row_at act.modes end act.event act.outcome what.Take step
    (can_write act.modes end act.event act.outcome what.Take step room taken.0 (takes_small end step.row)) taken.0 in
    tried_out queue.Push end s _ act.outcome taken.1 refl (at_some _ _ (head_of queue.Push end) s taken.1 row)
out_sends act end s step room (inr (inl pulled)) = pulled_out act end s pulled.0 step room pulled.1 pulled.2
out_sends act end s step room (inr (inr paired)) = pair_out act end s paired.0 step room paired.1 paired.2.0 paired.2.1 paired.2.2

-- the message is in the inbox, and its receipt is sent
pub record IsDelivered (s : Sent) (r : Reply) (end : End) : Type 0 where
  pub signal : Signal
  pub answers : r ≡ reply.Answer (message.Signal signal)
  pub refers : signal.ref_to ≡ Some s.submission.header.id
  pub copies : signal.body ≡ body.Receipt (Some s.submission.header)
  pub stands : StandsIn s end

-- a message that is received is delivered and receipted; if it was received before, it is receipted again
pub over_delivers : (act : Act) (end : End) (s : Sent) → Step act.modes end act.event act.outcome → IsRoomy end act.outcome
    → act.event.what ≡ what.Came (message_of s.submission) → IsSome (mode_of act.modes s.submission.header)
    → (is_known s.submission.header.id end.inbox ≡ true → StandsIn s end)
    → IsDelivered s act.outcome.reply (applied act.outcome.effects end)
unfolding UserComes applied after
over_delivers act end s step room came mode before = by_bool _ _ _ (is_known u.header.id end.inbox) served.1 known delivered
  where
    u : Submission
    u = s.submission

    row : UserComes act.modes end act.event u.header u.payloads act.outcome
    row = row_at act.modes end act.event act.outcome (what.Came (message_of u)) step
        (can_write act.modes end act.event act.outcome (what.Came (message_of u)) step room came
        (user_small act.modes end act.event u.header u.payloads step.row)) came

    served : (m : Mode) × MatchBool (is_known u.header.id end.inbox) (Receipts u.header [] act.event act.outcome) (Delivers act.event u.header u.payloads act.outcome)
    served = at_any _ _ (mode_of act.modes u.header) mode row

    known : is_known u.header.id end.inbox ≡ true → Receipts u.header [] act.event act.outcome
        → IsDelivered s act.outcome.reply (applied act.outcome.effects end)
    known there a = record {
      signal = a.0;
      answers = ap (λ (o : Outcome). o.reply) a.2;
      refers = a.1.refers;
      copies = a.1.copies;
      stands = subst (λ (o : Outcome). StandsIn s (applied o.effects end)) (sym a.2) (before there);
    }

    delivered : is_known u.header.id end.inbox ≡ false → Delivers act.event u.header u.payloads act.outcome
        → IsDelivered s act.outcome.reply (applied act.outcome.effects end)
    delivered new d =
        let entry : InboxEntry = record { header = d.0.header; payloads = d.0.payloads } in
        record {
          signal = d.3.0;
          answers = ap (λ (o : Outcome). o.reply) d.3.2;
          refers = d.3.1.refers;
          copies = d.3.1.copies;
          stands = gives_after (effect.Delivered d.0) _ end act.outcome (StandsIn s) d.3.2
              (length end.inbox, entry, got_last end.inbox entry, record { header = d.1; payloads = λ k. d.2 });
        }

-- the row of a receipt
receipt_row : (act : Act) (end : End) (signal : Signal) (copy : Option UserHeader) → Step act.modes end act.event act.outcome
    → IsRoomy end act.outcome → act.event.what ≡ what.Came (message.Signal signal) → signal.body ≡ body.Receipt copy
    → ReceiptComes end act.event signal.id signal.ref_to copy act.outcome
receipt_row act end signal copy step room came receipt =
    subst (λ (b : SignalBody). SignalComes act.modes end act.event signal.id signal.ref_to b act.outcome) receipt
    (row_at act.modes end act.event act.outcome (what.Came (message.Signal signal)) step
    (can_write act.modes end act.event act.outcome (what.Came (message.Signal signal)) step room came small) came)
  where
    small : SignalComes act.modes end act.event signal.id signal.ref_to signal.body step.row → IsSmall step.row.effects
    small row = receipt_small end act.event signal.id signal.ref_to copy step.row
        (subst (λ (b : SignalBody). SignalComes act.modes end act.event signal.id signal.ref_to b step.row) receipt row)

-- the receipt for a pending submission settles it, if received alone
back_alone : (act : Act) (end : End) (t : Sent) (signal : Signal) (copy : Option UserHeader) → Step act.modes end act.event act.outcome
    → IsRoomy end act.outcome
    → act.event.what ≡ what.Came (message.Signal signal) → signal.ref_to ≡ Some t.submission.header.id
    → signal.body ≡ body.Receipt copy → (IsOther copy t.submission.header → ⊥)
    → AreNumberedFrom 0 end.sent → Has end.sent t → is_pending t ≡ true
    → Has (applied act.outcome.effects end).sent (marked mark.Receipted t)
unfolding ReceiptComes applied after
back_alone act end t signal copy step room came refers receipt own_copy numbered h pending =
    let row : ReceiptComes end act.event signal.id signal.ref_to copy act.outcome = receipt_row act end signal copy step room came receipt in
    let found : option_and_then (λ ref. sent_of ref end.sent) signal.ref_to ≡ Some t =
    ap (option_and_then (λ ref. sent_of ref end.sent)) refers ∙ sent_of_own end.sent t numbered h in
    own (at_some _ _ (option_and_then (λ ref. sent_of ref end.sent) signal.ref_to) t found row)
  where
    settled : Settles t act.outcome → Has (applied act.outcome.effects end).sent (marked mark.Receipted t)
    settled k =
        gives_after (effect.Receipted t.submission.number) reply.Quiet end act.outcome (λ (new : End). Has new.sent (marked mark.Receipted t))
        (at_bool _ _ (is_pending t) true pending k) (changed_has end.sent t (marked mark.Receipted) h)

    own : (IsOther copy t.submission.header × Errs 302 signal.id act.event act.outcome)
        ⊎ ((IsOther copy t.submission.header → ⊥) × Settles t act.outcome)
        → Has (applied act.outcome.effects end).sent (marked mark.Receipted t)
    own (inl other) = absurd (own_copy other.0)
    own (inr k) = settled k.1

-- if received in a pair
back_paired : (act : Act) (end : End) (t : Sent) (pair : Pair) (copy : Option UserHeader) → Step act.modes end act.event act.outcome
    → IsRoomy end act.outcome → act.event.what ≡ what.Came (message.Pair pair) → IsTrue (names_channel act.modes pair.pull.body)
    → pair.receipt.ref_to ≡ Some t.submission.header.id → pair.receipt.body ≡ body.Receipt copy
    → (IsOther copy t.submission.header → ⊥) → AreNumberedFrom 0 end.sent → Has end.sent t → is_pending t ≡ true
    → Has (applied act.outcome.effects end).sent (marked mark.Receipted t)
unfolding applied after
back_paired act end t pair copy step room came named refers receipt own_copy numbered h pending =
    by_row (pair_served act.modes end act.event pair act.outcome t (pair_row act end pair step room came) of named)
  where
    of : IsReceiptAt t pair.receipt end
    of = record {
      copy = copy;
      receipt = receipt;
      names = ap (option_and_then (λ ref. sent_of ref end.sent)) refers ∙ sent_of_own end.sent t numbered h;
      own = own_copy;
    }

    settled : (mpc : List ℕ) (b : IsBehind act.modes end act.event pair.pull mpc t act.outcome)
        → Has (applied act.outcome.effects end).sent (marked mark.Receipted t)
    settled mpc b =
        let goes = pulls_behind act.modes end act.event pair mpc t act.outcome numbered of b in
        subst (λ (o : Outcome). Has (applied o.effects end).sent (marked mark.Receipted t)) (sym b.is)
        (goes.1.sent.settled (marked mark.Receipted t) (changed_has end.sent t (marked mark.Receipted) h) refl)

    by_row : (mpc : List ℕ) × (pair.pull.body ≡ body.Pull mpc)
        × (IsAlone act.modes end act.event pair.pull mpc t act.outcome ⊎ IsBehind act.modes end act.event pair.pull mpc t act.outcome)
        → Has (applied act.outcome.effects end).sent (marked mark.Receipted t)
    by_row served = elim served.2 [
      | inl a ↦ absurd (let no_one : false ≡ true = sym a.settled ∙ pending in cc)
      | inr b ↦ settled served.0 b
    ]

-- in either case
brought_either : (modes : List Mode) (w : What) (signal : Signal) → BringsSignal modes w signal
    → (w ≡ what.Came (message.Signal signal))
    ⊎ ((pair : Pair) × (w ≡ what.Came (message.Pair pair)) × (pair.receipt ≡ signal) × IsTrue (names_channel modes pair.pull.body))
brought_either modes (what.Came (message.Signal came)) signal e = inl (ap (λ (s : Signal). what.Came (message.Signal s)) e)
brought_either modes (what.Came (message.Pair pair)) signal h = inr (pair, refl, h.0, h.1)
brought_either modes (what.Came (message.User header payloads)) signal h = absurd h
brought_either modes (what.Submit mode conversation loads) signal h = absurd h
brought_either modes what.Tick signal h = absurd h
brought_either modes what.Take signal h = absurd h
brought_either modes (what.Ask mode) signal h = absurd h
brought_either modes (what.AskWith mode n) signal h = absurd h
brought_either modes (what.Read n) signal h = absurd h
brought_either modes (what.Confirm upto) signal h = absurd h
brought_either modes (what.Status id) signal h = absurd h

pub back_settles : (act : Act) (end : End) (t : Sent) (signal : Signal) (copy : Option UserHeader) → Step act.modes end act.event act.outcome
    → IsRoomy end act.outcome
    → BringsSignal act.modes act.event.what signal → signal.ref_to ≡ Some t.submission.header.id
    → signal.body ≡ body.Receipt copy → (IsOther copy t.submission.header → ⊥)
    → AreNumberedFrom 0 end.sent → Has end.sent t → is_pending t ≡ true
    → Has (applied act.outcome.effects end).sent (marked mark.Receipted t)
back_settles act end t signal copy step room brought refers receipt own_copy numbered h pending =
    elim (brought_either act.modes act.event.what signal brought) [
      | inl came ↦ back_alone act end t signal copy step room came refers receipt own_copy numbered h pending
      | inr p ↦ back_paired act end t p.0 copy step room p.1 p.3 (ap (λ (s : Signal). s.ref_to) p.2 ∙ refers)
          (ap (λ (s : Signal). s.body) p.2 ∙ receipt) own_copy numbered h pending
    ]

-- What a relaying leaves: each chain goes on, and unless a message was relayed the state of the endpoint is as before.
use Rattle.std.proofs.Common.{◌≡◌, ℕ, inl, inr, List, Bool, true, Result, Ok, Err, is_some, length, refl, sym, ap, ◌∙◌, subst}
use Rattle.as4_disk.specs.declared.disk.Disk.{Ghosts as DiskMeaning}
use Rattle.as4_flow.specs.Flow.{Told}
use Rattle.as4_values.specs.declared.header.UserHeader.{UserHeader}
use Rattle.as4_values.specs.declared.payload.Payload.{Payload}
use Rattle.exchange_model.specs.End.{End}
use Rattle.exchange_model.specs.Table.{Step}
use Rattle.exchange_model.specs.declared.reply.Reply.{Reply}
use Rattle.exchange_model.specs.declared.reply.Reply.TheVariants as reply
use Rattle.exchange_model.specs.declared.what.What.TheVariants as what
use Rattle.hub_laws.proofs.GoingOnLemmas.{goes_on_relaying, goes_on_resting, relays_read}
use Rattle.hub_laws.specs.Chain.{Relays, loads_of}
use Rattle.hub_laws.specs.DeliveredThrough.{GoesOn}
use Rattle.office.specs.Observed.{StepWhere}
use Rattle.office.specs.State.{OfficeState}
use Rattle.office.specs.declared.call.Call.{Call}
use Rattle.office.specs.declared.fault.OfficeFault.{OfficeFault}
use Rattle.pass_book.specs.States.{PassState}
use Rattle.as4_hub.specs.Relaying.{IsSameUnless, IsStepped, RelaysOnwards, Submits, TellsSecond, FollowsRead}
use Rattle.as4_hub.specs.declared.ended.RelayEnd.{RelayEnd}
use Rattle.as4_hub.specs.declared.ended.RelayEnd.TheVariants as ended
use Rattle.as4_hub.proofs.StepLemmas.{first_end, second_end, submit_step}

-- nothing has changed
same_by : (end : RelayEnd) (old new : End) → new ≡ old → IsSameUnless end old new
same_by (ended.Relayed number id) old new same = tt
same_by other old new same = same

pub same_goes : (old new : End) → new ≡ old → GoesOn old new
same_goes old new same = subst (GoesOn old) (sym same) (goes_on_resting old)

module _ (D : Type 0) (M : DiskMeaning D) (old middle new : OfficeState D) (pass seen passed : PassState Call) (mode : List ℕ) (stamp nonce : ℕ) (end : RelayEnd) where
  -- the submission
  second_same : (header : UserHeader) (payloads : List Payload) (answer : Result Reply OfficeFault)
      → IsStepped M middle new seen passed (what.Submit mode header.conversation (loads_of payloads)) stamp nonce answer
      → TellsSecond answer end → IsSameUnless end middle.end new.end
  second_same header payloads (Ok (reply.Submitted number id)) step tells =
      subst (λ (e : RelayEnd). IsSameUnless e middle.end new.end) (sym tells) tt
  second_same header payloads other step tells =
      same_by end middle.end new.end
      (second_end D M middle new seen passed step.event other mode header.conversation (loads_of payloads) step.handled step.asked (λ number id told. cc))

  second_goes : (header : UserHeader) (payloads : List Payload) (answer : Result Reply OfficeFault)
      → IsStepped M middle new seen passed (what.Submit mode header.conversation (loads_of payloads)) stamp nonce answer
      → Relays middle.end header.conversation (loads_of payloads) → GoesOn middle.end new.end
  second_goes header payloads (Ok r) step relays =
      let replies = step.handled.answer in
      let made = submit_step (is_some (M.seen middle.disk)) middle.modes middle.end step.event replies.outcome mode header.conversation (loads_of payloads) replies.step step.asked in
      subst (GoesOn middle.end) (sym replies.end)
      (goes_on_relaying middle.modes middle.end step.event replies.outcome mode header.conversation (loads_of payloads) made step.asked relays)
  second_goes header payloads (Err e) step relays =
      same_goes middle.end new.end
      (second_end D M middle new seen passed step.event (Err e) mode header.conversation (loads_of payloads) step.handled step.asked (λ number id told. cc))

  submits_same : (header : UserHeader) (payloads : List Payload) → Submits M middle new seen passed mode stamp nonce header payloads end
      → IsSameUnless end middle.end new.end
  submits_same header payloads (inl submitted) = second_same header payloads submitted.answer submitted.step submitted.tells
  submits_same header payloads (inr none) = same_by end middle.end new.end (ap (λ (o : OfficeState D). o.end) none.1.office)

  submits_goes : (header : UserHeader) (payloads : List Payload) → Submits M middle new seen passed mode stamp nonce header payloads end
      → Relays middle.end header.conversation (loads_of payloads) → GoesOn middle.end new.end
  submits_goes header payloads (inl submitted) relays = second_goes header payloads submitted.answer submitted.step relays
  submits_goes header payloads (inr none) relays = same_goes middle.end new.end (ap (λ (o : OfficeState D). o.end) none.1.office)

  -- after the `Read`
  then_same : (answer : Result Reply OfficeFault) → FollowsRead M middle new seen passed mode stamp nonce answer end
      → IsSameUnless end middle.end new.end
  then_same (Ok (reply.Entry header payloads)) rest = submits_same header payloads rest
  then_same (Ok reply.NoEntry) rest = same_by end middle.end new.end (ap (λ (o : OfficeState D). o.end) rest.1.office)
  then_same (Ok reply.Gone) rest = same_by end middle.end new.end (ap (λ (o : OfficeState D). o.end) rest.1.office)
  then_same (Ok other) rest = absurd rest
  then_same (Err e) rest = same_by end middle.end new.end (ap (λ (o : OfficeState D). o.end) rest.1.office)

  then_goes : (answer : Result Reply OfficeFault) → FollowsRead M middle new seen passed mode stamp nonce answer end
      → ((header : UserHeader) (payloads : List Payload) → answer ≡ Ok (reply.Entry header payloads)
      → Relays middle.end header.conversation (loads_of payloads))
      → GoesOn middle.end new.end
  then_goes (Ok (reply.Entry header payloads)) rest relays = submits_goes header payloads rest (relays header payloads refl)
  then_goes (Ok reply.NoEntry) rest relays = same_goes middle.end new.end (ap (λ (o : OfficeState D). o.end) rest.1.office)
  then_goes (Ok reply.Gone) rest relays = same_goes middle.end new.end (ap (λ (o : OfficeState D). o.end) rest.1.office)
  then_goes (Ok other) rest relays = absurd rest
  then_goes (Err e) rest relays = same_goes middle.end new.end (ap (λ (o : OfficeState D). o.end) rest.1.office)

  -- what is read where the disk is observable
  pub read_relays : (answer : Result Reply OfficeFault) → IsStepped M old middle pass seen (what.Read (length old.end.sent)) stamp nonce answer
      → is_some (M.seen old.disk) ≡ true → (header : UserHeader) (payloads : List Payload) → answer ≡ Ok (reply.Entry header payloads)
      → Relays old.end header.conversation (loads_of payloads)
  read_relays (Ok r) step observable header payloads told =
      let replies = step.handled.answer in
      let made : Step old.modes old.end step.event replies.outcome = subst (λ (b : Bool). StepWhere b old.modes old.end step.event replies.outcome) observable replies.step in
      let same : r ≡ reply.Entry header payloads = cc in
      relays_read old.modes old.end step.event replies.outcome header payloads made step.asked (sym replies.reply ∙ same)
  read_relays (Err e) step observable header payloads told = absurd cc

module _ (D : Type 0) (M : DiskMeaning D) (old new : OfficeState D) (pass passed : PassState Call) (mode : List ℕ) (stamp nonce : ℕ) (end : RelayEnd) where
  pub relayed_same : RelaysOnwards M old new pass passed mode stamp nonce end → IsSameUnless end old.end new.end
  relayed_same relays =
      subst (λ (e : End). IsSameUnless end e new.end)
      (first_end D M old relays.middle pass relays.pass_middle relays.read.event relays.answer (length old.end.sent) relays.read.handled relays.read.asked)
      (then_same D M old relays.middle new pass relays.pass_middle passed mode stamp nonce end relays.answer relays.rest)

  pub relayed_goes : RelaysOnwards M old new pass passed mode stamp nonce end → Told (M.seen old.disk) (λ _. GoesOn old.end new.end)
  relayed_goes relays v told =
      subst (λ (e : End). GoesOn e new.end) same
      (then_goes D M old relays.middle new pass relays.pass_middle passed mode stamp nonce end relays.answer relays.rest
      (λ header payloads said. subst (λ (e : End). Relays e header.conversation (loads_of payloads)) (sym same)
      (read_relays D M old relays.middle new pass relays.pass_middle passed mode stamp nonce end relays.answer relays.read (ap is_some told) header payloads said)))
    where
      same : relays.middle.end ≡ old.end
      same = first_end D M old relays.middle pass relays.pass_middle relays.read.event relays.answer (length old.end.sent) relays.read.handled relays.read.asked

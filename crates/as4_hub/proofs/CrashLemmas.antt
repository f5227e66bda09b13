-- What a crash leaves while a message is relayed: a disk at an endpoint to which each chain goes on.
use Rattle.std.proofs.Common.{◌≡◌, ℕ, inl, inr, List, true, Option, Some, None, Result, Ok, Err, is_some, length, refl, sym, ap, ◌∙◌, subst, arith}
use Rattle.as4_disk.specs.Image.{Image}
use Rattle.as4_disk.specs.Leaving.{LeavesOnly}
use Rattle.as4_disk.specs.declared.disk.Disk.{Ghosts as DiskMeaning}
use Rattle.as4_flow.specs.Flow.{Told}
use Rattle.as4_values.specs.declared.header.UserHeader.{UserHeader}
use Rattle.as4_values.specs.declared.payload.Payload.{Payload}
use Rattle.mode_values.specs.declared.mode.Mode.{Mode}
use Rattle.exchange_model.specs.End.{End}
use Rattle.exchange_model.specs.declared.event.Event.{Event}
use Rattle.exchange_model.specs.declared.reply.Reply.{Reply}
use Rattle.exchange_model.specs.declared.reply.Reply.TheVariants as reply
use Rattle.exchange_model.specs.declared.what.What.TheVariants as what
use Rattle.hub_laws.proofs.GoingOnLemmas.{goes_on_relaying}
use Rattle.hub_laws.specs.Chain.{Relays, loads_of}
use Rattle.hub_laws.specs.DeliveredThrough.{GoesOn}
use Rattle.msh_recovery.specs.Opens.{IsAtWith}
use Rattle.office.proofs.CallLemmas.{stop_more}
use Rattle.office.specs.Calls.{stop_of}
use Rattle.office.specs.Left.{IsStepTo, OpensBeforeOrAfter}
use Rattle.office.specs.State.{OfficeState}
use Rattle.office.specs.declared.call.Call.{Call}
use Rattle.office.specs.declared.call.Call.TheVariants.{Done}
use Rattle.office.specs.declared.fault.OfficeFault.{OfficeFault}
use Rattle.pass_book.specs.States.{PassState}
use Rattle.as4_hub.specs.Relaying.{DoesNoMore, IsStepped, OpensOn, RelaysOnwards, Submits, FollowsRead}
use Rattle.as4_hub.specs.declared.ended.RelayEnd.{RelayEnd}
use Rattle.as4_hub.proofs.RelayLemmas.{read_relays, same_goes}
use Rattle.as4_hub.proofs.StepLemmas.{first_end, none_applied, replies_first}

-- a value that is there
some_of : {X : Type 0} (o : Option X) → is_some o ≡ true → (x : X) × (o ≡ Some x)
some_of None there = absurd cc
some_of (Some x) there = (x, refl)

-- what may be pending leads to more
opens_map : (image : Image) (end : End) (P Q : End → Type 0) → ((next : End) → P next → Q next) → IsAtWith image end P → IsAtWith image end Q
opens_map image end P Q f at = (
  (
    at.0.0,
    record {
      records = at.0.1.records;
      leads = at.0.1.leads;
      pending = λ body has. let next = at.0.1.pending body has in (next.0, next.1, f next.0 next.2);
    },
  ),
  at.1,
)

-- a step by which each chain goes on
opens_on : (modes : List Mode) (end : End) (event : Event) (image : Image) → ((next : End) → IsStepTo modes end event next → GoesOn end next)
    → OpensBeforeOrAfter modes end event image → OpensOn end image
opens_on modes end event image f (inl at) = inl (opens_map image end (IsStepTo modes end event) (GoesOn end) f at)
opens_on modes end event image f (inr next) = inr (next.0, f next.0 next.1, next.2)

-- a `Read` changes nothing, and a `Submit` of what was read relays it
read_on : (modes : List Mode) (end : End) (event : Event) (n : ℕ) → event.what ≡ what.Read n → (next : End) → IsStepTo modes end event next
    → GoesOn end next
read_on modes end event n asked next step =
    same_goes end next (step.2 ∙ none_applied step.0.effects end (replies_first true modes end event step.0 n step.1 asked).rests)

submit_on : (modes : List Mode) (end : End) (event : Event) (mode : List ℕ) (header : UserHeader) (payloads : List Payload)
    → event.what ≡ what.Submit mode header.conversation (loads_of payloads) → Relays end header.conversation (loads_of payloads)
    → (next : End) → IsStepTo modes end event next → GoesOn end next
submit_on modes end event mode header payloads asked relays next step =
    subst (GoesOn end) (sym step.2) (goes_on_relaying modes end event step.0 mode header.conversation (loads_of payloads) step.1 asked relays)

module _ (D : Type 0) (M : DiskMeaning D) where
  leaves_map : (old new : D) (P Q : Image → Type 0) → ((c : Image) → P c → Q c) → LeavesOnly M old new P → LeavesOnly M old new Q
  leaves_map old new P Q f leaves = record {
    later = leaves.later;
    each = λ c left. f c (leaves.each c left);
    before = λ t c early left. elim (leaves.before t c early left) [ inl earlier ↦ inl earlier | inr here ↦ inr (f c here) ];
  }

  -- two runs after each other
  leaves_both : (old middle new : D) (P : Image → Type 0) → LeavesOnly M old middle P → LeavesOnly M middle new P → LeavesOnly M old new P
  leaves_both old middle new P first second = record {
    later = omega (arith, first.later, second.later);
    each = λ c left. elim (second.before (M.moment old) c first.later left) [ inl earlier ↦ first.each c earlier | inr here ↦ here ];
    before = λ t c early left. elim (second.before t c (omega (arith, first.later, early)) left) [
      | inl earlier ↦ first.before t c early earlier
      | inr here ↦ inr here
    ];
  }

module _ (D : Type 0) (M : DiskMeaning D) (old middle new : OfficeState D) (pass seen passed : PassState Call) (mode : List ℕ) (stamp nonce : ℕ) (end : RelayEnd) where
  first_on : (answer : Result Reply OfficeFault) → IsStepped M old middle pass seen (what.Read (length old.end.sent)) stamp nonce answer
      → stop_of old.list ≡ None → Told (M.seen old.disk) (λ _. LeavesOnly M old.disk middle.disk (OpensOn old.end))
  first_on answer step going v told =
      leaves_map D M old.disk middle.disk (OpensBeforeOrAfter old.modes old.end step.event) (OpensOn old.end)
      (λ c. opens_on old.modes old.end step.event c (read_on old.modes old.end step.event (length old.end.sent) step.asked))
      (step.handled.any_moment going v told)

  second_on : (header : UserHeader) (payloads : List Payload) (answer : Result Reply OfficeFault)
      → IsStepped M middle new seen passed (what.Submit mode header.conversation (loads_of payloads)) stamp nonce answer
      → stop_of middle.list ≡ None → is_some (M.seen middle.disk) ≡ true → Relays middle.end header.conversation (loads_of payloads)
      → LeavesOnly M middle.disk new.disk (OpensOn middle.end)
  second_on header payloads answer step going observable relays =
      let content = some_of (M.seen middle.disk) observable in
      leaves_map D M middle.disk new.disk (OpensBeforeOrAfter middle.modes middle.end step.event) (OpensOn middle.end)
      (λ c. opens_on middle.modes middle.end step.event c (submit_on middle.modes middle.end step.event mode header payloads step.asked relays))
      (step.handled.any_moment going content.0 content.1)

  no_more_on : LeavesOnly M old.disk middle.disk (OpensOn old.end) → DoesNoMore middle new seen passed
      → LeavesOnly M old.disk new.disk (OpensOn old.end)
  no_more_on first none = subst (λ (o : OfficeState D). LeavesOnly M old.disk o.disk (OpensOn old.end)) (sym none.office) first

  -- an office that answered goes on
  still_going : (r : Reply) → IsStepped M old middle pass seen (what.Read (length old.end.sent)) stamp nonce (Ok r) → stop_of middle.list ≡ None
  still_going r step =
      ap stop_of step.handled.answer.entered.list ∙ stop_more old.list (Done step.event r) step.handled.answer.going

  submits_on : (header : UserHeader) (payloads : List Payload)
      → IsStepped M old middle pass seen (what.Read (length old.end.sent)) stamp nonce (Ok (reply.Entry header payloads))
      → is_some (M.seen old.disk) ≡ true → LeavesOnly M old.disk middle.disk (OpensOn old.end)
      → Submits M middle new seen passed mode stamp nonce header payloads end → LeavesOnly M old.disk new.disk (OpensOn old.end)
  submits_on header payloads step observable first (inl submitted) =
      leaves_both D M old.disk middle.disk new.disk (OpensOn old.end) first
      (subst (λ (e : End). LeavesOnly M middle.disk new.disk (OpensOn e)) same
      (second_on header payloads submitted.answer submitted.step (still_going (reply.Entry header payloads) step) (step.handled.keeps.tells ∙ observable)
      (subst (λ (e : End). Relays e header.conversation (loads_of payloads)) (sym same)
      (read_relays D M old middle new pass seen passed mode stamp nonce end (Ok (reply.Entry header payloads)) step observable header payloads refl))))
    where
      same : middle.end ≡ old.end
      same = first_end D M old middle pass seen step.event (Ok (reply.Entry header payloads)) (length old.end.sent) step.handled step.asked
  submits_on header payloads step observable first (inr none) = no_more_on first none.1

  then_on : (answer : Result Reply OfficeFault) → IsStepped M old middle pass seen (what.Read (length old.end.sent)) stamp nonce answer
      → is_some (M.seen old.disk) ≡ true → LeavesOnly M old.disk middle.disk (OpensOn old.end)
      → FollowsRead M middle new seen passed mode stamp nonce answer end → LeavesOnly M old.disk new.disk (OpensOn old.end)
  then_on (Ok (reply.Entry header payloads)) step observable first rest = submits_on header payloads step observable first rest
  then_on (Ok reply.NoEntry) step observable first rest = no_more_on first rest.1
  then_on (Ok reply.Gone) step observable first rest = no_more_on first rest.1
  then_on (Ok other) step observable first rest = absurd rest
  then_on (Err e) step observable first rest = no_more_on first rest.1

pub relayed_on : (D : Type 0) (M : DiskMeaning D) (old new : OfficeState D) (pass passed : PassState Call) (mode : List ℕ) (stamp nonce : ℕ) (end : RelayEnd)
    → RelaysOnwards M old new pass passed mode stamp nonce end → stop_of old.list ≡ None
    → Told (M.seen old.disk) (λ _. LeavesOnly M old.disk new.disk (OpensOn old.end))
relayed_on D M old new pass passed mode stamp nonce end relays going v told =
    then_on D M old relays.middle new pass relays.pass_middle passed mode stamp nonce end relays.answer relays.read (ap is_some told)
    (first_on D M old relays.middle new pass relays.pass_middle passed mode stamp nonce end relays.answer relays.read going v told) relays.rest

-- What a call of the office keeps, a relaying keeps, since it makes one call or two.
use Rattle.std.proofs.Common.{◌≡◌, ℕ, inl, inr, List, Bool, Some, None, Result, Ok, Err, is_some, sym, ap, ◌∙◌, subst, arith}
use Rattle.as4_disk.specs.declared.disk.Disk.{Ghosts as DiskMeaning}
use Rattle.as4_disk.specs.declared.fault_counts.FaultCounts.{FaultCounts}
use Rattle.as4_values.specs.declared.header.UserHeader.{UserHeader}
use Rattle.as4_values.specs.declared.payload.Payload.{Payload}
use Rattle.mode_values.specs.declared.mode.Mode.{Mode}
use Rattle.exchange_model.specs.declared.event.Event.{Event}
use Rattle.exchange_model.specs.declared.reply.Reply.{Reply}
use Rattle.exchange_model.specs.declared.reply.Reply.TheVariants as reply
use Rattle.office.proofs.CallLemmas.{stop_kept}
use Rattle.office.specs.Calls.{LeadsWhere, stop_of}
use Rattle.office.specs.State.{OfficeState}
use Rattle.office.specs.Steps.{Handles, Keeps}
use Rattle.office.specs.declared.call.Call.{Call}
use Rattle.office.specs.declared.call.Call.TheVariants.{Done}
use Rattle.office.specs.declared.fault.OfficeFault.{OfficeFault}
use Rattle.office.specs.declared.fault.OfficeFault.TheVariants as fault
use Rattle.pass_book.specs.States.{PassState}
use Rattle.as4_hub.specs.Relaying.{DoesNoMore, RelaysOnwards, Submits, FollowsRead}
use Rattle.as4_hub.specs.declared.ended.RelayEnd.{RelayEnd}

module _ (D : Type 0) (M : DiskMeaning D) where
  -- no fault is among the calls before, if none is among those after
  going_before : (old new : OfficeState D) (pass passed : PassState Call) (event : Event) (answer : Result Reply OfficeFault)
      → Handles M old new pass passed event answer → stop_of new.list ≡ None → stop_of old.list ≡ None
  going_before old new pass passed event (Ok r) handled none = handled.answer.going
  going_before old new pass passed event (Err (fault.Disk before after)) handled none = handled.answer.stops.going
  going_before old new pass passed event (Err (fault.Stopped before after)) handled none =
      let call = Done event (reply.Stopped before after) in
      let at : FaultCounts = record { before = before; after = after } in
      let still : stop_of new.list ≡ Some at =
      ap stop_of handled.answer.1.list ∙ stop_kept old.list call at handled.answer.0.stopped in
      absurd (let both : Some at ≡ None = sym still ∙ none in cc)
  going_before old new pass passed event (Err fault.Worn) handled none = sym (ap stop_of handled.answer.list) ∙ none
  going_before old new pass passed event (Err fault.NoMemory) handled none = sym (ap stop_of handled.answer.0.list) ∙ none

  -- two calls after each other
  keeps_then : (old middle new : OfficeState D) (pass seen passed : PassState Call) → Keeps M old middle pass seen → Keeps M middle new seen passed
      → (stop_of new.list ≡ None → stop_of middle.list ≡ None) → Keeps M old new pass passed
  keeps_then old middle new pass seen passed first second going = record {
    modes = second.modes ∙ first.modes;
    book = second.book ∙ first.book;
    pass_book = second.pass_book ∙ first.pass_book;
    stake = second.stake ∙ first.stake;
    legal = λ start before.
        subst (λ (modes : List Mode). LeadsWhere (is_some (M.seen old.disk)) modes start middle.list middle.end
        → LeadsWhere (is_some (M.seen old.disk)) modes start new.list new.end) first.modes
        (subst (λ (b : Bool). LeadsWhere b middle.modes start middle.list middle.end → LeadsWhere b middle.modes start new.list new.end) first.tells
        (second.legal start)) (first.legal start before);
    safe = second.safe;
    left = second.left;
    tells = second.tells ∙ first.tells;
    calm = λ none. second.calm none ∙ first.calm (going none);
    counted = omega (arith, first.counted, second.counted);
  }

  keeps_no_more : (old middle new : OfficeState D) (pass seen passed : PassState Call) → Keeps M old middle pass seen
      → DoesNoMore middle new seen passed → Keeps M old new pass passed
  keeps_no_more old middle new pass seen passed first none =
      subst (λ (o : OfficeState D). Keeps M old o pass passed) (sym none.office)
      (subst (λ (p : PassState Call). Keeps M old middle pass p) (sym none.pass) first)

  keeps_submits : (old middle new : OfficeState D) (pass seen passed : PassState Call) (mode : List ℕ) (stamp nonce : ℕ) (header : UserHeader) (payloads : List Payload) (end : RelayEnd)
      → Keeps M old middle pass seen → Submits M middle new seen passed mode stamp nonce header payloads end → Keeps M old new pass passed
  keeps_submits old middle new pass seen passed mode stamp nonce header payloads end first (inl submitted) =
      keeps_then old middle new pass seen passed first submitted.step.handled.keeps
      (going_before middle new seen passed submitted.step.event submitted.answer submitted.step.handled)
  keeps_submits old middle new pass seen passed mode stamp nonce header payloads end first (inr none) =
      keeps_no_more old middle new pass seen passed first none.1

  keeps_rest : (old middle new : OfficeState D) (pass seen passed : PassState Call) (mode : List ℕ) (stamp nonce : ℕ) (end : RelayEnd) (answer : Result Reply OfficeFault)
      → Keeps M old middle pass seen → FollowsRead M middle new seen passed mode stamp nonce answer end → Keeps M old new pass passed
  keeps_rest old middle new pass seen passed mode stamp nonce end (Ok (reply.Entry header payloads)) first rest =
      keeps_submits old middle new pass seen passed mode stamp nonce header payloads end first rest
  keeps_rest old middle new pass seen passed mode stamp nonce end (Ok reply.NoEntry) first rest = keeps_no_more old middle new pass seen passed first rest.1
  keeps_rest old middle new pass seen passed mode stamp nonce end (Ok reply.Gone) first rest = keeps_no_more old middle new pass seen passed first rest.1
  keeps_rest old middle new pass seen passed mode stamp nonce end (Ok other) first rest = absurd rest
  keeps_rest old middle new pass seen passed mode stamp nonce end (Err e) first rest = keeps_no_more old middle new pass seen passed first rest.1

  pub relayed_keeps : (old new : OfficeState D) (pass passed : PassState Call) (mode : List ℕ) (stamp nonce : ℕ) (end : RelayEnd)
      → RelaysOnwards M old new pass passed mode stamp nonce end → Keeps M old new pass passed
  relayed_keeps old new pass passed mode stamp nonce end relays =
      keeps_rest old relays.middle new pass relays.pass_middle passed mode stamp nonce end relays.answer relays.read.handled.keeps relays.rest

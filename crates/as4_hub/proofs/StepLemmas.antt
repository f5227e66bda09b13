-- One event that an office handles: what its reply is, and when the state of the endpoint stays as it was.
use Rattle.std.proofs.Common.{◌≡◌, ℕ, ◌⊎◌, inl, inr, List, [], Bool, true, false, Option, Result, Ok, Err, is_some, refl, sym, ap, ◌∙◌, subst}
use Rattle.as4_disk.specs.declared.disk.Disk.{Ghosts as DiskMeaning}
use Rattle.as4_effects.specs.declared.effect.Effect.{Effect}
use Rattle.as4_values.specs.declared.payload.Load.{Load}
use Rattle.mode_values.specs.declared.mode.Mode.{Mode}
use Rattle.exchange_model.specs.Apply.{applied}
use Rattle.exchange_model.specs.End.{End}
use Rattle.exchange_model.specs.Table.{Step, read_reply}
use Rattle.exchange_model.specs.declared.event.Event.{Event}
use Rattle.exchange_model.specs.declared.outcome.Outcome.{Outcome}
use Rattle.exchange_model.specs.declared.reply.Reply.{Reply}
use Rattle.exchange_model.specs.declared.reply.Reply.TheVariants as reply
use Rattle.exchange_model.specs.declared.what.What.TheVariants as what
use Rattle.hub_laws.proofs.GoingOnLemmas.{read_rests}
use Rattle.hub_laws.proofs.StepReplies.{read_first, replies_second}
use Rattle.hub_laws.specs.Replies.{IsFirst, IsSecond, RestsUnless}
use Rattle.msh_transitions.specs.Given.{bare_reply}
use Rattle.office.specs.Observed.{ReadsUnseen, RepliesToRead, StepWhere}
use Rattle.office.specs.State.{OfficeState}
use Rattle.office.specs.Steps.{Handles}
use Rattle.office.specs.declared.call.Call.{Call}
use Rattle.office.specs.declared.fault.OfficeFault.{OfficeFault}
use Rattle.office.specs.declared.fault.OfficeFault.TheVariants as fault
use Rattle.pass_book.specs.States.{PassState}

-- an entry without its payloads is still an entry
first_bared : (r : Reply) → IsFirst r → IsFirst (bare_reply r)
unfolding bare_reply
first_bared (reply.Entry header payloads) first = tt
first_bared other first = first

first_of_bare : (r : Reply) → IsFirst (bare_reply r) → IsFirst r
unfolding bare_reply
first_of_bare (reply.Entry header payloads) first = tt
first_of_bare other first = first

-- a `Read` changes nothing
pub record RepliesFirst (outcome : Outcome) : Type 0 where
  pub first : IsFirst outcome.reply
  pub rests : outcome.effects ≡ []

first_seen : (modes : List Mode) (end : End) (event : Event) (outcome : Outcome) (n : ℕ) → Step modes end event outcome
    → event.what ≡ what.Read n → RepliesFirst outcome
first_seen modes end event outcome n step asked =
    let rests = read_rests modes end event outcome n step asked in
    subst RepliesFirst (sym rests) (record { first = read_first end n; rests = refl })

first_unseen : (end : End) (event : Event) (outcome : Outcome) → ReadsUnseen end event outcome → RepliesFirst outcome
first_unseen end event outcome reads = record { first = told reads.reply; rests = reads.rests }
  where
    told : RepliesToRead false end reads.number outcome.reply → IsFirst outcome.reply
    told (inl same) = first_of_bare outcome.reply (subst IsFirst (sym same) (first_bared (read_reply end reads.number) (read_first end reads.number)))
    told (inr gone) = subst IsFirst (sym gone) tt

pub replies_first : (observable : Bool) (modes : List Mode) (end : End) (event : Event) (outcome : Outcome) (n : ℕ)
    → StepWhere observable modes end event outcome → event.what ≡ what.Read n → RepliesFirst outcome
replies_first true modes end event outcome n step asked = first_seen modes end event outcome n step asked
replies_first false modes end event outcome n (inl step) asked = first_seen modes end event outcome n step asked
replies_first false modes end event outcome n (inr reads) asked = first_unseen end event outcome reads

-- a `Submit` has its step, whether the disk is observable or not
pub submit_step : (observable : Bool) (modes : List Mode) (end : End) (event : Event) (outcome : Outcome)
    (name : List ℕ) (conversation : Option (List ℕ)) (loads : List Load)
    → StepWhere observable modes end event outcome → event.what ≡ what.Submit name conversation loads → Step modes end event outcome
submit_step true modes end event outcome name conversation loads step asked = step
submit_step false modes end event outcome name conversation loads (inl step) asked = step
submit_step false modes end event outcome name conversation loads (inr reads) asked =
    absurd (let both : what.Submit name conversation loads ≡ what.Read reads.number = sym asked ∙ reads.asked in cc)

-- no effects
pub none_applied : (effects : List Effect) (end : End) → effects ≡ [] → applied effects end ≡ end
unfolding applied
none_applied effects end e = ap (λ (es : List Effect). applied es end) e

pub rests_by : (r : Reply) (effects : List Effect) → RestsUnless r effects
    → (effects ≡ []) ⊎ ((number : ℕ) × (id : List ℕ) × (r ≡ reply.Submitted number id))
rests_by (reply.Submitted number id) effects rests = inr (number, id, refl)
rests_by other effects rests = inl rests

module _ (D : Type 0) (M : DiskMeaning D) (old new : OfficeState D) (pass passed : PassState Call) (event : Event) where
  -- the state stays as it was, unless the reply is that of a step with effects
  pub rests_end : (answer : Result Reply OfficeFault) → Handles M old new pass passed event answer
      → ((outcome : Outcome) → StepWhere (is_some (M.seen old.disk)) old.modes old.end event outcome → answer ≡ Ok outcome.reply → outcome.effects ≡ [])
      → new.end ≡ old.end
  rests_end (Ok r) handled none =
      handled.answer.end ∙ none_applied handled.answer.outcome.effects old.end
      (none handled.answer.outcome handled.answer.step (ap (λ (q : Reply). Ok q) handled.answer.reply))
  rests_end (Err (fault.Disk before after)) handled none = handled.answer.stops.end
  rests_end (Err (fault.Stopped before after)) handled none = handled.answer.0.end
  rests_end (Err fault.Worn) handled none = handled.answer.end
  rests_end (Err fault.NoMemory) handled none = handled.answer.0.end

  -- a `Read`
  pub first_reply : (r : Reply) (n : ℕ) → Handles M old new pass passed event (Ok r) → event.what ≡ what.Read n → IsFirst r
  first_reply r n handled asked =
      subst IsFirst (sym handled.answer.reply)
      (replies_first (is_some (M.seen old.disk)) old.modes old.end event handled.answer.outcome n handled.answer.step asked).first

  pub first_end : (answer : Result Reply OfficeFault) (n : ℕ) → Handles M old new pass passed event answer → event.what ≡ what.Read n
      → new.end ≡ old.end
  first_end answer n handled asked =
      rests_end answer handled (λ outcome step told. (replies_first (is_some (M.seen old.disk)) old.modes old.end event outcome n step asked).rests)

  -- a `Submit`
  pub second_reply : (r : Reply) (name : List ℕ) (conversation : Option (List ℕ)) (loads : List Load) → Handles M old new pass passed event (Ok r)
      → event.what ≡ what.Submit name conversation loads → IsSecond r
  second_reply r name conversation loads handled asked =
      let step = submit_step (is_some (M.seen old.disk)) old.modes old.end event handled.answer.outcome name conversation loads handled.answer.step asked in
      subst IsSecond (sym handled.answer.reply)
      (replies_second old.modes old.end event handled.answer.outcome name conversation loads step asked).second

  pub second_end : (answer : Result Reply OfficeFault) (name : List ℕ) (conversation : Option (List ℕ)) (loads : List Load)
      → Handles M old new pass passed event answer → event.what ≡ what.Submit name conversation loads
      → ((number : ℕ) (id : List ℕ) → answer ≡ Ok (reply.Submitted number id) → ⊥) → new.end ≡ old.end
  second_end answer name conversation loads handled asked other =
      rests_end answer handled none
    where
      none : (outcome : Outcome) → StepWhere (is_some (M.seen old.disk)) old.modes old.end event outcome → answer ≡ Ok outcome.reply
          → outcome.effects ≡ []
      none outcome step told =
          let is = submit_step (is_some (M.seen old.disk)) old.modes old.end event outcome name conversation loads step asked in
          let replies = replies_second old.modes old.end event outcome name conversation loads is asked in
          elim (rests_by outcome.reply outcome.effects replies.rests) [
            | inl rests ↦ rests
            | inr submitted ↦ absurd (other submitted.0 submitted.1 (told ∙ ap (λ (q : Reply). Ok q) submitted.2))
          ]

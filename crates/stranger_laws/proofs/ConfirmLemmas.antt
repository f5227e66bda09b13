-- What is reported as confirmed is confirmed.
use Rattle.std.proofs.Common.{◌≡◌, ℕ, ◌+◌, ◌<◌, ◌≤◌, inl, inr, List, [], ◌∷◌, false, length, refl, sym, ap, ◌∙◌, subst, arith}
use Rattle.std.specs.Prelude.{nat_le, nat_lt}
use Rattle.std.proofs.lemmas.Bool.Decides.{nat_tests}
use Rattle.mode_values.specs.declared.mode.Mode.{Mode}
use Rattle.exchange_model.specs.Alone.{MayHappenTo, end_after}
use Rattle.exchange_model.specs.Apply.{after, applied}
use Rattle.exchange_model.specs.End.{End}
use Rattle.exchange_model.specs.Fold.{resized}
use Rattle.exchange_model.specs.LosslessRound.{IsFull}
use Rattle.exchange_model.specs.Numbered.{AreNumberedFrom}
use Rattle.exchange_model.specs.Table.{Confirms, Step}
use Rattle.exchange_model.specs.World.{Act, Happening, Does, Folds, acts_of}
use Rattle.exchange_model.specs.declared.event.Event.{Event}
use Rattle.exchange_model.specs.declared.outcome.Outcome.{Outcome}
use Rattle.exchange_model.specs.declared.reply.Reply.TheVariants as reply
use Rattle.exchange_model.specs.declared.what.What.TheVariants as what
use Rattle.exchange_model.proofs.ListLemmas.{Has}
use Rattle.exchange_laws.proofs.OutcomeKinds.{IsPlainReply, Kind, step_kind}
use Rattle.exchange_laws.proofs.RoundLemmas.{at_bool, row_at}
use Rattle.exchange_laws.proofs.StayLemmas.{keeps_all}
use Rattle.exchange_laws.proofs.StepLemmas.{step_goes}
use Rattle.exchange_laws.proofs.ToldLemmas.{not_below}

-- an act that reports it
confirmed_step : (modes : List Mode) (end : End) (event : Event) (outcome : Outcome) (upto : ℕ) → Step modes end event outcome
    → outcome.reply ≡ reply.Confirmed upto → upto < (applied outcome.effects end).confirmed
unfolding applied after
confirmed_step modes end event outcome upto step told = by_kind (step_kind modes end event outcome step)
  where
    by_kind : Kind modes end event event.what outcome → upto < (applied outcome.effects end).confirmed
    by_kind (inl plain) = absurd (subst IsPlainReply told plain.reply)
    by_kind (inr (inl submits)) =
        absurd (let no : reply.Submitted submits.submission.number submits.submission.header.id ≡ reply.Confirmed upto =
        sym (ap (λ (o : Outcome). o.reply) submits.is) ∙ told in cc)
    by_kind (inr (inr (inl sets))) =
        absurd (let no : reply.Ticked sets.failed ≡ reply.Confirmed upto = sym (ap (λ (o : Outcome). o.reply) sets.is) ∙ told in cc)
    by_kind (inr (inr (inr confirms))) =
        let both : reply.Confirmed confirms.upto ≡ reply.Confirmed upto = sym (ap (λ (o : Outcome). o.reply) confirms.is) ∙ told in
        let same : confirms.upto ≡ upto = cc in
        subst (λ (o : Outcome). upto < (applied o.effects end).confirmed) (sym confirms.is) (omega (arith, same))

-- and stays so
pub confirmed_all : (all : List Happening) (end : End) (act : Act) (upto : ℕ) → AreNumberedFrom 0 end.sent → MayHappenTo all end
    → Has (acts_of all) act → act.outcome.reply ≡ reply.Confirmed upto → upto < (end_after all end).confirmed
confirmed_all [] end act upto numbered may there told = absurd there
confirmed_all (Does first ∷ later) end act upto numbered may there told =
    by_place (λ h. confirmed_all later new act upto goes may.1 h told) there
  where
    new : End
    new = applied first.outcome.effects end

    goes : AreNumberedFrom 0 new.sent
    goes = (step_goes first.modes end first.event first.outcome numbered may.0).sent.numbered

    by_place : (Has (acts_of later) act → upto < (end_after later new).confirmed) → Has (first ∷ acts_of later) act → upto < (end_after later new).confirmed
    by_place rest (inl same) =
        let now = confirmed_step first.modes end first.event first.outcome upto may.0 (ap (λ (a : Act). a.outcome.reply) same ∙ told) in
        omega (arith, now, (keeps_all later new goes may.1).confirmed)
    by_place rest (inr h) = rest h
confirmed_all (Folds site size ∷ later) end act upto numbered may there told =
    confirmed_all later (resized size end) act upto numbered may.1 there told

not_past : (n upto : ℕ) → upto < n → nat_le n upto ≡ false
not_past n upto less = grind (arith, nat_tests)

-- an entry that isn't confirmed yet is confirmed
pub confirms_one : (modes : List Mode) (end : End) (event : Event) (outcome : Outcome) (upto : ℕ) → Step modes end event outcome
    → event.what ≡ what.Confirm upto → end.confirmed ≤ upto → upto < length end.inbox → (IsFull outcome.reply → ⊥)
    → (outcome.reply ≡ reply.Confirmed upto) × ((applied outcome.effects end).confirmed ≡ upto + 1)
unfolding Confirms applied after
confirms_one modes end event outcome upto step asked later within roomy =
    let row : Confirms end upto outcome = row_at modes end event outcome (what.Confirm upto) step (inl roomy) asked in
    let given = at_bool _ _ (nat_le (length end.inbox) upto) false (not_past (length end.inbox) upto within)
    (at_bool _ _ (nat_lt upto end.confirmed) false (not_below upto end.confirmed later) row) in
    (ap (λ (o : Outcome). o.reply) given, subst (λ (o : Outcome). (applied o.effects end).confirmed ≡ upto + 1) (sym given) refl)

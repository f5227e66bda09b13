-- Each entry of an inbox was there before, or an act brought it.
use Rattle.std.proofs.Common.{◌≡◌, ℕ, ◌≤◌, ◌⊎◌, inl, inr, List, [], ◌∷◌, Some, refl, sym, ap, ◌∙◌, subst}
use Rattle.std.specs.Prelude.{IsSome, slice_get}
use Rattle.mode_values.specs.ModeMatch.{mode_of}
use Rattle.mode_values.specs.declared.mode.Mode.{Mode}
use Rattle.as4_values.specs.declared.header.UserHeader.{UserHeader}
use Rattle.as4_values.specs.declared.message.Message.TheVariants as message
use Rattle.as4_values.specs.declared.payload.Payload.{Payload}
use Rattle.exchange_model.specs.Alone.{MayHappenTo, end_after}
use Rattle.exchange_model.specs.Apply.{applied}
use Rattle.exchange_model.specs.End.{End}
use Rattle.exchange_model.specs.Fold.{resized}
use Rattle.exchange_model.specs.Numbered.{AreNumberedFrom}
use Rattle.exchange_model.specs.Table.{Step, UserComes}
use Rattle.exchange_model.specs.World.{Act, Happening, Does, Folds, acts_of}
use Rattle.exchange_model.specs.declared.event.Event.{Event}
use Rattle.exchange_model.specs.declared.inbox_entry.InboxEntry.{InboxEntry}
use Rattle.exchange_model.specs.declared.outcome.Outcome.{Outcome}
use Rattle.exchange_model.specs.declared.what.What.TheVariants as what
use Rattle.exchange_model.proofs.ListLemmas.{Has}
use Rattle.exchange_laws.proofs.EndSteps.{EndGoes, by_option}
use Rattle.exchange_laws.proofs.InboxSteps.{Stood}
use Rattle.exchange_laws.proofs.StepLemmas.{step_goes}
use Rattle.stranger_laws.proofs.OneStep.{row_or_full, rests_same}

-- a user message without a mode changes nothing
unmoded_rests : (modes : List Mode) (end : End) (event : Event) (outcome : Outcome) (header : UserHeader) (payloads : List Payload)
    → Step modes end event outcome → event.what ≡ what.Came (message.User header payloads)
    → IsSome (mode_of modes header) ⊎ (applied outcome.effects end ≡ end)
unfolding UserComes
unmoded_rests modes end event outcome header payloads step came =
    elim (row_or_full modes end event outcome (what.Came (message.User header payloads)) step came) [
      | inl row ↦ by_option _ _ _ (mode_of modes header) row
          (λ e. inr (rests_same end outcome (ap (λ (o : Outcome). o.effects) e.2)))
          (λ mode found _. inl (subst IsSome (sym found) refl))
      | inr full ↦ inr (rests_same end outcome (ap (λ (o : Outcome). o.effects) full.1))
    ]

-- an act brought the entry; where the entry must keep its payloads, they are those that were received
pub record IsBrought (acts : List Act) (entry : InboxEntry) (is_kept : Type 0) : Type 0 where
  pub act : Act
  pub done : Has acts act
  pub payloads : List Payload
  pub came : act.event.what ≡ what.Came (message.User entry.header payloads)
  pub mode : IsSome (mode_of act.modes entry.header)
  pub same : is_kept → entry.payloads ≡ payloads

-- from one endpoint to a later one
abbrev pub ComesFrom : List Act → End → End → ℕ → InboxEntry → Type 0
ComesFrom acts old new n entry =
    Stood old.inbox old.confirmed n entry (new.confirmed ≤ n) ⊎ IsBrought acts entry (new.confirmed ≤ n)

same_place : (end : End) (n : ℕ) (entry : InboxEntry) → slice_get end.inbox n ≡ Some entry → Stood end.inbox end.confirmed n entry (end.confirmed ≤ n)
same_place end n entry at = record { before = entry; there = at; header = refl; payloads = λ k. refl; unconfirmed = λ k. k }

-- one act
brought_act : (act : Act) (end : End) → AreNumberedFrom 0 end.sent → Step act.modes end act.event act.outcome
    → (n : ℕ) (entry : InboxEntry) → slice_get (applied act.outcome.effects end).inbox n ≡ Some entry
    → ComesFrom (act ∷ []) end (applied act.outcome.effects end) n entry
brought_act act end numbered step n entry at =
    elim (goes.inbox.entries n entry at) [ inl stood ↦ inl stood | inr came ↦ by_mode came ]
  where
    new : End
    new = applied act.outcome.effects end

    goes : EndGoes act.event.what act.outcome.reply end new
    goes = step_goes act.modes end act.event act.outcome numbered step

    by_mode : act.event.what ≡ what.Came (message.User entry.header entry.payloads) → ComesFrom (act ∷ []) end new n entry
    by_mode came = elim (unmoded_rests act.modes end act.event act.outcome entry.header entry.payloads step came) [
      | inl mode ↦ inr (record { act = act; done = inl refl; payloads = entry.payloads; came = came; mode = mode; same = λ k. refl })
      | inr rests ↦ inl (subst (λ (e : End). Stood end.inbox end.confirmed n entry (e.confirmed ≤ n)) (sym rests)
          (same_place end n entry (subst (λ (e : End). slice_get e.inbox n ≡ Some entry) rests at)))
    ]

-- one after another
then_stood : (acts : List Act) (old mid new : End) (n : ℕ) (entry : InboxEntry) (s : Stood mid.inbox mid.confirmed n entry (new.confirmed ≤ n))
    → ComesFrom acts old mid n s.before → ComesFrom acts old new n entry
then_stood acts old mid new n entry s (inl t) = inl (record {
  before = t.before;
  there = t.there;
  header = s.header ∙ t.header;
  payloads = λ k. s.payloads k ∙ t.payloads (s.unconfirmed k);
  unconfirmed = λ k. t.unconfirmed (s.unconfirmed k);
})
then_stood acts old mid new n entry s (inr b) = inr (record {
  act = b.act;
  done = b.done;
  payloads = b.payloads;
  came = b.came ∙ ap (λ h. what.Came (message.User h b.payloads)) (sym s.header);
  mode = subst (λ h. IsSome (mode_of b.act.modes h)) (sym s.header) b.mode;
  same = λ k. s.payloads k ∙ b.same (s.unconfirmed k);
})

more_acts : (acts more : List Act) (old new : End) (n : ℕ) (entry : InboxEntry) → ((a : Act) → Has acts a → Has more a)
    → ComesFrom acts old new n entry → ComesFrom more old new n entry
more_acts acts more old new n entry has (inl s) = inl s
more_acts acts more old new n entry has (inr b) =
    inr (record { act = b.act; done = has b.act b.done; payloads = b.payloads; came = b.came; mode = b.mode; same = b.same })

only_first : (act : Act) (acts : List Act) (a : Act) → Has (act ∷ []) a → Has (act ∷ acts) a
only_first act acts a (inl e) = inl e
only_first act acts a (inr none) = absurd none

-- any run
pub brought_all : (all : List Happening) (end : End) → AreNumberedFrom 0 end.sent → MayHappenTo all end
    → (n : ℕ) (entry : InboxEntry) → slice_get (end_after all end).inbox n ≡ Some entry
    → ComesFrom (acts_of all) end (end_after all end) n entry
brought_all [] end numbered may n entry at = inl (same_place end n entry at)
brought_all (Does act ∷ later) end numbered may n entry at = by_later (brought_all later new goes may.1 n entry at)
  where
    new : End
    new = applied act.outcome.effects end

    goes : AreNumberedFrom 0 new.sent
    goes = (step_goes act.modes end act.event act.outcome numbered may.0).sent.numbered

    by_later : ComesFrom (acts_of later) new (end_after later new) n entry → ComesFrom (act ∷ acts_of later) end (end_after later new) n entry
    by_later (inl s) =
        then_stood (act ∷ acts_of later) end new (end_after later new) n entry s
        (more_acts (act ∷ []) (act ∷ acts_of later) end new n s.before (only_first act (acts_of later))
        (brought_act act end numbered may.0 n s.before s.there))
    by_later (inr b) = more_acts (acts_of later) (act ∷ acts_of later) end (end_after later new) n entry (λ a h. inr h) (inr b)
brought_all (Folds site size ∷ later) end numbered may n entry at = brought_all later (resized size end) numbered may.1 n entry at

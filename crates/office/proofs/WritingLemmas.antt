-- The record of a step is written, or there is none.
use Rattle.std.proofs.Common.{◌≡◌, ◌≢◌, ◌⊎◌, inl, inr, ℕ, ◌+◌, ◌≤◌, ◌^◌, Bool, Result, Ok, Err, List, [], ◌∷◌, Some, None, true, length, refl, sym, ap, ◌∙◌, subst, arith}
use Rattle.as4_disk.specs.declared.disk.Disk.{Ghosts as DiskMeaning}
use Rattle.as4_disk.specs.Image.{Image}
use Rattle.as4_disk.specs.Leaving.{LeavesOnly}
use Rattle.as4_disk.proofs.RunLemmas.{no_call}
use Rattle.as4_effects.specs.declared.effect.Effect.{Effect}
use Rattle.exchange_model.specs.Apply.{after_all, applied, first_unfit, record_len}
use Rattle.exchange_model.specs.End.{End}
use Rattle.exchange_model.specs.Table.{has_room}
use Rattle.exchange_model.specs.declared.outcome.Outcome.{Outcome}
use Rattle.journal.specs.declared.journal.Journal.{Journal}
use Rattle.msh_core.proofs.RecordLemmas.{are_some, room_to_grow, size_kept}
use Rattle.msh_journal.specs.Frames.{IsFrameOf}
use Rattle.inbox.specs.Spots.{Spot}
use Rattle.msh_journal.specs.Payloads.{IsJournalWith}
use Rattle.msh_state.specs.Places.{places_after_all}
use Rattle.msh_recovery.specs.Opens.{IsAt, IsAtWith, IsJournalOf}
use Rattle.msh_recovery.specs.Records.{IsBodyOf, RecordLeads}
use Rattle.msh_recovery.proofs.OpenLemmas.{at_weaker, kept_opens}
use Rattle.as4_disk.specs.declared.fault_counts.FaultCounts.{FaultCounts}
use Rattle.office.specs.Recording.{Appends, AppendsAt, Records, RecordsStep}

-- where there is a record, it has room, and leads to the end behind the effects
pub frame_room : (effects : List Effect) (body : List ℕ) (end : End) → IsFrameOf effects (Some body) → has_room end effects ≡ true → end.size + (length body + 9) ≤ 2 ^ 32
unfolding record_len
frame_room [] body end is room = absurd is
frame_room (e ∷ effects) body end is room =
    omega (arith, room_to_grow (e ∷ effects) end (after_all (e ∷ effects) end) (are_some (e ∷ effects) is.some) room refl, size_kept (e ∷ effects) end, ap length is.bytes)

pub frame_body : (effects : List Effect) (body : List ℕ) → IsFrameOf effects (Some body) → IsBodyOf effects body
frame_body [] body is = absurd is
frame_body (e ∷ effects) body is = is

rest_places : (gate : ℕ) (places : List Spot) (effects : List Effect) → effects ≡ [] → places ≡ places_after_all effects gate places
unfolding places_after_all
rest_places gate places effects none =
    let same : places ≡ places_after_all [] gate places = refl in same ∙ ap (λ (e : List Effect). places_after_all e gate places) (sym none)

-- where there are no effects, nothing changes
rest_leads : (end : End) (outcome : Outcome) → outcome.effects ≡ [] → end ≡ applied outcome.effects end
unfolding applied
rest_leads end outcome none = let same : end ≡ applied [] end = refl in same ∙ ap (λ (effects : List Effect). applied effects end) (sym none)

module _ {D : Type 0} (M : DiskMeaning D) where
  -- no device call was made
  pub no_write : (only_now : (disk : D) (c : Image) → M.left_since disk (M.moment disk) c → M.may_leave disk c) (journal : Journal D) (end : End) (P : End → Type 0) (also : Image → Type 0) (image : Image)
      → IsJournalOf M end journal → M.seen journal.disk ≡ Some image → LeavesOnly M journal.disk journal.disk (λ c. IsAtWith c end P ⊎ also c)
  no_write only_now journal end P also image is told =
      no_call M journal.disk (λ (c : Image). IsAtWith c end P ⊎ also c)
      (λ c left. inl (at_weaker (λ next. ⊥) P c end (λ next none. absurd none) (kept_opens M end journal is image told c (only_now journal.disk c left))))

module _ {D : Type 0} (M : DiskMeaning D) where
  -- a step with effects is recorded as its record is put there
  pub records_some : (old new : Journal D) (end : End) (places : List Spot) (outcome : Outcome) (result : Result ℕ FaultCounts) → outcome.effects ≢ []
      → AppendsAt M old new end places outcome.effects result → Records M old new end places outcome result
  records_some old new end places outcome (Ok gate) some appends =
      record { kept = appends.kept; any_moment = appends.any_moment; recorded = inr (some, appends.writes) }
  records_some old new end places outcome (Err halt) some appends =
      record { kept = λ ok. absurd cc; any_moment = appends.any_moment; recorded = inr (some, appends.writes) }

  -- one without leaves all as it is
  pub records_none : (only_now : (disk : D) (c : Image) → M.left_since disk (M.moment disk) c → M.may_leave disk c) (journal : Journal D) (end : End) (places : List Spot) (outcome : Outcome) → outcome.effects ≡ [] → IsJournalWith M end places journal
      → RecordsStep M journal journal end places outcome 0 true
  records_none only_now journal end places outcome none is = record {
    kept = λ ok. subst (λ (e : End). IsJournalWith M e (places_after_all outcome.effects 0 places) journal) (rest_leads end outcome none)
        (subst (λ (p : List Spot). IsJournalWith M end p journal) (rest_places 0 places outcome.effects none) is);
    any_moment = λ image told. no_write M only_now journal end (λ n. n ≡ applied outcome.effects end) (λ c. IsAt c (applied outcome.effects end)) image is.is told;
    recorded = inl (none, refl, refl);
  }

-- which work has a record
pub large_none : (outcome : Outcome) → IsFrameOf outcome.effects None → outcome.effects ≡ []
large_none outcome is = no_frame outcome.effects is
  where
    no_frame : (effects : List Effect) → IsFrameOf effects None → effects ≡ []
    no_frame [] is = refl
    no_frame (e ∷ effects) is = absurd is

pub large_some : (outcome : Outcome) (body : List ℕ) → IsFrameOf outcome.effects (Some body) → outcome.effects ≢ []
large_some outcome body is none = framed outcome.effects is none
  where
    framed : (effects : List Effect) → IsFrameOf effects (Some body) → effects ≡ [] → ⊥
    framed [] is none = absurd is
    framed (e ∷ effects) is none = cc

-- What the calls of an office led to is what may happen to an end, and so is what a crash left behind them.
use Rattle.std.proofs.Common.{◌≡◌, inl, inr, ⊎_elim, List, [], ◌∷◌, ◌++◌, Some, None, false, true, refl, sym, ap, ◌∙◌, subst}
use Rattle.std.specs.List.{Contains}
use Rattle.as4_disk.specs.Image.{Image}
use Rattle.mode_values.specs.declared.mode.Mode.{Mode}
use Rattle.msh_recovery.specs.Opens.{IsAt, IsAtWith, IsOld, OpensAs, ReadsAs, ReopensAs}
use Rattle.msh_recovery.proofs.OpenLemmas.{opens_weaker}
use Rattle.msh_recovery.proofs.RecordLemmas.{LeadsOnce}
use Rattle.msh_recovery.proofs.ReopenLemmas.{reopens_at}
use Rattle.exchange_model.specs.Alone.{MayHappenTo, end_after}
use Rattle.exchange_model.specs.Apply.{applied}
use Rattle.exchange_model.specs.End.{End, empty_end}
use Rattle.exchange_model.specs.Fold.{resized}
use Rattle.exchange_model.specs.Questions.{is_pending}
use Rattle.exchange_model.specs.declared.sent.Sent.{Sent}
use Rattle.exchange_model.specs.Staying.{Keeps}
use Rattle.exchange_model.specs.World.{Act, Does, Folds, Happening, Site, Left}
use Rattle.exchange_laws.proofs.AloneLemmas.{after_both}
use Rattle.journal.specs.Store.{picked_leaf}
use Rattle.office.specs.Calls.{Leads}
use Rattle.office.specs.Happened.{Happened, IsCutOff, MayLead}
use Rattle.office.specs.Left.{IsLeft, IsStepTo}
use Rattle.office.specs.Openings.{HappenedOver, LeadsOver, Opening}
use Rattle.office.specs.declared.call.Call.{Call}
use Rattle.office.specs.declared.call.Call.TheVariants.{Done, Folded, Stop}

may_join : (all more : List Happening) (end : End) → MayHappenTo all end → MayHappenTo more (end_after all end) → MayHappenTo (all ++ more) end
may_join [] more end may later = later
may_join (Does act ∷ all) more end may later = (may.0, may_join all more (applied act.outcome.effects end) may.1 later)
may_join (Folds site size ∷ all) more end may later = (may.0, may_join all more (resized size end) may.1 later)

-- what happened later goes on from what happened first
lead_join : (all more : List Happening) (start end next : End) → MayLead all start end → MayLead more end next → MayLead (all ++ more) start next
lead_join all more start end next (may, leads) (later, goes) =
    let P : End → Type 0 = λ e. MayHappenTo more e in
    (may_join all more start may (subst P (sym leads) later), after_both all more start ∙ ap (λ (e : End). end_after more e) leads ∙ goes)

pub history : (site : Site) (modes : List Mode) (calls : List Call) (start end : End) → Leads modes start calls end → (all : List Happening) × Happened site modes calls all × MayLead all start end
history site modes [] start end here = ([], refl, (tt, here))
history site modes (Done event reply ∷ calls) start end (outcome, step, is, rest) =
    let act : Act = record { site = site; modes = modes; event = event; outcome = outcome; lost = false } in
    let later = history site modes calls (applied outcome.effects start) end rest in
    (Does act ∷ later.0, (refl, refl, refl, sym is, later.1), ((step, later.2.0), later.2.1))
history site modes (Folded size ∷ calls) start end (folded, shorter, rest) =
    let later = history site modes calls (resized size start) end rest in
    (Folds site size ∷ later.0, (refl, refl, later.1), ((folded, later.2.0), later.2.1))
history site modes (Stop event halt ∷ calls) start end (rose, refused, here) = ([], refl, (tt, here))

-- ---- what stays

abbrev pub StaysOver : Type 0
StaysOver = (all more : List Happening) → MayHappenTo (all ++ more) empty_end → Keeps (end_after all empty_end) (end_after (all ++ more) empty_end)

abbrev pub SettledStays : Type 0
SettledStays = (all more : List Happening) → MayHappenTo (all ++ more) empty_end → (s : Sent) → Contains (end_after all empty_end).sent s → is_pending s ≡ false → Contains (end_after (all ++ more) empty_end).sent s

stays_on : StaysOver → (before more : List Happening) (end : End) → MayHappenTo before empty_end → MayLead more (end_after before empty_end) end → Keeps (end_after before empty_end) end
stays_on kept before more end may later =
    let all = lead_join before more empty_end (end_after before empty_end) end (may, refl) later in
    subst (λ (e : End). Keeps (end_after before empty_end) e) all.1 (kept before more all.0)

pub stays : StaysOver → (before : List Happening) (modes : List Mode) (calls : List Call) (end : End) → MayHappenTo before empty_end → Leads modes (end_after before empty_end) calls end → Keeps (end_after before empty_end) end
stays kept before modes calls end may leads =
    let later = history Left modes calls (end_after before empty_end) end leads in
    stays_on kept before later.0 end may later.2

-- ---- what a crash left

pub left_young : (modes : List Mode) (calls : List Call) (end : End) (image : Image) → IsLeft modes end calls image → IsOld (picked_leaf image) → ⊥
left_young modes [] end image at = at.1
left_young modes (Done event reply ∷ calls) end image left = left_young modes calls end image left
left_young modes (Folded size ∷ calls) end image left = left_young modes calls end image left
left_young modes (Stop (Some event) halt ∷ calls) end image (inl at) = at.1
left_young modes (Stop (Some event) halt ∷ calls) end image (inr (next, step, at)) = at.1
left_young modes (Stop None halt ∷ calls) end image (inl at) = at.1
left_young modes (Stop None halt ∷ calls) end image (inr (size, folded, at)) = at.1

-- where an opening was cut off
module _ (one : LeadsOnce) (before after : Image) (reopens : ReopensAs before after) where
  still_at : (end : End) → IsAt before end → IsAt after end
  still_at end at =
      ⊎_elim
      (λ (same : IsAt after end). same)
      (λ (none : (next : End) × ⊥ × IsAt after next). absurd none.1)
      (reopens_at one before after end (λ next. ⊥) at reopens)

  pub left_still : (modes : List Mode) (calls : List Call) (end : End) → IsLeft modes end calls before → IsLeft modes end calls after
  left_still modes [] end at = still_at end at
  left_still modes (Done event reply ∷ calls) end left = left_still modes calls end left
  left_still modes (Folded size ∷ calls) end left = left_still modes calls end left
  left_still modes (Stop (Some event) halt ∷ calls) end (inl at) = reopens_at one before after end (IsStepTo modes end event) at reopens
  left_still modes (Stop (Some event) halt ∷ calls) end (inr (next, step, at)) = inr (next, step, still_at next at)
  left_still modes (Stop None halt ∷ calls) end (inl at) = inl (still_at end at)
  left_still modes (Stop None halt ∷ calls) end (inr (size, folded, at)) = inr (size, folded, still_at (resized size end) at)

module _ (one : (image : Image) (a b : End) → ReadsAs image a → ReadsAs image b → a ≡ b) (reads_whole : (image : Image) (end : End) → OpensAs image end → ReadsAs image end) where
  -- a disk reads as the end that it is at
  at_reads : (image : Image) (end next : End) (P : End → Type 0) → IsAtWith image end P → ReadsAs image next → end ≡ next
  at_reads image end next P at reads =
      one image end next (reads_whole image end (opens_weaker P (λ n. Unit {0}) image end (λ n has. tt) at.0)) reads

  cut_off : (site : Site) (modes : List Mode) (calls : List Call) (end next : End) (image : Image) → IsLeft modes end calls image → ReadsAs image next
      → (more : List Happening) × IsCutOff site modes calls more × MayLead more end next
  cut_off site modes [] end next image at reads = ([], refl, (tt, at_reads image end next (λ n. ⊥) at reads))
  cut_off site modes (Done event reply ∷ calls) end next image left reads = cut_off site modes calls end next image left reads
  cut_off site modes (Folded size ∷ calls) end next image left reads = cut_off site modes calls end next image left reads
  cut_off site modes (Stop (Some event) halt ∷ calls) end next image (inl at) reads =
      ([], inl refl, (tt, at_reads image end next (IsStepTo modes end event) at reads))
  cut_off site modes (Stop (Some event) halt ∷ calls) end next image (inr (made, (outcome, step, is), at)) reads =
      let act : Act = record { site = site; modes = modes; event = event; outcome = outcome; lost = true } in
      (Does act ∷ [], inr (refl, refl, refl, refl), ((step, tt), sym is ∙ at_reads image made next (λ n. ⊥) at reads))
  cut_off site modes (Stop None halt ∷ calls) end next image (inl at) reads =
      ([], inl refl, (tt, at_reads image end next (λ n. ⊥) at reads))
  cut_off site modes (Stop None halt ∷ calls) end next image (inr (size, folded, at)) reads =
      (Folds site size ∷ [], inr refl, ((folded, tt), at_reads image (resized size end) next (λ n. ⊥) at reads))

  pub leaves_off : (site : Site) (modes : List Mode) (calls : List Call) (start end next : End) (image : Image) → Leads modes start calls end → IsLeft modes end calls image → ReadsAs image next
      → (all : List Happening) × (more : List Happening) × Happened site modes calls all × IsCutOff site modes calls more × MayLead (all ++ more) start next
  leaves_off site modes calls start end next image leads left reads =
      let first = history site modes calls start end leads in
      let found = cut_off site modes calls end next image left reads in
      (first.0, found.0, first.1, found.1, lead_join first.0 found.0 start end next first.2 found.2)

  pub goes_on : (site : Site) (before : List Happening) (start here end next last : End) (modes later : List Mode) (calls others : List Call) (image : Image) → MayLead before start here → Leads modes here calls end
      → IsLeft modes end calls image → ReadsAs image next → Leads later next others last
      → (all : List Happening) × (more : List Happening) × (rest : List Happening) × Happened site modes calls all × IsCutOff site modes calls more × Happened site later others rest
      × MayLead (before ++ all ++ more ++ rest) start last
  goes_on site before start here end next last modes later calls others image so_far leads left reads leads_on =
      let first = history site modes calls here end leads in
      let found = cut_off site modes calls end next image left reads in
      let then = history site later others next last leads_on in (
        first.0,
        found.0,
        then.0,
        first.1,
        found.1,
        then.1,
        lead_join (before ++ first.0 ++ found.0) then.0 start next last
            (lead_join (before ++ first.0) found.0 start end next (lead_join before first.0 start here end so_far first.2) found.2)
            then.2,
      )

  pub happened_over : (site : Site) (openings : List Opening) (modes : List Mode) (calls : List Call) (start next end : End) → LeadsOver openings start next → Leads modes next calls end
      → (all : List Happening) × HappenedOver site openings modes calls all × MayLead all start end
  happened_over site [] modes calls start next end here last =
      let found = history site modes calls next end last in
      (found.0, found.1, subst (λ (e : End). MayLead found.0 e end) (sym here) found.2)
  happened_over site (opening ∷ later) modes calls start next end (here, leads, left, mid, reads, goes) last =
      let found = leaves_off site opening.modes opening.calls start here mid opening.left leads left reads in
      let rest = happened_over site later modes calls mid next end goes last in (
        found.0 ++ found.1 ++ rest.0,
        (found.0, found.1, rest.0, found.2, found.3, rest.1, refl),
        lead_join (found.0 ++ found.1) rest.0 start mid end found.4 rest.2,
      )

  pub stays_over : StaysOver → (before : List Happening) (openings : List Opening) (modes : List Mode) (calls : List Call) (next end : End) → MayHappenTo before empty_end
      → LeadsOver openings (end_after before empty_end) next → Leads modes next calls end → Keeps (end_after before empty_end) end
  stays_over kept before openings modes calls next end may goes leads =
      let found = happened_over Left openings modes calls (end_after before empty_end) next end goes leads in
      stays_on kept before found.0 end may found.2

  pub settled_over : SettledStays → (before : List Happening) (openings : List Opening) (modes : List Mode) (calls : List Call) (next end : End) → MayHappenTo before empty_end
      → LeadsOver openings (end_after before empty_end) next → Leads modes next calls end
      → (s : Sent) → Contains (end_after before empty_end).sent s → is_pending s ≡ false → Contains end.sent s
  settled_over kept before openings modes calls next end may goes leads s there settled =
      let found = happened_over Left openings modes calls (end_after before empty_end) next end goes leads in
      let all = lead_join before found.0 empty_end (end_after before empty_end) end (may, refl) found.2 in
      subst (λ (e : End). Contains e.sent s) all.1 (kept before found.0 all.0 s there settled)

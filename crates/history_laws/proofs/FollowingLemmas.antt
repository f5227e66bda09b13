-- Calls after calls.
use Rattle.std.proofs.Common.{◌≡◌, inl, inr, Bool, true, false, List, [], ◌∷◌, ◌++◌, Option, None, refl, sym, ap, ◌∙◌, subst}
use Rattle.std.specs.List.{AllByRecursion}
use Rattle.std.specs.Option.{option_or}
use Rattle.as4_disk.specs.declared.fault_counts.FaultCounts.{FaultCounts}
use Rattle.as4_effects.specs.declared.effect.Effect.{Effect}
use Rattle.mode_values.specs.declared.mode.Mode.{Mode}
use Rattle.exchange_model.specs.Apply.{applied}
use Rattle.exchange_model.specs.End.{End}
use Rattle.exchange_model.specs.Fold.{resized}
use Rattle.exchange_model.specs.Table.{Step}
use Rattle.exchange_model.specs.declared.event.Event.{Event}
use Rattle.exchange_model.specs.declared.outcome.Outcome.{Outcome}
use Rattle.office.specs.Calls.{IsRefusedAt, Leads, LeadsWhere, stop_of}
use Rattle.office.specs.Observed.{StepWhere}
use Rattle.office.specs.declared.call.Call.{Call}
use Rattle.office.specs.declared.call.Call.TheVariants.{Done, Folded, Stop}
use Rattle.history_laws.specs.Agreeing.{AgreesButForReads}
use Rattle.history_laws.specs.Following.{GoesOn}
use Rattle.history_laws.proofs.UnseenLemmas.{agrees, read_shows}

-- the fault among joined calls
pub stop_both : (calls more : List Call) → stop_of (calls ++ more) ≡ option_or (stop_of calls) (stop_of more)
stop_both [] more = refl
stop_both (Done event r ∷ calls) more = stop_both calls more
stop_both (Folded size ∷ calls) more = stop_both calls more
stop_both (Stop event halt ∷ calls) more = refl

all_split : {X : Type 0} (P : X → Type 0) (xs ys : List X) → AllByRecursion P (xs ++ ys) → AllByRecursion P xs × AllByRecursion P ys
all_split P [] ys all = (tt, all)
all_split P (x ∷ xs) ys all = let both = all_split P xs ys all.1 in ((all.0, both.0), both.1)

all_join : {X : Type 0} (P : X → Type 0) (xs ys : List X) → AllByRecursion P xs → AllByRecursion P ys → AllByRecursion P (xs ++ ys)
all_join P [] ys all more = more
all_join P (x ∷ xs) ys all more = (all.0, all_join P xs ys all.1 more)

pub split : (observable : Bool) (modes : List Mode) (calls more : List Call) (start end : End) → LeadsWhere observable modes start (calls ++ more) end
    → (here : End) × LeadsWhere observable modes start calls here × GoesOn observable modes (stop_of calls) here more end
split observable modes [] more start end leads = (start, refl, leads)
split observable modes (Done event r ∷ calls) more start end (outcome, step, is, rest) =
    let later = split observable modes calls more (applied outcome.effects start) end rest in
    (later.0, (outcome, step, is, later.1), later.2)
split observable modes (Folded size ∷ calls) more start end (folded, shorter, rest) =
    let later = split observable modes calls more (resized size start) end rest in
    (later.0, (folded, shorter, later.1), later.2)
split observable modes (Stop event halt ∷ calls) more start end (rose, all, here) =
    let both = all_split (IsRefusedAt halt) calls more all in
    (end, (rose, both.0, here), (both.1, refl))

pub join : (observable : Bool) (modes : List Mode) (calls more : List Call) (start here end : End) → LeadsWhere observable modes start calls here
    → GoesOn observable modes (stop_of calls) here more end → LeadsWhere observable modes start (calls ++ more) end
join observable modes [] more start here end is goes = subst (λ (e : End). LeadsWhere observable modes e more end) (sym is) goes
join observable modes (Done event r ∷ calls) more start here end (outcome, step, is, rest) goes =
    (outcome, step, is, join observable modes calls more (applied outcome.effects start) here end rest goes)
join observable modes (Folded size ∷ calls) more start here end (folded, shorter, rest) goes =
    (folded, shorter, join observable modes calls more (resized size start) here end rest goes)
join observable modes (Stop event halt ∷ calls) more start here end (rose, all, is) (refused, same) =
    (rose, all_join (IsRefusedAt halt) calls more all refused, is ∙ same)

-- a fault, and what follows it
pub stopped : (observable : Bool) (modes : List Mode) (calls more : List Call) (event : Option Event) (halt : FaultCounts) (start end : End)
    → LeadsWhere observable modes start (calls ++ Stop event halt ∷ more) end
    → (stop_of calls ≡ None) × AllByRecursion (IsRefusedAt halt) more × LeadsWhere observable modes start calls end
stopped observable modes [] more event halt start end (rose, all, here) = (refl, all, here)
stopped observable modes (Done other r ∷ calls) more event halt start end (outcome, step, is, rest) =
    let later = stopped observable modes calls more event halt (applied outcome.effects start) end rest in
    (later.0, later.1, (outcome, step, is, later.2))
stopped observable modes (Folded size ∷ calls) more event halt start end (folded, shorter, rest) =
    let later = stopped observable modes calls more event halt (resized size start) end rest in
    (later.0, later.1, (folded, shorter, later.2))
stopped observable modes (Stop other at ∷ calls) more event halt start end (rose, all, here) =
    absurd (all_split (IsRefusedAt at) calls (Stop event halt ∷ more) all).1.0

-- ---- one end

abbrev pub HasOneOutcome : Type 0
HasOneOutcome = (modes : List Mode) (end : End) (event : Event) (a b : Outcome) → Step modes end event a → Step modes end event b → a ≡ b

module _ (one : HasOneOutcome) where
  -- the effects are the event's
  one_change : (observable : Bool) (modes : List Mode) (end : End) (event : Event) (a b : Outcome) → StepWhere observable modes end event a
      → StepWhere observable modes end event b → a.effects ≡ b.effects
  one_change true modes end event a b s t = ap (λ (o : Outcome). o.effects) (one modes end event a b s t)
  one_change false modes end event a b (inl s) (inl t) = ap (λ (o : Outcome). o.effects) (one modes end event a b s t)
  one_change false modes end event a b (inl s) (inr t) =
      ap (λ (o : Outcome). o.effects) (read_shows modes end event a t.number t.asked s) ∙ sym t.rests
  one_change false modes end event a b (inr s) (inl t) =
      s.rests ∙ sym (ap (λ (o : Outcome). o.effects) (read_shows modes end event b s.number s.asked t))
  one_change false modes end event a b (inr s) (inr t) = s.rests ∙ sym t.rests

  pub one_end : (observable : Bool) (modes : List Mode) (calls : List Call) (start a b : End) → LeadsWhere observable modes start calls a
      → LeadsWhere observable modes start calls b → a ≡ b
  one_end observable modes [] start a b here there = sym here ∙ there
  one_end observable modes (Done event r ∷ calls) start a b (outcome, step, is, rest) (other, made, same, leads) =
      let P : List Effect → Type 0 = λ effects. LeadsWhere observable modes (applied effects start) calls b in
      one_end observable modes calls (applied outcome.effects start) a b rest
      (subst P (sym (one_change observable modes start event outcome other step made)) leads)
  one_end observable modes (Folded size ∷ calls) start a b (folded, shorter, rest) (compacted, less, leads) =
      one_end observable modes calls (resized size start) a b rest leads
  one_end observable modes (Stop event halt ∷ calls) start a b (rose, all, here) (risen, each, there) = sym here ∙ there

  pub agreeing_end : (modes : List Mode) (calls known : List Call) (start a b : End) → AgreesButForReads calls known
      → LeadsWhere false modes start calls a → Leads modes start known b → a ≡ b
  agreeing_end modes calls known start a b both unseen seen =
      one_end false modes calls start a b unseen (agrees modes calls known start b both seen)

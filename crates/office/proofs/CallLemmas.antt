-- Histories with one call more.
use Rattle.std.proofs.Common.{◌≡◌, ℕ, ◌<◌, Bool, List, [], ◌∷◌, ◌++◌, Option, Some, None, refl, sym, ap, subst}
use Rattle.std.specs.List.{AllByRecursion}
use Rattle.std.proofs.lemmas.Option.{same_Some}
use Rattle.as4_flow.specs.Flow.{Rose}
use Rattle.mode_values.specs.declared.mode.Mode.{Mode}
use Rattle.exchange_model.specs.Apply.{applied}
use Rattle.exchange_model.specs.End.{End}
use Rattle.exchange_model.specs.Fold.{IsFoldedSize, resized}
use Rattle.exchange_model.specs.declared.event.Event.{Event}
use Rattle.exchange_model.specs.declared.outcome.Outcome.{Outcome}
use Rattle.exchange_model.specs.declared.reply.Reply.{Reply}
use Rattle.exchange_model.specs.declared.reply.Reply.TheVariants.{Stopped}
use Rattle.as4_disk.specs.Image.{Image}
use Rattle.msh_recovery.specs.Opens.{IsAt}
use Rattle.office.specs.Calls.{IsRefusedAt, LeadsWhere, stop_of}
use Rattle.office.specs.Observed.{StepWhere}
use Rattle.office.specs.Left.{IsLeft}
use Rattle.office.specs.declared.call.Call.{Call}
use Rattle.office.specs.declared.call.Call.TheVariants.{Done, Folded, Stop}
use Rattle.as4_disk.specs.declared.fault_counts.FaultCounts.{FaultCounts}

-- behind a history without a fault
pub stop_more : (calls : List Call) (call : Call) → stop_of calls ≡ None → stop_of (calls ++ call ∷ []) ≡ stop_of (call ∷ [])
stop_more [] call going = refl
stop_more (Done event reply ∷ calls) call going = stop_more calls call going
stop_more (Folded size ∷ calls) call going = stop_more calls call going
stop_more (Stop event halt ∷ calls) call going = absurd cc

-- behind one with a fault
pub stop_kept : (calls : List Call) (call : Call) (halt : FaultCounts) → stop_of calls ≡ Some halt → stop_of (calls ++ call ∷ []) ≡ Some halt
stop_kept [] call halt stopped = absurd cc
stop_kept (Done event reply ∷ calls) call halt stopped = stop_kept calls call halt stopped
stop_kept (Folded size ∷ calls) call halt stopped = stop_kept calls call halt stopped
stop_kept (Stop event at ∷ calls) call halt stopped = stopped

-- ---- what a crash leaves

-- without a fault among the calls it is the end
pub left_going : (modes : List Mode) (end : End) (calls : List Call) (image : Image) → stop_of calls ≡ None → IsAt image end → IsLeft modes end calls image
left_going modes end [] image going here = here
left_going modes end (Done event reply ∷ calls) image going here = left_going modes end calls image going here
left_going modes end (Folded size ∷ calls) image going here = left_going modes end calls image going here
left_going modes end (Stop event halt ∷ calls) image going here = absurd cc

-- behind them the next call says what it is
pub left_more : (modes : List Mode) (end : End) (calls : List Call) (call : Call) (image : Image) → stop_of calls ≡ None → IsLeft modes end (call ∷ []) image → IsLeft modes end (calls ++ call ∷ []) image
left_more modes end [] call image going left = left
left_more modes end (Done event reply ∷ calls) call image going left = left_more modes end calls call image going left
left_more modes end (Folded size ∷ calls) call image going left = left_more modes end calls call image going left
left_more modes end (Stop event halt ∷ calls) call image going left = absurd cc

-- behind a fault it stays what it was
pub left_kept : (modes : List Mode) (end : End) (calls : List Call) (call : Call) (halt : FaultCounts) (image : Image) → stop_of calls ≡ Some halt → IsLeft modes end calls image → IsLeft modes end (calls ++ call ∷ []) image
left_kept modes end [] call halt image stopped left = absurd cc
left_kept modes end (Done event reply ∷ calls) call halt image stopped left = left_kept modes end calls call halt image stopped left
left_kept modes end (Folded size ∷ calls) call halt image stopped left = left_kept modes end calls call halt image stopped left
left_kept modes end (Stop (Some event) at ∷ calls) call halt image stopped left = left
left_kept modes end (Stop None at ∷ calls) call halt image stopped left = left

-- ---- what the calls lead to

pub leads_more : (told : Bool) (modes : List Mode) (calls : List Call) (call : Call) (start end next : End) → stop_of calls ≡ None → LeadsWhere told modes start calls end
    → LeadsWhere told modes end (call ∷ []) next → LeadsWhere told modes start (calls ++ call ∷ []) next
leads_more told modes [] call start end next going here more = subst (λ (e : End). LeadsWhere told modes e (call ∷ []) next) (sym here) more
leads_more told modes (Done event reply ∷ calls) call start end next going (outcome, step, is, rest) more =
    (outcome, step, is, leads_more told modes calls call (applied outcome.effects start) end next going rest more)
leads_more told modes (Folded size ∷ calls) call start end next going (folded, shorter, rest) more =
    (folded, shorter, leads_more told modes calls call (resized size start) end next going rest more)
leads_more told modes (Stop event halt ∷ calls) call start end next going leads more = absurd cc

all_more : {X : Type 0} (P : X → Type 0) (xs : List X) (x : X) → AllByRecursion P xs → P x → AllByRecursion P (xs ++ x ∷ [])
all_more P [] x all last = (last, tt)
all_more P (y ∷ xs) x all last = (all.0, all_more P xs x all.1 last)

pub leads_refused : (told : Bool) (modes : List Mode) (calls : List Call) (event : Event) (halt : FaultCounts) (start end : End) → stop_of calls ≡ Some halt → LeadsWhere told modes start calls end
    → LeadsWhere told modes start (calls ++ Done event (Stopped halt.before halt.after) ∷ []) end
leads_refused told modes [] event halt start end stopped leads = absurd cc
leads_refused told modes (Done first reply ∷ calls) event halt start end stopped (outcome, step, is, rest) =
    (outcome, step, is, leads_refused told modes calls event halt (applied outcome.effects start) end stopped rest)
leads_refused told modes (Folded size ∷ calls) event halt start end stopped (folded, shorter, rest) =
    (folded, shorter, leads_refused told modes calls event halt (resized size start) end stopped rest)
leads_refused told modes (Stop first at ∷ calls) event halt start end stopped (rose, all, here) =
    let same : at ≡ halt = same_Some at halt stopped in
    (rose, all_more (IsRefusedAt at) calls (Done event (Stopped halt.before halt.after)) all (ap (λ (h : FaultCounts). Stopped h.before h.after) (sym same)), here)

-- ---- what a call does to the end that the history leads to

pub done_leads : (told : Bool) (modes : List Mode) (calls more : List Call) (event : Event) (r : Reply) (outcome : Outcome) (end next : End) → stop_of calls ≡ None → more ≡ calls ++ Done event r ∷ []
    → StepWhere told modes end event outcome → r ≡ outcome.reply → next ≡ applied outcome.effects end → (start : End) → LeadsWhere told modes start calls end → LeadsWhere told modes start more next
done_leads told modes calls more event r outcome end next going is step replies made start leads =
    subst (λ (l : List Call). LeadsWhere told modes start l next) (sym is) (leads_more told modes calls (Done event r) start end next going leads (outcome, step, replies, sym made))

pub folded_leads : (told : Bool) (modes : List Mode) (calls more : List Call) (size : ℕ) (end next : End) → stop_of calls ≡ None → more ≡ calls ++ Folded size ∷ []
    → IsFoldedSize end size → size < end.size → next ≡ resized size end → (start : End) → LeadsWhere told modes start calls end → LeadsWhere told modes start more next
folded_leads told modes calls more size end next going is folded shorter made start leads =
    subst (λ (l : List Call). LeadsWhere told modes start l next) (sym is) (leads_more told modes calls (Folded size) start end next going leads (folded, shorter, sym made))

pub stop_leads : (told : Bool) (modes : List Mode) (calls more : List Call) (event : Option Event) (halt : FaultCounts) (end : End) → stop_of calls ≡ None → more ≡ calls ++ Stop event halt ∷ []
    → Rose halt.before halt.after → (start : End) → LeadsWhere told modes start calls end → LeadsWhere told modes start more end
stop_leads told modes calls more event halt end going is rose start leads =
    subst (λ (l : List Call). LeadsWhere told modes start l end) (sym is) (leads_more told modes calls (Stop event halt) start end end going leads (rose, tt, refl))

pub refused_leads : (told : Bool) (modes : List Mode) (calls more : List Call) (event : Event) (halt : FaultCounts) (end : End) → stop_of calls ≡ Some halt → more ≡ calls ++ Done event (Stopped halt.before halt.after) ∷ []
    → (start : End) → LeadsWhere told modes start calls end → LeadsWhere told modes start more end
refused_leads told modes calls more event halt end stopped is start leads =
    subst (λ (l : List Call). LeadsWhere told modes start l end) (sym is) (leads_refused told modes calls event halt start end stopped leads)

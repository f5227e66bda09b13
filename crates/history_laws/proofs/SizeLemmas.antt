-- The journal's size over calls.
use Rattle.std.proofs.Common.{◌≡◌, ℕ, ◌≤◌, Bool, List, [], ◌∷◌, refl, sym, ap, ◌∙◌, arith}
use Rattle.std.specs.List.{AllByRecursion}
use Rattle.as4_disk.specs.declared.fault_counts.FaultCounts.{FaultCounts}
use Rattle.mode_values.specs.declared.mode.Mode.{Mode}
use Rattle.exchange_model.specs.Alone.{size_after}
use Rattle.exchange_model.specs.Apply.{applied}
use Rattle.exchange_model.specs.End.{End}
use Rattle.exchange_model.specs.Fold.{resized}
use Rattle.exchange_model.specs.World.{Happening}
use Rattle.exchange_laws.proofs.Accounts.{sized}
use Rattle.exchange_laws.proofs.EffectLemmas.{size_applied}
use Rattle.office.specs.Calls.{IsRefusedAt, LeadsWhere}
use Rattle.office.specs.Happened.{MayLead}
use Rattle.office.specs.declared.call.Call.{Call}
use Rattle.office.specs.declared.call.Call.TheVariants.{Done, Folded, Stop}
use Rattle.history_laws.specs.Holding.{size_left}

folded_more : (calls : List Call) (a b : ℕ) → a ≤ b → size_left a calls ≤ size_left b calls
folded_more [] a b less = less
folded_more (Done event r ∷ calls) a b less = folded_more calls a b less
folded_more (Folded size ∷ calls) a b less = omega arith
folded_more (Stop event halt ∷ calls) a b less = folded_more calls a b less

-- no compaction is refused
refused_size : (halt : FaultCounts) (calls : List Call) (size : ℕ) → AllByRecursion (IsRefusedAt halt) calls → size_left size calls ≡ size
refused_size halt [] size all = refl
refused_size halt (Done event r ∷ calls) size all = refused_size halt calls size all.1
refused_size halt (Folded left ∷ calls) size all = absurd all.0
refused_size halt (Stop event at ∷ calls) size all = absurd all.0

pub rises : (observable : Bool) (modes : List Mode) (calls : List Call) (start end : End) → LeadsWhere observable modes start calls end
    → size_left start.size calls ≤ end.size
rises observable modes [] start end here = omega (arith, ap (λ (e : End). e.size) here)
rises observable modes (Done event r ∷ calls) start end (outcome, step, is, rest) =
    let new : End = applied outcome.effects start in
    let longer : start.size ≤ new.size = omega (arith, size_applied outcome.effects start) in
    omega (arith, folded_more calls start.size new.size longer, rises observable modes calls new end rest)
rises observable modes (Folded size ∷ calls) start end (folded, shorter, rest) = rises observable modes calls (resized size start) end rest
rises observable modes (Stop event halt ∷ calls) start end (rose, all, here) =
    omega (arith, refused_size halt calls start.size all, ap (λ (e : End). e.size) here)

pub exact_size : (all : List Happening) (start end : End) → MayLead all start end → end.size ≡ size_after all start.size
exact_size all start end lead = ap (λ (e : End). e.size) (sym lead.1) ∙ sized all start

-- A power failure inside a call, as an entered `Stop` of that call.
use Rattle.std.proofs.Common.{◌≡◌, true, List, [], ◌∷◌, ◌++◌, Option, Some, None, refl, sym, subst, arith}
use Rattle.std.specs.Prelude.{◌↔◌}
use Rattle.as4_disk.specs.Image.{Image}
use Rattle.as4_disk.specs.declared.fault_counts.FaultCounts.{FaultCounts}
use Rattle.as4_flow.specs.Flow.{Rose}
use Rattle.mode_values.specs.declared.mode.Mode.{Mode}
use Rattle.msh_recovery.specs.Opens.{ReadsAs}
use Rattle.exchange_model.specs.End.{End}
use Rattle.exchange_model.specs.declared.event.Event.{Event}
use Rattle.office.specs.Calls.{Leads, LeadsWhere, stop_of}
use Rattle.office.specs.Left.{IsLeft}
use Rattle.office.specs.Openings.{LeadsOver, Opening}
use Rattle.office.specs.declared.call.Call.{Call}
use Rattle.office.specs.declared.call.Call.TheVariants.{Done, Folded, Stop}
use Rattle.history_laws.specs.Following.{GoesOn}
use Rattle.history_laws.specs.Inside.{LeavesInside, cut_off}
use Rattle.history_laws.proofs.FollowingLemmas.{join}

pub same_left : (modes : List Mode) (calls : List Call) (end : End) (event : Option Event) (halt : FaultCounts) (image : Image) → stop_of calls ≡ None
    → LeavesInside modes end event image ↔ IsLeft modes end (calls ++ Stop event halt ∷ []) image
same_left modes [] end (Some event) halt image going = (λ left. left, λ left. left)
same_left modes [] end None halt image going = (λ left. left, λ left. left)
same_left modes (Done other r ∷ calls) end event halt image going = same_left modes calls end event halt image going
same_left modes (Folded size ∷ calls) end event halt image going = same_left modes calls end event halt image going
same_left modes (Stop other at ∷ calls) end event halt image going = absurd cc

-- one opening more
pub one_more_opening : (openings : List Opening) (one : Opening) (start here end next : End) → LeadsOver openings start here
    → Leads one.modes here one.calls end → IsLeft one.modes end one.calls one.left → ReadsAs one.left next
    → LeadsOver (openings ++ one ∷ []) start next
one_more_opening [] one start here end next is leads left reads =
    (end, subst (λ (e : End). Leads one.modes e one.calls end) (sym is) leads, left, next, reads, refl)
one_more_opening (opening ∷ openings) one start here end next (there, led, was, mid, read, over) leads left reads =
    (there, led, was, mid, read, one_more_opening openings one mid here end next over leads left reads)

-- counts of some fault
pub some_fault : FaultCounts
some_fault = record { before = 0; after = 1 }

some_rose : Rose some_fault.before some_fault.after
unfolding some_fault
some_rose = omega arith

-- a `Stop` entered there changes nothing
pub stop_leads : (modes : List Mode) (calls : List Call) (start end : End) (event : Option Event) → Leads modes start calls end → stop_of calls ≡ None
    → Leads modes start (calls ++ Stop event some_fault ∷ []) end
stop_leads modes calls start end event leads going =
    let stop : List Call = Stop event some_fault ∷ [] in
    let stops : LeadsWhere true modes end stop end = (some_rose, tt, refl) in
    join true modes calls stop start end end leads (subst (λ s. GoesOn true modes s end stop end) (sym going) stops)

pub joins : (openings : List Opening) (modes : List Mode) (calls : List Call) (start here end next : End) (event : Option Event) (image : Image)
    → LeadsOver openings start here → Leads modes here calls end → stop_of calls ≡ None → LeavesInside modes end event image
    → ReadsAs image next → (halt : FaultCounts) × LeadsOver (openings ++ cut_off modes calls event halt image ∷ []) start next
joins openings modes calls start here end next event image over leads going left reads = (
  some_fault,
  one_more_opening openings (cut_off modes calls event some_fault image) start here end next over
      (stop_leads modes calls here end event leads going)
      ((same_left modes calls end event some_fault image going).0 left)
      reads,
)

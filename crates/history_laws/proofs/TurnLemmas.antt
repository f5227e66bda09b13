-- The calls of an office are its turns.
use Rattle.std.proofs.Common.{◌≡◌, true, List, [], ◌∷◌, ◌++◌, Option, Some, None, inl, inr, refl, sym, ap, ◌∙◌, subst, append-nil, append_assoc}
use Rattle.std.specs.List.{AllByRecursion}
use Rattle.std.specs.Option.{option_or}
use Rattle.as4_disk.specs.declared.fault_counts.FaultCounts.{FaultCounts}
use Rattle.as4_values.specs.declared.message.Message.{Message}
use Rattle.mode_values.specs.declared.mode.Mode.{Mode}
use Rattle.exchange_model.specs.DeliveredOnce.{HasDeliveredOnce}
use Rattle.exchange_model.specs.End.{End}
use Rattle.office.specs.Calls.{stop_of}
use Rattle.office.specs.declared.call.Call.{Call}
use Rattle.history_laws.specs.Following.{GoesOn}
use Rattle.history_laws.specs.TwoOffices.{EntersAll, IsHeardBy, Offices, Runs, Side, new_offices, sent_by, world_of}
use Rattle.history_laws.proofs.FollowingLemmas.{split, stop_both}

nothing_goes : (modes : List Mode) (fault : Option FaultCounts) (here end : End) → GoesOn true modes fault here [] end → here ≡ end
nothing_goes modes None here end goes = goes
nothing_goes modes (Some halt) here end goes = goes.1

-- the first call, and the calls after it
first_goes : (modes : List Mode) (fault : Option FaultCounts) (here end : End) (call : Call) (calls : List Call)
    → GoesOn true modes fault here (call ∷ calls) end
    → (next : End) × GoesOn true modes fault here (call ∷ []) next × GoesOn true modes (option_or fault (stop_of (call ∷ []))) next calls end
first_goes modes None here end call calls goes = split true modes (call ∷ []) calls here end goes
first_goes modes (Some halt) here end call calls (all, same) = (here, ((all.0, tt), refl), (all.1, same))

pub turns : (calls : List Call) (heard : List Message) (side : Side) (end : End) → GoesOn true side.modes (stop_of side.calls) side.end calls end
    → AllByRecursion (IsHeardBy heard) calls
    → (last : Side) × EntersAll calls heard side last × (last.end ≡ end) × (last.calls ≡ side.calls ++ calls)
turns [] heard side end goes all = (side, refl, nothing_goes side.modes (stop_of side.calls) side.end end goes, sym (append-nil side.calls))
turns (call ∷ calls) heard side end goes all =
    let first = first_goes side.modes (stop_of side.calls) side.end end call calls goes in
    let next : Side = record { modes = side.modes; end = first.0; calls = side.calls ++ call ∷ []; said = side.said ++ sent_by call } in
    let goes_on : GoesOn true side.modes (stop_of next.calls) first.0 calls end =
    subst (λ (fault : Option FaultCounts). GoesOn true side.modes fault first.0 calls end) (sym (stop_both side.calls (call ∷ []))) first.2 in
    let later = turns calls heard next end goes_on all.1 in (
      later.0,
      (next, record { goes = first.1; received = all.0; modes = refl; calls = refl; said = refl }, later.1),
      later.2,
      later.3 ∙ append_assoc side.calls (call ∷ []) calls,
    )

-- ---- as part of a run of two offices

runs_join : (run more : List Offices) (first middle last : Offices) → Runs run first middle → Runs more middle last → Runs (run ++ more) first last
runs_join [] more first middle last is later = subst (λ (o : Offices). Runs more o last) (sym is) later
runs_join (next ∷ run) more first middle last (step, rest) later = (step, runs_join run more next middle last rest later)

left_runs : (calls : List Call) (right old new : Side) → EntersAll calls right.said old new
    → (run : List Offices) × Runs run (record { left = old; right = right }) (record { left = new; right = right })
left_runs [] right old new same = ([], ap (λ (side : Side). record { left = side; right = right }) same)
left_runs (call ∷ calls) right old new (next, enters, later) =
    let rest = left_runs calls right next new later in
    (record { left = next; right = right } ∷ rest.0, (inl (inl (call, enters), refl), rest.1))

right_runs : (calls : List Call) (left old new : Side) → EntersAll calls left.said old new
    → (run : List Offices) × Runs run (record { left = left; right = old }) (record { left = left; right = new })
right_runs [] left old new same = ([], ap (λ (side : Side). record { left = left; right = side }) same)
right_runs (call ∷ calls) left old new (next, enters, later) =
    let rest = right_runs calls left next new later in
    (record { left = left; right = next } ∷ rest.0, (inr (inl (call, enters), refl), rest.1))

module _ (once : (run : List Offices) (left right : List Mode) (last : Offices) → Runs run (new_offices left right) last → HasDeliveredOnce (world_of last)) where
  pub left_part : (run : List Offices) (l r : List Mode) (at : Offices) (calls : List Call) (end : End) → Runs run (new_offices l r) at
      → GoesOn true at.left.modes (stop_of at.left.calls) at.left.end calls end → AllByRecursion (IsHeardBy at.right.said) calls
      → (more : List Offices) × (last : Side) × Runs (run ++ more) (new_offices l r) (record at { left = last })
      × (last.end ≡ end) × (last.calls ≡ at.left.calls ++ calls) × HasDeliveredOnce (world_of (record at { left = last }))
  left_part run l r at calls end runs goes heard =
      let made = turns calls at.right.said at.left end goes heard in
      let more = left_runs calls at.right at.left made.0 made.1 in
      let whole = runs_join run more.0 (new_offices l r) at (record at { left = made.0 }) runs more.1 in
      (more.0, made.0, whole, made.2, made.3, once (run ++ more.0) l r (record at { left = made.0 }) whole)

  pub right_part : (run : List Offices) (l r : List Mode) (at : Offices) (calls : List Call) (end : End) → Runs run (new_offices l r) at
      → GoesOn true at.right.modes (stop_of at.right.calls) at.right.end calls end → AllByRecursion (IsHeardBy at.left.said) calls
      → (more : List Offices) × (last : Side) × Runs (run ++ more) (new_offices l r) (record at { right = last })
      × (last.end ≡ end) × (last.calls ≡ at.right.calls ++ calls) × HasDeliveredOnce (world_of (record at { right = last }))
  right_part run l r at calls end runs goes heard =
      let made = turns calls at.left.said at.right end goes heard in
      let more = right_runs calls at.left at.right made.0 made.1 in
      let whole = runs_join run more.0 (new_offices l r) at (record at { right = made.0 }) runs more.1 in
      (more.0, made.0, whole, made.2, made.3, once (run ++ more.0) l r (record at { right = made.0 }) whole)

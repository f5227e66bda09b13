-- The records of an end's fold, added one after another.
use Rattle.std.proofs.Common.{◌≡◌, ◌⊎◌, inl, inr, ⊎_elim, ℕ, ◌+◌, ◌<◌, ◌≤◌, ◌^◌, List, [], ◌∷◌, ◌++◌, Option, Some, None, IsNone, is_some, length, map, take, drop, get_or, refl, sym, ap, subst, ◌∙◌, arith, add-one, take-append-drop}
use Rattle.std.specs.Prelude.{IsSomeAnd}
use Rattle.std.specs.List.{slice_get, sum_by}
use Rattle.std.proofs.Math.Seq.{take-suc}
use Rattle.std.proofs.lemmas.List.{map-append, take_all}
use Rattle.std.proofs.lemmas.List.Sums.{sum_by-append, sum_by-cons}
use Rattle.std.proofs.lemmas.Option.{same_Some, slice_get_cases, slice_get_within, get_or_from_slice_get}
use Rattle.as4_disk.specs.declared.disk.Disk.{Ghosts as DiskMeaning}
use Rattle.as4_disk.specs.Image.{Image}
use Rattle.as4_disk.specs.Leaving.{FirstThen, LeavesOnly, Quiet}
use Rattle.as4_disk.proofs.RunLemmas.{no_call, then, weaken}
use Rattle.as4_effects.specs.declared.effect.Effect.{Effect}
use Rattle.as4_flow.specs.Flow.{Told}
use Rattle.event_code.specs.Spelled.{AreSpelled, IsSpelledEffect}
use Rattle.exchange_model.specs.Apply.{record_len}
use Rattle.exchange_model.specs.End.{End, empty_end}
use Rattle.exchange_model.specs.Fold.{IsFolded, IsFoldedSize, folded_size, resized}
use Rattle.fold_laws.specs.Reached.{IsReached}
use Rattle.fold_laws.proofs.GivenBack.{given_back}
use Rattle.fold_laws.proofs.OneFold.{one_fold}
use Rattle.fold_laws.proofs.Sound.{reached_sound}
use Rattle.journal.specs.Leaf.{front_of}
use Rattle.journal.specs.State.{HasFold, HasRecords}
use Rattle.journal.specs.Store.{InVersion, OpensSettled, OpensToEither}
use Rattle.journal.specs.declared.journal.Journal.{Journal}
use Rattle.journal.specs.declared.version.Version.{Version}
use Rattle.journal.specs.declared.version.Version.TheVariants.{Two}
use Rattle.journal.proofs.OtherLemmas.{first_weaken}
use Rattle.journal.proofs.StoreLemmas.{closed_in, settled_left}
use Rattle.inbox.specs.Spots.{Spot}
use Rattle.msh_recovery.specs.Opens.{IsAt, IsJournalOf}
use Rattle.msh_recovery.specs.Records.{RecordsLead, alone}
use Rattle.msh_recovery.proofs.FoldLemmas.{fold_leads}
use Rattle.msh_recovery.proofs.OpenLemmas.{settled_at}
use Rattle.payload_gates.specs.Gates.{AreGates, moved, one_by_one}
use Rattle.payload_gates.proofs.GateLemmas.{gates_none, gates_noted}
use Rattle.msh_journal.specs.Adding.{AddsPart, FoldHasPayloads, HasAdded, KeepsFold, KeepsNewFold, NewFoldHasPayloads, bytes_of}
use Rattle.msh_journal.specs.Payloads.{HasPayloads, HoldsPayloads, IsJournalWith, gate_at}
use Rattle.msh_journal.proofs.KeepingLemmas.{journal_kept, with_kept}
use Rattle.msh_journal.proofs.PayloadLemmas.{gate_of_alone, payloads_folded}
use Rattle.msh_journal.proofs.RunLemmas.{then_first, told_before}

-- ---- lengths

pub len_of_one : (effect : Effect) → record_len (effect ∷ []) ≡ length (alone effect) + 9
unfolding record_len
len_of_one effect = refl

pub size_of_fold : (effects : List Effect) → folded_size effects ≡ 9 + bytes_of effects
unfolding folded_size
size_of_fold effects = refl

-- each record has a byte
pub few_parts : (effects : List Effect) → length effects ≤ bytes_of effects
few_parts [] = omega arith
few_parts (e ∷ effects) =
    let sum : bytes_of (e ∷ effects) ≡ record_len (e ∷ []) + bytes_of effects = sum_by-cons (λ (f : Effect). record_len (f ∷ [])) e effects in
    omega (arith, sum, len_of_one e, few_parts effects)

pub take_more : (effects : List Effect) (part : ℕ) (effect : Effect) → slice_get effects part ≡ Some effect → take (part + 1) effects ≡ take part effects ++ effect ∷ []
take_more effects part effect found =
    ap (λ (n : ℕ). take n effects) (add-one part)
    ∙ take-suc effects part effect (slice_get_within effects part effect found)
    ∙ ap (λ (e : Effect). take part effects ++ e ∷ []) (get_or_from_slice_get effects part effect effect found)

pub bytes_more : (effects : List Effect) (effect : Effect) → bytes_of (effects ++ effect ∷ []) ≡ bytes_of effects + record_len (effect ∷ [])
bytes_more effects effect =
    let len : Effect → ℕ = λ f. record_len (f ∷ []) in
    let all : sum_by len (effects ++ effect ∷ []) ≡ sum_by len effects + sum_by len (effect ∷ []) = sum_by-append len effects (effect ∷ []) in
    let last : sum_by len (effect ∷ []) ≡ len effect + sum_by len [] = sum_by-cons len effect [] in
    omega (arith, all, last)

bytes_taken : (effects : List Effect) (count : ℕ) → bytes_of (take count effects) ≤ bytes_of effects
bytes_taken effects count =
    let len : Effect → ℕ = λ f. record_len (f ∷ []) in
    let all : sum_by len (take count effects ++ drop count effects) ≡ sum_by len (take count effects) + sum_by len (drop count effects) = sum_by-append len (take count effects) (drop count effects) in
    let whole : sum_by len (take count effects ++ drop count effects) ≡ sum_by len effects = ap (sum_by len) (take-append-drop count effects) in
    omega (arith, all, whole)

-- with the next part the fold is no longer than it will be
pub part_within : (effects : List Effect) (part : ℕ) (effect : Effect) → slice_get effects part ≡ Some effect → bytes_of (take part effects) + record_len (effect ∷ []) ≤ bytes_of effects
part_within effects part effect found =
    let more : bytes_of (take (part + 1) effects) ≡ bytes_of (take part effects ++ effect ∷ []) = ap (λ (l : List Effect). bytes_of l) (take_more effects part effect found) in
    omega (arith, more, bytes_more (take part effects) effect, bytes_taken effects (part + 1))

pub short_bytes : (end : End) (effects : List Effect) → ((size : ℕ) → IsFoldedSize end size → size < 2 ^ 32) → IsFolded end effects → 9 + bytes_of effects < 2 ^ 32
short_bytes end effects short folded =
    omega (arith, short (folded_size effects) (effects, folded, refl), size_of_fold effects)

-- there is room for the next part
pub part_room : (end : End) (all effects : List Effect) (part : ℕ) (effect : Effect) (fold : Option ℕ) → ((size : ℕ) → IsFoldedSize end size → size < 2 ^ 32) → IsFolded end all → IsFolded end effects
    → slice_get effects part ≡ Some effect → fold ≡ Some (8 + bytes_of (take part all)) → IsSomeAnd fold (λ place. place + record_len (effect ∷ []) + 1 < 2 ^ 32)
part_room end all effects part effect fold short folded also found is =
    let here : slice_get all part ≡ Some effect = ap (λ (l : List Effect). slice_get l part) (one_fold end all effects folded also) ∙ found in
    let P : Option ℕ → Type 0 = λ o. IsSomeAnd o (λ place. place + record_len (effect ∷ []) + 1 < 2 ^ 32) in
    let within : 8 + bytes_of (take part all) + record_len (effect ∷ []) + 1 < 2 ^ 32 =
    omega (arith, part_within all part effect here, short_bytes end all short folded) in
    subst P (sym is) within

-- and few are left
pub part_few : (end : End) (all : List Effect) (part : ℕ) (effect : Effect) → ((size : ℕ) → IsFoldedSize end size → size < 2 ^ 32) → IsFolded end all → slice_get all part ≡ Some effect → part + 1 < 2 ^ 32
part_few end all part effect short folded found =
    omega (arith, slice_get_within all part effect found, few_parts all, short_bytes end all short folded)

-- the room for the record is that for its body
pub room_of_one : (fold : Option ℕ) (effect : Effect) (frame : List ℕ) → frame ≡ alone effect → IsSomeAnd fold (λ place. place + record_len (effect ∷ []) + 1 < 2 ^ 32)
    → IsSomeAnd fold (λ place. place + length frame + 10 < 2 ^ 32)
room_of_one None effect frame is room = room
room_of_one (Some place) effect frame is room = omega (arith, room, len_of_one effect, ap length is)

-- and so far the fold grows
pub fold_grows : (old new : Option ℕ) (gate place : ℕ) (effect : Effect) (frame : List ℕ) → frame ≡ alone effect → old ≡ Some gate → new ≡ Some (gate + 9 + length frame) → old ≡ Some place
    → new ≡ Some (place + record_len (effect ∷ []))
fold_grows old new gate place effect frame is at grows was =
    let same : gate ≡ place = same_Some _ _ (sym at ∙ was) in
    let len : gate + 9 + length frame ≡ place + record_len (effect ∷ []) = omega (arith, same, len_of_one effect, ap length is) in
    grows ∙ ap (λ (n : ℕ). Some n) len

spelled_more : (effects : List Effect) (effect : Effect) → AreSpelled effects → IsSpelledEffect effect → AreSpelled (effects ++ effect ∷ [])
spelled_more [] effect spelled last = (last, tt)
spelled_more (e ∷ effects) effect spelled last = (spelled.0, spelled_more effects effect spelled.1 last)

all_taken : (effects : List Effect) (part : ℕ) → slice_get effects part ≡ None → length effects ≤ part
all_taken effects part none =
    ⊎_elim
    (λ (within : (x : Effect) × (part < length effects) × (slice_get effects part ≡ Some x) × (get_or effects part x ≡ x)).
    let no : Some within.0 ≡ None = sym within.2 ∙ none in absurd cc)
    (λ (past : (length effects ≤ part) × (slice_get effects part ≡ None)). past.0)
    (slice_get_cases effects part).1

effects_lead : (end : End) (effects : List Effect) → IsReached end → IsFolded end effects → AreSpelled effects → RecordsLead (map alone effects) empty_end (resized (folded_size effects) end)
effects_lead end effects reached folded spelled =
    fold_leads effects empty_end (resized (folded_size effects) end) spelled (given_back end effects (reached_sound end reached) folded)

-- ---- the parts

module _ {D : Type 0} (M : DiskMeaning D) where
  pub added_none : (first : Journal D) (effects : List Effect) (gates : List ℕ) → first.fold ≡ Some 8 → gates ≡ [] → HasAdded M first first (take 0 effects) gates
  added_none first effects gates fold none = record {
    gate = refl;
    version = refl;
    fold = fold;
    noted = subst (AreGates (gate_at Two) [] []) (sym none) (gates_none (gate_at Two) []);
    added = λ bodies has. (tt, has);
  }

  pub added_more : (first old new : Journal D) (effects : List Effect) (part : ℕ) (effect : Effect) (before after : List ℕ) → slice_get effects part ≡ Some effect
      → HasAdded M first old (take part effects) before → AddsPart M old new effect before after → HasAdded M first new (take (part + 1) effects) after
  added_more first old new effects part effect before after found so_far adds =
      let taken = take part effects in
      let here : 8 + bytes_of taken ≡ gate_at Two (one_by_one taken) = sym (gate_of_alone taken) in
      let place : 8 + bytes_of taken + record_len (effect ∷ []) ≡ 8 + bytes_of (taken ++ effect ∷ []) = omega (arith, bytes_more taken effect) in
      let one : HasAdded M first new (taken ++ effect ∷ []) after = record {
        gate = adds.adds.gate ∙ so_far.gate;
        version = adds.adds.version ∙ so_far.version;
        fold = adds.adds.fold (8 + bytes_of taken) so_far.fold ∙ ap (λ (n : ℕ). Some n) place;
        noted = gates_noted (gate_at Two) taken before after effect (8 + bytes_of taken) here (adds.noted (8 + bytes_of taken) so_far.fold) so_far.noted;
        added = λ bodies has.
            let F : List (List ℕ) → Type 0 = λ l. HasFold M new bodies l in
            let had = so_far.added bodies has in
            let more = adds.adds.added bodies (map alone taken) had.1 in (
              spelled_more taken effect had.0 more.0,
              subst F (sym (map-append alone taken (effect ∷ []))) more.1,
            );
      } in
      let P : List Effect → Type 0 = λ l. HasAdded M first new l after in
      subst P (sym (take_more effects part effect found)) one

  -- past the last part
  pub added_all : (first now : Journal D) (effects : List Effect) (part : ℕ) (gates : List ℕ) → slice_get effects part ≡ None → HasAdded M first now (take part effects) gates → HasAdded M first now effects gates
  added_all first now effects part gates none so_far =
      let P : List Effect → Type 0 = λ l. HasAdded M first now l gates in
      subst P (take_all part effects (all_taken effects part none)) so_far

  -- while parts are added the payloads are there
  pub payloads_still : (first now : Journal D) (end : End) (places : List Spot) (effects : List Effect) (gates : List ℕ) → HasAdded M first now effects gates → is_some (M.seen now.disk) ≡ is_some (M.seen first.disk)
      → NewFoldHasPayloads M end places first → FoldHasPayloads M end places now
  payloads_still first now end places effects gates so_far tells held b told =
      let was = told_before (M.seen first.disk) (M.seen now.disk) b tells told in
      let had = held was.0 was.1 in
      let P : Version → Type 0 = λ v. HoldsPayloads v had.0 end places in
      (had.0, map alone effects, (so_far.added had.0 had.1).1, subst P (sym so_far.version) had.2)

  -- a disk that isn't observable wasn't before
  pub lost_before : (first now : Journal D) → is_some (M.seen now.disk) ≡ is_some (M.seen first.disk) → Told (M.seen now.disk) (λ _. ⊥) → Told (M.seen first.disk) (λ _. ⊥)
  lost_before first now tells lost b told =
      let now_told = told_before (M.seen now.disk) (M.seen first.disk) b (sym tells) told in lost now_told.0 now_told.1

  -- the parts that were added, and what the next call kept
  pub added_then : (first old new : Journal D) (effects : List Effect) (gates : List ℕ) → HasAdded M first old effects gates → KeepsFold M old new
      → KeepsNewFold M first new
  added_then first old new effects gates so_far keeps =
      (keeps.gate ∙ so_far.gate, keeps.version ∙ so_far.version, λ bodies has. keeps.kept bodies (map alone effects) (so_far.added bodies has).1)

  -- the journal whose records are the compaction's
  pub folded_journal : (old started added new : Journal D) (end : End) (effects : List Effect) (gates : List ℕ) → IsReached end → IsFolded end effects → HasAdded M started added effects gates
      → ((bodies : List (List ℕ)) → HasRecords M old bodies → HasFold M started bodies [])
      → ((bodies folded : List (List ℕ)) → HasFold M added bodies folded → HasRecords M new folded)
      → new.version ≡ Two → IsNone new.fold → added.fold ≡ Some new.gate → is_some (M.seen new.disk) ≡ is_some (M.seen old.disk)
      → (places : List Spot) → length places ≡ length end.inbox → HasPayloads M end places old
      → IsJournalWith M (resized (folded_size effects) end) (moved end.confirmed gates places) new
  folded_journal old started added new end effects gates reached folded parts start finish version no_fold at tells places long held =
      let gate : new.gate ≡ 8 + bytes_of effects = same_Some _ _ (sym at ∙ parts.fold) in
      record {
        is = record {
          version = version;
          no_fold = no_fold;
          size = omega (arith, gate, size_of_fold effects);
          records = λ b told.
              let was = told_before (M.seen old.disk) (M.seen new.disk) b tells told in
              let had = held was.0 was.1 in
              let all = parts.added had.0 (start had.0 had.1) in
              (map alone effects, finish had.0 (map alone effects) all.1, effects_lead end effects reached folded all.0);
        };
        held = λ b told.
            let was = told_before (M.seen old.disk) (M.seen new.disk) b tells told in
            let had = held was.0 was.1 in
            let all = parts.added had.0 (start had.0 had.1) in
            let P : Version → Type 0 = λ v. HoldsPayloads v (map alone effects) (resized (folded_size effects) end) (moved end.confirmed gates places) in (
              map alone effects,
              finish had.0 (map alone effects) all.1,
              subst P (sym version) (payloads_folded end effects gates places (folded_size effects) folded all.0 parts.noted long),
            );
      }

  -- what a crash leaves while a fold is open
  fold_left : (journal : Journal D) (bodies folded : List (List ℕ)) → HasFold M journal bodies folded → (c : Image) → M.may_leave journal.disk c → InVersion journal.version (OpensSettled bodies) c
  fold_left journal bodies folded has c left =
      closed_in journal.version bodies has.rest c has.within (settled_left M journal.disk journal.is_second (front_of journal.version bodies ++ 0 ∷ has.rest) c has.settled left).2

  -- while nothing is added
  pub still_fold : ((disk : D) (c : Image) → M.left_since disk (M.moment disk) c → M.may_leave disk c) → (journal : Journal D) (bodies folded : List (List ℕ)) → HasFold M journal bodies folded
      → LeavesOnly M journal.disk journal.disk (InVersion journal.version (OpensSettled bodies))
  still_fold only_now journal bodies folded has =
      no_call M journal.disk (InVersion journal.version (OpensSettled bodies)) (λ c left. fold_left journal bodies folded has c (only_now journal.disk c left))

  -- and while no fold is open
  pub still_records : ((disk : D) (c : Image) → M.left_since disk (M.moment disk) c → M.may_leave disk c) → (journal : Journal D) (bodies : List (List ℕ)) → HasRecords M journal bodies
      → LeavesOnly M journal.disk journal.disk (InVersion journal.version (OpensSettled bodies))
  still_records only_now journal bodies has =
      no_call M journal.disk (InVersion journal.version (OpensSettled bodies))
      (λ c left. closed_in journal.version bodies has.rest c has.within (settled_left M journal.disk journal.is_second (front_of journal.version bodies ++ 0 ∷ has.rest) c has.settled (only_now journal.disk c left)).2)

  -- while a record is read
  pub read_fold : (old new : Journal D) → Quiet M old.disk new.disk → (bodies folded : List (List ℕ)) → HasFold M old bodies folded
      → LeavesOnly M old.disk new.disk (InVersion old.version (OpensSettled bodies))
  read_fold old new quiet bodies folded has =
      weaken M old.disk new.disk (M.may_leave old.disk) (InVersion old.version (OpensSettled bodies)) (fold_left old bodies folded has) quiet.run

  -- one run, and then another
  pub fold_then : (old mid new : Journal D) → mid.version ≡ old.version → ((bodies folded : List (List ℕ)) → HasFold M old bodies folded → HasFold M mid bodies folded)
      → ((bodies folded : List (List ℕ)) → HasFold M old bodies folded → LeavesOnly M old.disk mid.disk (InVersion old.version (OpensSettled bodies)))
      → ((bodies folded : List (List ℕ)) → HasFold M mid bodies folded → LeavesOnly M mid.disk new.disk (InVersion mid.version (OpensSettled bodies)))
      → (bodies folded : List (List ℕ)) → HasFold M old bodies folded → LeavesOnly M old.disk new.disk (InVersion old.version (OpensSettled bodies))
  fold_then old mid new version kept first next bodies folded has =
      let P : Version → Type 0 = λ v. LeavesOnly M mid.disk new.disk (InVersion v (OpensSettled bodies)) in
      then M old.disk mid.disk new.disk (InVersion old.version (OpensSettled bodies)) (first bodies folded has) (subst P version (next bodies folded (kept bodies folded has)))

  -- and while one more is
  pub fold_run_on : (first old new : Journal D) (effects : List Effect) (gates : List ℕ) → HasAdded M first old effects gates
      → ((bodies : List (List ℕ)) → HasFold M first bodies [] → LeavesOnly M first.disk old.disk (InVersion first.version (OpensSettled bodies)))
      → ((bodies folded : List (List ℕ)) → HasFold M old bodies folded → LeavesOnly M old.disk new.disk (InVersion old.version (OpensSettled bodies)))
      → (bodies : List (List ℕ)) → HasFold M first bodies [] → LeavesOnly M first.disk new.disk (InVersion first.version (OpensSettled bodies))
  fold_run_on first old new effects gates so_far run next bodies has =
      let P : Version → Type 0 = λ v. LeavesOnly M old.disk new.disk (InVersion v (OpensSettled bodies)) in
      then M first.disk old.disk new.disk (InVersion first.version (OpensSettled bodies)) (run bodies has) (subst P so_far.version (next bodies (map alone effects) (so_far.added bodies has).1))

-- a compaction that was dropped
module _ {D : Type 0} (M : DiskMeaning D) (old started added dropped : Journal D) (same : (started.gate ≡ old.gate) × (started.version ≡ old.version)) (keeps : KeepsNewFold M started added)
    (is : dropped ≡ record added { fold = dropped.fold; fold_in_range = dropped.fold_in_range }) (closed : IsNone dropped.fold) (tells : is_some (M.seen added.disk) ≡ is_some (M.seen old.disk))
    (start : (bodies : List (List ℕ)) → HasRecords M old bodies → HasFold M started bodies []) (drops : (bodies folded : List (List ℕ)) → HasFold M added bodies folded → HasRecords M dropped bodies) where
  dropped_gate : dropped.gate ≡ old.gate
  dropped_gate = ap (λ (j : Journal D). j.gate) is ∙ keeps.0 ∙ same.0

  dropped_version : dropped.version ≡ old.version
  dropped_version = ap (λ (j : Journal D). j.version) is ∙ keeps.1 ∙ same.1

  pub dropped_tells : is_some (M.seen dropped.disk) ≡ is_some (M.seen old.disk)
  dropped_tells = ap (λ (j : Journal D). is_some (M.seen j.disk)) is ∙ tells

  dropped_records : (bodies : List (List ℕ)) → HasRecords M old bodies → HasRecords M dropped bodies
  dropped_records bodies has = let fold = keeps.2 bodies (start bodies has) in drops bodies fold.0 fold.1

  pub dropped_of : (end : End) → IsJournalOf M end old → IsJournalOf M end dropped
  dropped_of = journal_kept M old dropped dropped_gate dropped_version (λ none. closed) dropped_tells dropped_records

  pub dropped_with : (end : End) (places : List Spot) → IsJournalWith M end places old → IsJournalWith M end places dropped
  dropped_with = with_kept M old dropped dropped_gate dropped_version (λ none. closed) dropped_tells dropped_records

-- the endpoint's count of confirmed entries
pub confirmed_within : (end : End) → IsReached end → end.confirmed ≤ length end.inbox
confirmed_within end reached = (reached_sound end reached).inbox.came

-- a whole fold
module _ {D : Type 0} (M : DiskMeaning D) (old started added : Journal D) (bodies : List (List ℕ)) (starts : LeavesOnly M old.disk started.disk (InVersion old.version (OpensSettled bodies))) (adds : LeavesOnly M started.disk added.disk (InVersion started.version (OpensSettled bodies))) (same : started.version ≡ old.version) (end : End) (size : ℕ) where
  abbrev Before : Image → Type 0
  Before = InVersion old.version (OpensSettled bodies)

  abbrev After : Image → Type 0
  After c = Before c ⊎ IsAt c (resized size end)

  added_run : LeavesOnly M old.disk added.disk Before
  added_run =
      let P : Version → Type 0 = λ v. LeavesOnly M started.disk added.disk (InVersion v (OpensSettled bodies)) in
      then M old.disk started.disk added.disk Before starts (subst P same adds)

  -- none of its records was picked
  pub dropped_run : (new : D) → new ≡ added.disk → FirstThen M old.disk new Before After
  dropped_run new dropped =
      let P : D → Type 0 = λ d. LeavesOnly M old.disk d Before in
      inl (subst P (sym dropped) added_run)

  pub finished_run : (new : D) (effects : List Effect) → added.version ≡ started.version → IsReached end → IsFolded end effects → AreSpelled effects → IsFoldedSize end size
      → FirstThen M added.disk new (InVersion added.version (OpensSettled bodies)) (OpensToEither added.version bodies (map alone effects)) → FirstThen M old.disk new Before After
  finished_run new effects kept reached folded spelled (others, also, is) finishes =
      let sizes : folded_size effects ≡ size = ap folded_size (one_fold end effects others folded also) ∙ sym is in
      let P : ℕ → Type 0 = λ n. RecordsLead (map alone effects) empty_end (resized n end) in
      let leads = subst P sizes (effects_lead end effects reached folded spelled) in
      let Q : Version → Type 0 = λ v. FirstThen M added.disk new (InVersion v (OpensSettled bodies)) (OpensToEither v bodies (map alone effects)) in
      then_first M old.disk added.disk new Before After added_run
      (first_weaken M added.disk new Before (OpensToEither old.version bodies (map alone effects)) Before After
      (λ c has. has)
      (λ c one. ⊎_elim (λ (was : Before c). inl was) (λ (now : InVersion Two (OpensSettled (map alone effects)) c). inr (settled_at (map alone effects) (resized size end) c leads now)) one)
      (subst Q (kept ∙ same) finishes))

-- Records are taken one after the other.
use Rattle.std.proofs.Common.{◌≡◌, ℕ, zero, suc, ◌+◌, ◌≤◌, List, [], ◌∷◌, ◌++◌, Bool, true, false, if◌then◌else◌, Option, Some, None, length, refl, sym, subst, ap, ◌∙◌, append_assoc, arith}
use Rattle.std.specs.Prelude.{is_some}
use Rattle.std.proofs.lemmas.List.{append-nil}
use Rattle.as4_audit.specs.Audit.{AllRead, AreRight, IsAuditOf, IsFirstWrong, Reads, finding_of}
use Rattle.as4_audit.specs.Made.{Fits, IsMade, Makes}
use Rattle.as4_audit.specs.Start.{stage_after, start_of}
use Rattle.as4_audit.specs.Taking.{IsAdded, IsTaken, IsWalk, IsWrong}
use Rattle.as4_audit.specs.declared.finding.Audit.{Audit}
use Rattle.as4_audit.specs.declared.finding.Audit.TheVariants as audit
use Rattle.as4_audit.specs.declared.finding.Finding.TheVariants as finding
use Rattle.as4_audit.specs.declared.walk.Taken.{Taken}
use Rattle.as4_audit.specs.declared.walk.Taken.TheVariants as taken
use Rattle.as4_audit.specs.declared.walk.Walked.TheVariants as walked
use Rattle.as4_audit.proofs.ListLemmas.{read_all, read_more}
use Rattle.as4_audit.proofs.StartLemmas.{left_in_none, left_off, left_on, start_left}
use Rattle.as4_effects.specs.declared.effect.Effect.{Effect}
use Rattle.exchange_model.specs.Apply.{applied}
use Rattle.exchange_model.specs.End.{End, empty_end}
use Rattle.exchange_model.specs.declared.event.Event.{Event}
use Rattle.fold_laws.specs.Reached.{IsReached}
use Rattle.fold_laws.proofs.ReachedLemmas.{reached_applied}
use Rattle.journal.specs.Leaf.{Lists}
use Rattle.mode_values.specs.declared.mode.Mode.{Mode}

-- whatever follows these bodies: what is said of the records that are left, from here, is said of all
pub record IsWalkedTo (modes : List Mode) (first : End) (bodies : List (List ℕ)) (index : ℕ) (stage : Option ℕ) (start : ℕ) (now : End) (Holds : List Event → Type 0) : Type 0 where
  pub done : List (Option (List Effect))
  pub events : List Event
  pub read : AllRead bodies done
  pub within : start ≤ index
  pub reached : IsReached now
  pub holds : Holds events
  pub started : (rest : List (Option (List Effect))) → start_of (done ++ rest) ≡ start + start_left stage rest
  pub yes : (rest : List (Option (List Effect))) (later : List Event) → AreRight modes (start_left stage rest) now rest later
      → AreRight modes (start_of (done ++ rest)) first (done ++ rest) (events ++ later)
  pub no : (rest : List (Option (List Effect))) (n : ℕ) → IsFirstWrong modes (start_left stage rest) now rest n
      → IsFirstWrong modes (start_of (done ++ rest)) first (done ++ rest) (index + n)

pub walked_none : (modes : List Mode) (first : End) (Holds : List Event → Type 0) → IsReached first → Holds []
    → IsWalkedTo modes first [] 0 (Some 0) 0 first Holds
walked_none modes first Holds reached none = record {
  done = [];
  events = [];
  read = tt;
  within = omega arith;
  reached = reached;
  holds = none;
  started = λ rest. (let e : start_of rest ≡ 0 + start_of rest = omega arith in e);
  yes = λ rest later right. right;
  no = λ rest n wrong. subst (IsFirstWrong modes (start_of rest) first rest) (let e : n ≡ 0 + n = omega arith in e) wrong;
}

module _ (modes : List Mode) (first : End) (bodies : List (List ℕ)) (index : ℕ) (stage : Option ℕ) (start : ℕ) (now : End) (Holds : List Event → Type 0)
    (w : IsWalkedTo modes first bodies index stage start now Holds) (body : List ℕ) where
  folded_on : (effects : List Effect) (More : List Event → Type 0) → Reads body (Some effects) → is_some (stage_after stage (Some effects)) ≡ true
      → Fits now effects → ((events : List Event) → Holds events → More events)
      → IsWalkedTo modes first (bodies ++ body ∷ []) (index + 1) (stage_after stage (Some effects)) (start + 1) (applied effects now) More
  folded_on effects More reads inside fits adds =
      let next = stage_after stage (Some effects) in
      let whole : (rest : List (Option (List Effect))) → w.done ++ Some effects ∷ rest ≡ (w.done ++ Some effects ∷ []) ++ rest =
      λ rest. sym (append_assoc w.done (Some effects ∷ []) rest) in
      let left : (rest : List (Option (List Effect))) → start_left stage (Some effects ∷ rest) ≡ suc (start_left next rest) =
      λ rest. left_on stage (Some effects) rest inside in
      record {
        done = w.done ++ Some effects ∷ [];
        events = w.events;
        read = read_more bodies w.done body (Some effects) w.read reads;
        within = omega (arith, w.within);
        reached = reached_applied now effects w.reached fits.fit;
        holds = adds w.events w.holds;
        started = λ rest. ap start_of (sym (whole rest)) ∙ w.started (Some effects ∷ rest)
            ∙ (let e : start + start_left stage (Some effects ∷ rest) ≡ start + 1 + start_left next rest = omega (arith, left rest) in e);
        yes = λ rest later right. subst (λ (rs : List (Option (List Effect))). AreRight modes (start_of rs) first rs (w.events ++ later)) (whole rest)
            (w.yes (Some effects ∷ rest) later (subst (λ k. AreRight modes k now (Some effects ∷ rest) later) (sym (left rest)) (fits, right)));
        no = λ rest n wrong. subst (λ (rs : List (Option (List Effect))). IsFirstWrong modes (start_of rs) first rs (index + 1 + n)) (whole rest)
            (subst (IsFirstWrong modes (start_of (w.done ++ Some effects ∷ rest)) first (w.done ++ Some effects ∷ rest))
            (let e : index + suc n ≡ index + 1 + n = omega arith in e)
            (w.no (Some effects ∷ rest) (suc n) (subst (λ k. IsFirstWrong modes k now (Some effects ∷ rest) (suc n)) (sym (left rest)) (fits, wrong))));
      }

  made_on : (effects : List Effect) (event : Event) (More : List Event → Type 0) → Reads body (Some effects)
      → is_some (stage_after stage (Some effects)) ≡ false → IsMade modes now effects → Makes modes now event effects
      → ((events : List Event) → Holds events → More (events ++ event ∷ []))
      → IsWalkedTo modes first (bodies ++ body ∷ []) (index + 1) (stage_after stage (Some effects)) start (applied effects now) More
  made_on effects event More reads outside made makes adds =
      let next = stage_after stage (Some effects) in
      let whole : (rest : List (Option (List Effect))) → w.done ++ Some effects ∷ rest ≡ (w.done ++ Some effects ∷ []) ++ rest =
      λ rest. sym (append_assoc w.done (Some effects ∷ []) rest) in
      let none : (rest : List (Option (List Effect))) → start_left stage (Some effects ∷ rest) ≡ 0 =
      λ rest. (left_off stage (Some effects) rest outside).0 in
      let still : (rest : List (Option (List Effect))) → start_left next rest ≡ 0 = λ rest. (left_off stage (Some effects) rest outside).1 in
      record {
        done = w.done ++ Some effects ∷ [];
        events = w.events ++ event ∷ [];
        read = read_more bodies w.done body (Some effects) w.read reads;
        within = omega (arith, w.within);
        reached = reached_applied now effects w.reached made.fits.fit;
        holds = adds w.events w.holds;
        started = λ rest. ap start_of (sym (whole rest)) ∙ w.started (Some effects ∷ rest)
            ∙ (let e : start + start_left stage (Some effects ∷ rest) ≡ start + start_left next rest = omega (arith, none rest, still rest) in e);
        yes = λ rest later right. subst (λ (rs : List (Option (List Effect))). AreRight modes (start_of rs) first rs ((w.events ++ event ∷ []) ++ later)) (whole rest)
            (subst (AreRight modes (start_of (w.done ++ Some effects ∷ rest)) first (w.done ++ Some effects ∷ rest)) (sym (append_assoc w.events (event ∷ []) later))
            (w.yes (Some effects ∷ rest) (event ∷ later) (subst (λ k. AreRight modes k now (Some effects ∷ rest) (event ∷ later)) (sym (none rest))
            (made, makes, subst (λ k. AreRight modes k (applied effects now) rest later) (still rest) right))));
        no = λ rest n wrong. subst (λ (rs : List (Option (List Effect))). IsFirstWrong modes (start_of rs) first rs (index + 1 + n)) (whole rest)
            (subst (IsFirstWrong modes (start_of (w.done ++ Some effects ∷ rest)) first (w.done ++ Some effects ∷ rest))
            (let e : index + suc n ≡ index + 1 + n = omega arith in e)
            (w.no (Some effects ∷ rest) (suc n) (subst (λ k. IsFirstWrong modes k now (Some effects ∷ rest) (suc n)) (sym (none rest))
            (made, subst (λ k. IsFirstWrong modes k (applied effects now) rest n) (still rest) wrong))));
      }

  -- the number of records of the start with one more record
  abbrev pub with_one : Option (List Effect) → ℕ
  with_one item = if is_some (stage_after stage item) then start + 1 else start

  -- a record that is right
  pub walked_on : (item : Option (List Effect)) (new : End) (More : List Event → Type 0) (result : Taken) → Reads body item
      → IsTaken modes (is_some (stage_after stage item)) now new item result → IsAdded Holds More result true
      → IsWalkedTo modes first (bodies ++ body ∷ []) (index + 1) (stage_after stage item) (with_one item) new More
  walked_on None new More result reads is added =
      let p : IsAdded Holds More taken.Wrong true = subst (λ (t : Taken). IsAdded Holds More t true) is added in
      let no : true ≡ false = p in absurd cc
  walked_on (Some effects) new More taken.Folded reads is added = rw (is.0, is.2) (folded_on effects More reads is.0 is.1 added.1)
  walked_on (Some effects) new More (taken.Made event) reads is added = rw (is.0, is.3) (made_on effects event More reads is.0 is.1 is.2 added.1)
  walked_on (Some effects) new More taken.Wrong reads is added = let no : true ≡ false = added in absurd cc

  wrong_by : (effects : List Effect) (rest : List (Option (List Effect))) (folded : Bool) → is_some (stage_after stage (Some effects)) ≡ folded
      → IsWrong modes folded now effects → IsFirstWrong modes (start_left stage (Some effects ∷ rest)) now (Some effects ∷ rest) 0
  wrong_by effects rest true inside wrong = subst (λ k. IsFirstWrong modes k now (Some effects ∷ rest) 0) (sym (left_on stage (Some effects) rest inside)) wrong
  wrong_by effects rest false outside wrong = subst (λ k. IsFirstWrong modes k now (Some effects ∷ rest) 0) (sym (left_off stage (Some effects) rest outside).0) wrong

  none_wrong : (rest : List (Option (List Effect))) (left : ℕ) → IsFirstWrong modes left now (None ∷ rest) 0
  none_wrong rest zero = refl
  none_wrong rest (suc left) = refl

  wrong_here : (item : Option (List Effect)) (rest : List (Option (List Effect))) (new : End) (More : List Event → Type 0) (result : Taken)
      → IsTaken modes (is_some (stage_after stage item)) now new item result → IsAdded Holds More result false
      → IsFirstWrong modes (start_left stage (item ∷ rest)) now (item ∷ rest) 0
  wrong_here None rest new More result is added = none_wrong rest (start_left stage (None ∷ rest))
  wrong_here (Some effects) rest new More taken.Folded is added = let no : false ≡ true = added.0 in absurd cc
  wrong_here (Some effects) rest new More (taken.Made event) is added = let no : false ≡ true = added.0 in absurd cc
  wrong_here (Some effects) rest new More taken.Wrong is added = wrong_by effects rest (is_some (stage_after stage (Some effects))) refl is

  -- and one that isn't
  pub walked_wrong : (item : Option (List Effect)) (new : End) (More : List Event → Type 0) (result : Taken) (others : List (List ℕ)) (rest : List (Option (List Effect)))
      → Reads body item → AllRead others rest → IsTaken modes (is_some (stage_after stage item)) now new item result → IsAdded Holds More result false
      → IsWalk modes first (bodies ++ body ∷ others) More (walked.Wrong index)
  walked_wrong item new More result others rest reads all is added = record {
    records = w.done ++ item ∷ rest;
    read = read_all bodies w.done body item others rest w.read reads all;
    says = subst (IsFirstWrong modes (start_of (w.done ++ item ∷ rest)) first (w.done ++ item ∷ rest)) (let e : index + 0 ≡ index = omega arith in e)
        (w.no (item ∷ rest) 0 (wrong_here item rest new More result is added));
  }

-- all are right
pub walked_all : (modes : List Mode) (first : End) (bodies : List (List ℕ)) (index : ℕ) (stage : Option ℕ) (start : ℕ) (now : End) (Holds : List Event → Type 0)
    → IsWalkedTo modes first bodies index stage start now Holds → IsWalk modes first bodies Holds (walked.Right start)
walked_all modes first bodies index stage start now Holds w = record {
  records = w.done;
  read = w.read;
  says = (
    (let e : start ≡ start + start_left stage [] = omega (arith, left_in_none stage) in e) ∙ sym (w.started []) ∙ ap start_of (append-nil w.done),
    w.events,
    w.holds,
    subst (λ (rs : List (Option (List Effect))). AreRight modes (start_of rs) first rs w.events) (append-nil w.done)
        (subst (AreRight modes (start_of (w.done ++ [])) first (w.done ++ [])) (append-nil w.events) (w.yes [] [] (right_by (start_left stage [])))),
  );
}
  where
    right_by : (left : ℕ) → AreRight modes left now [] []
    right_by zero = refl
    right_by (suc left) = refl

-- what is found of a leaf whose records are right, with the number of their events
pub counted_right : (modes : List Mode) (leaf : List ℕ) (start count : ℕ)
    → ((bodies : List (List ℕ)) × Lists bodies leaf × IsWalk modes empty_end bodies (λ (events : List Event). count ≡ length events) (walked.Right start))
    → (said : Audit) × IsAuditOf modes leaf said × (finding.Yes start count ≡ finding_of said)
counted_right modes leaf start count (bodies, lists, walk) = (
  audit.Yes start walk.says.1,
  record {
    bodies = bodies;
    records = walk.records;
    lists = lists;
    read = walk.read;
    says = (walk.says.0, walk.says.3);
  },
  ap (finding.Yes start) walk.says.2,
)

-- and of one with a record that isn't
pub counted_wrong : (modes : List Mode) (leaf : List ℕ) (index : ℕ) (Holds : List Event → Type 0)
    → ((bodies : List (List ℕ)) × Lists bodies leaf × IsWalk modes empty_end bodies Holds (walked.Wrong index))
    → (said : Audit) × IsAuditOf modes leaf said × (finding.No index ≡ finding_of said)
counted_wrong modes leaf index Holds (bodies, lists, walk) = (
  audit.No index,
  record {
    bodies = bodies;
    records = walk.records;
    lists = lists;
    read = walk.read;
    says = walk.says;
  },
  refl,
)

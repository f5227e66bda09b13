-- Effects that are of no event, by their first ones; and whether an event was found.
use Rattle.std.proofs.Common.{◌≡◌, ℕ, ◌+◌, ◌<◌, ◌≤◌, List, [], ◌∷◌, Bool, true, false, Option, Some, None, length, get_or, take, drop, ◌-◌, refl, ap, sym, subst, ◌∙◌, arith, inl, inr}
use Rattle.std.specs.Prelude.{◌||◌, ◌==◌, nat_le}
use Rattle.std.proofs.lemmas.Bool.{ne_eqb}
use Rattle.std.proofs.lemmas.List.{take_all}
use Rattle.as4_audit.specs.Made.{AreOfEvent, AreRefusals, IsMade, Makes}
use Rattle.as4_audit.specs.Taking.{AreTaken, IsCandidate, IsReplayed, IsWrong}
use Rattle.as4_audit.specs.declared.walk.Taken.{Taken}
use Rattle.as4_audit.specs.declared.walk.Taken.TheVariants as taken
use Rattle.as4_audit.proofs.LawLemmas.{step_made}
use Rattle.as4_effects.specs.declared.effect.Effect.{Effect}
use Rattle.as4_effects.specs.declared.effect.Effect.TheVariants as effect
use Rattle.exchange_laws.proofs.EndSteps.{by_bool}
use Rattle.exchange_model.specs.Apply.{record_len}
use Rattle.exchange_model.specs.End.{End}
use Rattle.exchange_model.specs.Table.{RowOf, Step, has_room}
use Rattle.exchange_model.specs.declared.event.Event.{Event}
use Rattle.exchange_model.specs.declared.outcome.Outcome.{Outcome}
use Rattle.exchange_model.specs.declared.what.What.{What}
use Rattle.exchange_model.specs.declared.what.What.TheVariants as what
use Rattle.fold_laws.specs.Reached.{IsReached}
use Rattle.mode_values.specs.declared.mode.Mode.{Mode}
use Rattle.msh_core.proofs.GivenLemmas.{given_step, other_step}
use Rattle.msh_core.specs.Machine.{IsGiven}
use Rattle.outcome_laws.proofs.OneOutcome.{one_outcome}

pub no_carried : (modes : List Mode) (end : End) (e : Effect) (c : _) → e ≡ effect.Carried c → IsMade modes end (e ∷ []) → ⊥
unfolding AreOfEvent
no_carried modes end e c is made = subst (λ (f : Effect). AreOfEvent modes end (f ∷ [])) is made.kind

pub no_kept : (modes : List Mode) (end : End) (e : Effect) (k : _) → e ≡ effect.Kept k → IsMade modes end (e ∷ []) → ⊥
unfolding AreOfEvent
no_kept modes end e k is made = subst (λ (f : Effect). AreOfEvent modes end (f ∷ [])) is made.kind

-- no effects
pub no_effects : (modes : List Mode) (end : End) (effects : List Effect) → length effects < 1 → IsMade modes end effects → ⊥
unfolding AreOfEvent
no_effects modes end [] none made = made.kind
no_effects modes end (e ∷ effects) none made = omega arith

-- a receipt and more than one other
pub long_receipt : (modes : List Mode) (end : End) (number : ℕ) (rest : List Effect) → 2 ≤ length rest
    → IsMade modes end (effect.Receipted number ∷ rest) → ⊥
unfolding AreOfEvent
long_receipt modes end number [] long made = absurd (omega arith)
long_receipt modes end number (e ∷ []) long made = absurd (omega arith)
long_receipt modes end number (effect.Tried n ∷ f ∷ rest) long made = made.kind
long_receipt modes end number (effect.Submitted s ∷ f ∷ rest) long made = made.kind
long_receipt modes end number (effect.Ticked t ∷ f ∷ rest) long made = made.kind
long_receipt modes end number (effect.Delivered d ∷ f ∷ rest) long made = made.kind
long_receipt modes end number (effect.Receipted n ∷ f ∷ rest) long made = made.kind
long_receipt modes end number (effect.Refused n c ∷ f ∷ rest) long made = made.kind
long_receipt modes end number (effect.Confirmed n ∷ f ∷ rest) long made = made.kind
long_receipt modes end number (effect.Carried c ∷ f ∷ rest) long made = made.kind
long_receipt modes end number (effect.Kept k ∷ f ∷ rest) long made = made.kind

-- a receipt and something else than a try
pub other_receipt : (modes : List Mode) (end : End) (number : ℕ) (e : Effect) → ((n : ℕ) → e ≡ effect.Tried n → ⊥)
    → IsMade modes end (effect.Receipted number ∷ e ∷ []) → ⊥
unfolding AreOfEvent
other_receipt modes end number (effect.Tried n) other made = other n refl
other_receipt modes end number (effect.Submitted s) other made = made.kind
other_receipt modes end number (effect.Ticked t) other made = made.kind
other_receipt modes end number (effect.Delivered d) other made = made.kind
other_receipt modes end number (effect.Receipted n) other made = made.kind
other_receipt modes end number (effect.Refused n c) other made = made.kind
other_receipt modes end number (effect.Confirmed n) other made = made.kind
other_receipt modes end number (effect.Carried c) other made = made.kind
other_receipt modes end number (effect.Kept k) other made = made.kind

-- several, of which the first is neither a refusal nor a receipt
pub other_first : (modes : List Mode) (end : End) (e : Effect) (rest : List Effect) → 1 ≤ length rest
    → ((n : ℕ) (c : List ℕ) → e ≡ effect.Refused n c → ⊥) → ((n : ℕ) → e ≡ effect.Receipted n → ⊥) → IsMade modes end (e ∷ rest) → ⊥
unfolding AreOfEvent
other_first modes end e [] some no_refusal no_receipt made = absurd (omega arith)
other_first modes end (effect.Refused n c) (f ∷ rest) some no_refusal no_receipt made = no_refusal n c refl
other_first modes end (effect.Receipted n) (f ∷ rest) some no_refusal no_receipt made = no_receipt n refl
other_first modes end (effect.Tried n) (f ∷ rest) some no_refusal no_receipt made = made.kind
other_first modes end (effect.Submitted s) (f ∷ rest) some no_refusal no_receipt made = made.kind
other_first modes end (effect.Ticked t) (f ∷ rest) some no_refusal no_receipt made = made.kind
other_first modes end (effect.Delivered d) (f ∷ rest) some no_refusal no_receipt made = made.kind
other_first modes end (effect.Confirmed n) (f ∷ rest) some no_refusal no_receipt made = made.kind
other_first modes end (effect.Carried c) (f ∷ rest) some no_refusal no_receipt made = made.kind
other_first modes end (effect.Kept k) (f ∷ rest) some no_refusal no_receipt made = made.kind

-- where the first is a refusal, all are
pub are_refusals : (modes : List Mode) (end : End) (number : ℕ) (code : List ℕ) (rest : List Effect)
    → IsMade modes end (effect.Refused number code ∷ rest) → AreRefusals (effect.Refused number code ∷ rest)
unfolding AreOfEvent
are_refusals modes end number code rest made = made.kind.0

pub refused_candidate : (modes : List Mode) (end : End) (effects rest : List Effect) (number : ℕ) (code : List ℕ) (found : Option Event)
    → effects ≡ effect.Refused number code ∷ rest → (AreRefusals effects → IsCandidate modes end effects found) → IsCandidate modes end effects found
refused_candidate modes end effects rest number code found is candidate = by_found found candidate
  where
    are : IsMade modes end effects → AreRefusals effects
    are made = subst AreRefusals (sym is) (are_refusals modes end number code rest (subst (IsMade modes end) is made))

    by_found : (o : Option Event) → (AreRefusals effects → IsCandidate modes end effects o) → IsCandidate modes end effects o
    by_found None h = λ made. h (are made) made
    by_found (Some event) h = λ made. h (are made) made

-- what the machine gives for the event are these effects
pub found_made : (modes : List Mode) (end : End) (event : Event) (effects : List Effect) (outcome : Outcome) → IsReached end
    → (effects ≡ [] → ⊥) → IsGiven modes end event outcome → outcome.effects ≡ effects
    → IsMade modes end effects × Makes modes end event effects
found_made modes end event effects outcome reached some given is =
    let some_given : outcome.effects ≡ [] → ⊥ = λ none. some (sym is ∙ none) in
    let step : Step modes end event outcome = given_step modes end event outcome some_given given in
    (subst (IsMade modes end) is (step_made modes end event outcome reached step some_given), (outcome, step, is))

-- reading changes nothing
reads_none : (modes : List Mode) (end : End) (event : Event) (outcome : Outcome) (n : ℕ) → event.what ≡ what.Read n
    → Step modes end event outcome → outcome.effects ≡ []
reads_none modes end event outcome n is step =
    by_bool _ _ _ (has_room end step.row.effects) step.limited (λ _ same. ap (λ (o : Outcome). o.effects) same ∙ none)
    (λ _ full. ap (λ (o : Outcome). o.effects) full)
  where
    none : step.row.effects ≡ []
    none = ap (λ (o : Outcome). o.effects) (subst (λ (w : What). RowOf modes end event w step.row) is step.decided)

-- or they aren't, and no event makes them
pub not_found : (modes : List Mode) (end : End) (event : Event) (effects : List Effect) (outcome : Outcome) → (effects ≡ [] → ⊥)
    → IsGiven modes end event outcome → (outcome.effects ≡ effects → ⊥) → (IsMade modes end effects → Makes modes end event effects)
    → IsMade modes end effects → ⊥
not_found modes end event effects outcome some given other candidate made =
    let m = candidate made in
    let step : Step modes end event outcome =
    other_step modes end event outcome (λ n is. some (sym m.2 ∙ reads_none modes end event m.0 n is m.1)) given in
    other (ap (λ (o : Outcome). o.effects) (one_outcome modes end event outcome m.0 step m.1) ∙ m.2)

or_true : (b : Bool) → (b || true) ≡ true
or_true true = refl
or_true false = refl

-- the journal has no room for the record
no_room : (end : End) (effects : List Effect) → 1 ≤ length effects → nat_le (end.size + record_len effects) 4294967296 ≡ false → has_room end effects ≡ false
unfolding has_room
no_room end effects some full = rw (ne_eqb (length effects) 0 (λ e. omega arith), full) refl

pub wrong_by_room : (modes : List Mode) (folded : Bool) (end : End) (effects : List Effect) → 1 ≤ length effects
    → nat_le (end.size + record_len effects) 4294967296 ≡ false → IsWrong modes folded end effects
wrong_by_room modes true end effects some full = λ fits. let no : false ≡ true = sym (no_room end effects some full) ∙ fits.room in cc
wrong_by_room modes false end effects some full = λ made. let no : false ≡ true = sym (no_room end effects some full) ∙ made.fits.room in cc

pub has_its_room : (end : End) (effects : List Effect) → nat_le (end.size + record_len effects) 4294967296 ≡ true → has_room end effects ≡ true
unfolding has_room
has_its_room end effects room = rw room (or_true (length effects == 0))

pub taken_folded : (modes : List Mode) (folded : Bool) (end new : End) (effects : List Effect) (result : Taken) → folded ≡ true
    → nat_le (end.size + record_len effects) 4294967296 ≡ true → IsReplayed end new effects taken.Folded result
    → AreTaken modes folded end new effects result
taken_folded modes folded end new effects result inside room (inl on) =
    subst (AreTaken modes folded end new effects) (sym on.2)
    (inside, record { fit = on.0; room = has_its_room end effects room }, on.1)
taken_folded modes folded end new effects result inside room (inr off) =
    subst (AreTaken modes folded end new effects) (sym off.1)
    (subst (λ b. IsWrong modes b end effects) (sym inside) (λ fits. off.0 fits.fit))

pub taken_made : (modes : List Mode) (folded : Bool) (end new : End) (effects : List Effect) (event : Event) (result : Taken) → folded ≡ false
    → IsMade modes end effects → Makes modes end event effects → IsReplayed end new effects (taken.Made event) result
    → AreTaken modes folded end new effects result
taken_made modes folded end new effects event result outside made makes (inl on) =
    subst (AreTaken modes folded end new effects) (sym on.2) (outside, made, makes, on.1)
taken_made modes folded end new effects event result outside made makes (inr off) = absurd (off.0 made.fits.fit)

-- a list by its first item
pub opened : (effects : List Effect) (first : Effect) → 1 ≤ length effects → first ≡ get_or effects 0 first
    → effects ≡ first ∷ take (length effects - 1) (drop 1 effects)
opened [] first some is = absurd (omega arith)
opened (e ∷ effects) first some is =
    let all : length effects ≤ length (e ∷ effects) - 1 = omega arith in
    rw (is, take_all (length (e ∷ effects) - 1) effects all) refl

pub not_empty : (effects : List Effect) → false ≡ (length effects == 0) → 1 ≤ length effects
not_empty [] e = absurd cc
not_empty (e ∷ effects) some = omega arith

pub single : (effects : List Effect) (e : Effect) → 1 ≤ length effects → length effects ≤ 1 → e ≡ get_or effects 0 e → effects ≡ e ∷ []
single [] e some few is = absurd (omega arith)
single (f ∷ []) e some few is = rw is refl
single (f ∷ g ∷ effects) e some few is = absurd (omega arith)

pub single_candidate : (modes : List Mode) (end : End) (number head : ℕ) (rest : List Effect) (e : Effect) (found : Option Event)
    → 1 ≤ length rest → length rest ≤ 1 → e ≡ get_or rest 0 e → e ≡ effect.Tried head
    → IsCandidate modes end (effect.Receipted number ∷ effect.Tried head ∷ []) found → IsCandidate modes end (effect.Receipted number ∷ rest) found
single_candidate modes end number head rest e found some few is tries candidate =
    subst (λ (es : List Effect). IsCandidate modes end (effect.Receipted number ∷ es) found)
    (sym (single rest e some few is ∙ ap (λ (f : Effect). f ∷ []) tries)) candidate

pub opened_as : (effects rest : List Effect) (first as_it_is : Effect) → effects ≡ first ∷ rest → first ≡ as_it_is → effects ≡ as_it_is ∷ rest
opened_as effects rest first as_it_is e is = e ∙ ap (λ (f : Effect). f ∷ rest) is

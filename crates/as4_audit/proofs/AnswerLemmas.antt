-- A leaf has one answer.
use Rattle.std.proofs.Common.{◌≡◌, ℕ, zero, suc, ◌≤◌, List, [], ◌∷◌, Option, Some, None, length, refl, ap, sym, subst, ◌∙◌}
use Rattle.as4_audit.specs.Audit.{AllRead, AreRight, IsAuditOf, IsFirstWrong, Reads}
use Rattle.as4_audit.specs.declared.finding.Audit.{Audit}
use Rattle.as4_effects.specs.Effects.{effects_body, effects_limit}
use Rattle.as4_effects.specs.declared.effect.Effect.{Effect}
use Rattle.event_code.specs.Spelled.{AreSpelled}
use Rattle.exchange_model.specs.Apply.{applied}
use Rattle.exchange_model.specs.End.{End}
use Rattle.exchange_model.specs.declared.event.Event.{Event}
use Rattle.journal.proofs.StoreLemmas.{lists_once}
use Rattle.mode_values.specs.declared.mode.Mode.{Mode}

-- no bytes are the body of two lists of effects
abbrev pub OneBody : Type 0
OneBody = (e f : List Effect) → length e ≤ effects_limit → length f ≤ effects_limit → AreSpelled e → AreSpelled f
    → effects_body e ≡ effects_body f → e ≡ f

read_once : (body : List ℕ) (a b : Option (List Effect)) → OneBody → Reads body a → Reads body b → a ≡ b
read_once body None None one r s = refl
read_once body None (Some f) one r s = absurd (r f s)
read_once body (Some e) None one r s = absurd (s e r)
read_once body (Some e) (Some f) one r s = ap Some (one e f r.counted s.counted r.spelled s.spelled (sym r.bytes ∙ s.bytes))

all_once : (bodies : List (List ℕ)) (a b : List (Option (List Effect))) → OneBody → AllRead bodies a → AllRead bodies b → a ≡ b
all_once [] [] [] one r s = refl
all_once [] (x ∷ a) b one r s = absurd r
all_once [] [] (y ∷ b) one r s = absurd s
all_once (body ∷ bodies) [] b one r s = absurd r
all_once (body ∷ bodies) (x ∷ a) [] one r s = absurd s
all_once (body ∷ bodies) (x ∷ a) (y ∷ b) one r s = rw (read_once body x y one r.0 s.0, all_once bodies a b one r.1 s.1) refl

-- two audits of a leaf are of the same records
pub same_records : (modes : List Mode) (leaf : List ℕ) (x y : Audit) → OneBody → (a : IsAuditOf modes leaf x) (b : IsAuditOf modes leaf y)
    → a.records ≡ b.records
same_records modes leaf x y one a b =
    let bodies : a.bodies ≡ b.bodies = lists_once a.bodies b.bodies leaf a.lists b.lists in
    all_once b.bodies a.records b.records one (subst (λ (bs : List (List ℕ)). AllRead bs a.records) bodies a.read) b.read

pub excluded : (modes : List Mode) (start : ℕ) (end : End) (records : List (Option (List Effect))) (events : List Event) (index : ℕ)
    → AreRight modes start end records events → IsFirstWrong modes start end records index → ⊥
excluded modes zero end [] events index right wrong = wrong
excluded modes (suc start) end [] events index right wrong = wrong
excluded modes zero end (None ∷ records) events index right wrong = right
excluded modes (suc start) end (None ∷ records) events index right wrong = right
excluded modes (suc start) end (Some effects ∷ records) events zero right wrong = wrong right.0
excluded modes (suc start) end (Some effects ∷ records) events (suc index) right wrong =
    excluded modes start (applied effects end) records events index right.1 wrong.1
excluded modes zero end (Some effects ∷ records) [] index right wrong = right
excluded modes zero end (Some effects ∷ records) (event ∷ events) zero right wrong = wrong right.0
excluded modes zero end (Some effects ∷ records) (event ∷ events) (suc index) right wrong =
    excluded modes zero (applied effects end) records events index right.2 wrong.1

pub one_place : (modes : List Mode) (start : ℕ) (end : End) (records : List (Option (List Effect))) (a b : ℕ)
    → IsFirstWrong modes start end records a → IsFirstWrong modes start end records b → a ≡ b
one_place modes zero end [] a b x y = absurd x
one_place modes (suc start) end [] a b x y = absurd x
one_place modes zero end (None ∷ records) a b x y = x ∙ sym y
one_place modes (suc start) end (None ∷ records) a b x y = x ∙ sym y
one_place modes (suc start) end (Some effects ∷ records) zero zero x y = refl
one_place modes (suc start) end (Some effects ∷ records) zero (suc b) x y = absurd (x y.0)
one_place modes (suc start) end (Some effects ∷ records) (suc a) zero x y = absurd (y x.0)
one_place modes (suc start) end (Some effects ∷ records) (suc a) (suc b) x y = ap suc (one_place modes start (applied effects end) records a b x.1 y.1)
one_place modes zero end (Some effects ∷ records) zero zero x y = refl
one_place modes zero end (Some effects ∷ records) zero (suc b) x y = absurd (x y.0)
one_place modes zero end (Some effects ∷ records) (suc a) zero x y = absurd (y x.0)
one_place modes zero end (Some effects ∷ records) (suc a) (suc b) x y = ap suc (one_place modes zero (applied effects end) records a b x.1 y.1)

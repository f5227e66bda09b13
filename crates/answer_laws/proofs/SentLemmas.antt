-- The submissions of an endpoint that records of a journal lead to have headers whose texts are texts.
use Rattle.std.proofs.Common.{◌≡◌, inl, inr, ℕ, List, [], ◌∷◌, ◌++◌, Bool, true, false, map, refl, sym, subst}
use Rattle.std.specs.Prelude.{◌==◌, if◌then◌else◌}
use Rattle.as4_effects.specs.declared.effect.Effect.{Effect}
use Rattle.as4_effects.specs.declared.effect.Effect.TheVariants as effect
use Rattle.as4_effects.specs.declared.mark.Mark.TheVariants as mark
use Rattle.byte_forms.specs.Forms.{Each}
use Rattle.event_code.specs.Spelled.{AreSpelled, IsSpelledCarried, IsSpelledEffect, IsSpelledHeader, IsSpelledSubmission}
use Rattle.exchange_model.proofs.ListLemmas.{Has}
use Rattle.exchange_model.specs.Apply.{after, after_all, applied, as_carried, changed, failed_if_spent, marked, tried, unsent}
use Rattle.exchange_model.specs.End.{End, empty_end}
use Rattle.exchange_model.specs.Questions.{is_spent}
use Rattle.exchange_model.specs.declared.sent.Sent.{Sent}
use Rattle.msh_recovery.specs.Records.{RecordsLead}

-- the texts of its header are texts
abbrev pub IsSpelledSent : Sent → Type 0
IsSpelledSent s = IsSpelledHeader s.submission.header

abbrev pub AreSentSpelled : End → Type 0
AreSentSpelled end = Each IsSpelledSent end.sent

-- one of them
pub has_spelled : (sent : List Sent) (s : Sent) → Each IsSpelledSent sent → Has sent s → IsSpelledSent s
has_spelled [] s each has = absurd has
has_spelled (t ∷ sent) s each (inl same) = subst IsSpelledSent same each.0
has_spelled (t ∷ sent) s each (inr later) = has_spelled sent s each.1 later

-- changes of submissions keep their headers

abbrev KeepsSubmission : (Sent → Sent) → Type 0
KeepsSubmission change = (s : Sent) → (change s).submission ≡ s.submission

if_same : (test : Bool) (change : Sent → Sent) → KeepsSubmission change → (s : Sent) → (if test then change s else s).submission ≡ s.submission
if_same true change same s = same s
if_same false change same s = refl

spent_same : (moment : ℕ) → KeepsSubmission (failed_if_spent moment)
spent_same moment s = if_same (is_spent moment s) (marked mark.Failed) (λ t. refl) s

one_same : (number : ℕ) (change : Sent → Sent) → KeepsSubmission change → KeepsSubmission (λ s. if s.submission.number == number then change s else s)
one_same number change same s = if_same (s.submission.number == number) change same s

to_changed : (change : Sent → Sent) → KeepsSubmission change → (sent : List Sent) → Each IsSpelledSent sent → Each IsSpelledSent (map change sent)
to_changed change same [] each = tt
to_changed change same (s ∷ sent) each = (subst (λ x. IsSpelledHeader x.header) (sym (same s)) each.0, to_changed change same sent each.1)

from_changed : (change : Sent → Sent) → KeepsSubmission change → (sent : List Sent) → Each IsSpelledSent (map change sent) → Each IsSpelledSent sent
from_changed change same [] each = tt
from_changed change same (s ∷ sent) each = (subst (λ x. IsSpelledHeader x.header) (same s) each.0, from_changed change same sent each.1)

to_more : (sent : List Sent) (s : Sent) → Each IsSpelledSent sent → IsSpelledSent s → Each IsSpelledSent (sent ++ s ∷ [])
to_more [] s each is = (is, tt)
to_more (t ∷ sent) s each is = (each.0, to_more sent s each.1 is)

from_more : (sent : List Sent) (s : Sent) → Each IsSpelledSent (sent ++ s ∷ []) → Each IsSpelledSent sent
from_more [] s each = tt
from_more (t ∷ sent) s each = (each.0, from_more sent s each.1)

-- forwards over effects that are spelled, backwards over any

to_after : (e : Effect) (end : End) → IsSpelledEffect e → AreSentSpelled end → AreSentSpelled (after e end)
unfolding after changed IsSpelledEffect IsSpelledCarried IsSpelledSubmission
to_after (effect.Submitted s) end is each = to_more end.sent (unsent s) each is.0
to_after (effect.Ticked tick) end is each = to_changed (failed_if_spent tick.moment) (spent_same tick.moment) end.sent each
to_after (effect.Tried number) end is each = to_changed _ (one_same number (tried end.moment) (λ s. refl)) end.sent each
to_after (effect.Delivered d) end is each = each
to_after (effect.Receipted number) end is each = to_changed _ (one_same number (marked mark.Receipted) (λ s. refl)) end.sent each
to_after (effect.Refused number code) end is each = to_changed _ (one_same number (marked (mark.Refused code)) (λ s. refl)) end.sent each
to_after (effect.Confirmed upto) end is each = each
to_after (effect.Carried c) end is each = to_more end.sent (as_carried c) each is.0.0
to_after (effect.Kept k) end is each = each

from_after : (e : Effect) (end : End) → AreSentSpelled (after e end) → AreSentSpelled end
unfolding after changed
from_after (effect.Submitted s) end each = from_more end.sent (unsent s) each
from_after (effect.Ticked tick) end each = from_changed (failed_if_spent tick.moment) (spent_same tick.moment) end.sent each
from_after (effect.Tried number) end each = from_changed _ (one_same number (tried end.moment) (λ s. refl)) end.sent each
from_after (effect.Delivered d) end each = each
from_after (effect.Receipted number) end each = from_changed _ (one_same number (marked mark.Receipted) (λ s. refl)) end.sent each
from_after (effect.Refused number code) end each = from_changed _ (one_same number (marked (mark.Refused code)) (λ s. refl)) end.sent each
from_after (effect.Confirmed upto) end each = each
from_after (effect.Carried c) end each = from_more end.sent (as_carried c) each
from_after (effect.Kept k) end each = each

to_after_all : (effects : List Effect) (end : End) → AreSpelled effects → AreSentSpelled end → AreSentSpelled (after_all effects end)
to_after_all [] end spelled each = each
to_after_all (e ∷ effects) end spelled each = to_after_all effects (after e end) spelled.1 (to_after e end spelled.0 each)

pub from_after_all : (effects : List Effect) (end : End) → AreSentSpelled (after_all effects end) → AreSentSpelled end
from_after_all [] end each = each
from_after_all (e ∷ effects) end each = from_after e end (from_after_all effects (after e end) each)

-- of effects one after another, those behind the first ones
pub after_more : (first more : List Effect) (end : End) → after_all (first ++ more) end ≡ after_all more (after_all first end)
after_more [] more end = refl
after_more (e ∷ first) more end = after_more first more (after e end)

-- a record changes the size alone besides

pub from_applied : (effects : List Effect) (end : End) → AreSentSpelled (applied effects end) → AreSentSpelled (after_all effects end)
unfolding applied
from_applied [] end each = each
from_applied (e ∷ effects) end each = each

to_applied : (effects : List Effect) (end : End) → AreSpelled effects → AreSentSpelled end → AreSentSpelled (applied effects end)
unfolding applied
to_applied [] end spelled each = each
to_applied (e ∷ effects) end spelled each = to_after_all (e ∷ effects) end spelled each

records_spell : (bodies : List (List ℕ)) (start end : End) → RecordsLead bodies start end → AreSentSpelled start → AreSentSpelled end
records_spell [] start end here each = subst AreSentSpelled here each
records_spell (body ∷ bodies) start end ((next, (effects, is, fits, leads), rest)) each =
    records_spell bodies next end rest (subst AreSentSpelled (sym leads) (to_applied effects start is.spelled each))

pub journal_spells : (bodies : List (List ℕ)) (end : End) → RecordsLead bodies empty_end end → AreSentSpelled end
journal_spells bodies end leads = records_spell bodies empty_end end leads tt

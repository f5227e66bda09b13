-- The counts of settled submissions, after a change.
use Rattle.std.proofs.Common.{◌≡◌, ℕ, ◌+◌, List, [], ◌∷◌, ◌++◌, Bool, cond, refl, ◌∙◌, arith}
use Rattle.std.specs.Prelude.{IsTrue, count_by}
use Rattle.std.proofs.lemmas.Bool.{false≢true}
use Rattle.std.proofs.lemmas.List.Sums.{sum_by-append}
use Rattle.as4_effects.specs.declared.mark.Mark.{Mark}
use Rattle.as4_effects.specs.declared.mark.Mark.TheVariants as mark
use Rattle.exchange_model.specs.Apply.{changed, marked, tried}
use Rattle.exchange_model.specs.Questions.{is_failed_mark, is_pending, is_pending_mark, is_receipted_mark, is_refused_mark}
use Rattle.exchange_model.specs.declared.sent.Sent.{Sent}
use Rattle.outbox.specs.Counting.{AreCounts, counted}
use Rattle.outbox.specs.declared.counts.Counts.{Counts}
use Rattle.outbox.proofs.PartsLemmas.{Parts, recounted}

pub none_counted : AreCounts (record { receipted = 0; failed = 0; refused = 0 }) []
none_counted = record { receipted = refl; failed = refl; refused = refl }

-- what a mark adds to a count
abbrev one_of : (Mark → Bool) → Mark → ℕ
one_of p m = cond (p m) 1 0

pushed : (p : Mark → Bool) (sent : List Sent) (s : Sent)
    → count_by (λ (t : Sent). p t.mark) (sent ++ s ∷ []) ≡ count_by (λ (t : Sent). p t.mark) sent + cond (p s.mark) 1 0
pushed p sent s = sum_by-append (λ (t : Sent). cond (p t.mark) 1 0) sent (s ∷ []) ∙ omega arith

more_receipted : (m : Mark) (counts : Counts) → (counted m counts).receipted ≡ counts.receipted + one_of is_receipted_mark m
more_receipted mark.Pending counts = omega arith
more_receipted mark.Receipted counts = refl
more_receipted mark.Failed counts = omega arith
more_receipted (mark.Refused code) counts = omega arith

more_failed : (m : Mark) (counts : Counts) → (counted m counts).failed ≡ counts.failed + one_of is_failed_mark m
more_failed mark.Pending counts = omega arith
more_failed mark.Receipted counts = omega arith
more_failed mark.Failed counts = refl
more_failed (mark.Refused code) counts = omega arith

more_refused : (m : Mark) (counts : Counts) → (counted m counts).refused ≡ counts.refused + one_of is_refused_mark m
more_refused mark.Pending counts = omega arith
more_refused mark.Receipted counts = omega arith
more_refused mark.Failed counts = omega arith
more_refused (mark.Refused code) counts = refl

-- one more submission
pub counted_push : (counts : Counts) (sent : List Sent) (s : Sent) → AreCounts counts sent → AreCounts (counted s.mark counts) (sent ++ s ∷ [])
counted_push counts sent s are = record {
  receipted = omega (arith, more_receipted s.mark counts, are.receipted, pushed is_receipted_mark sent s);
  failed = omega (arith, more_failed s.mark counts, are.failed, pushed is_failed_mark sent s);
  refused = omega (arith, more_refused s.mark counts, are.refused, pushed is_refused_mark sent s);
}

-- a pending one is counted nowhere
unsettled : (m : Mark) → IsTrue (is_pending_mark m)
    → (one_of is_receipted_mark m ≡ 0) × (one_of is_failed_mark m ≡ 0) × (one_of is_refused_mark m ≡ 0)
unsettled mark.Pending pending = (refl, refl, refl)
unsettled mark.Receipted pending = (absurd (false≢true pending), absurd (false≢true pending), absurd (false≢true pending))
unsettled mark.Failed pending = (absurd (false≢true pending), absurd (false≢true pending), absurd (false≢true pending))
unsettled (mark.Refused code) pending = (absurd (false≢true pending), absurd (false≢true pending), absurd (false≢true pending))

settled : (p : Mark → Bool) (number : ℕ) (m : Mark) (sent : List Sent) (parts : Parts number sent) → one_of p parts.one.mark ≡ 0
    → count_by (λ (s : Sent). p s.mark) (changed number (marked m) sent) ≡ count_by (λ (s : Sent). p s.mark) sent + one_of p m
settled p number m sent parts none =
    let all : count_by (λ (s : Sent). p s.mark) (changed number (marked m) sent) + one_of p parts.one.mark
    ≡ count_by (λ (s : Sent). p s.mark) sent + one_of p m = recounted (λ (s : Sent). p s.mark) number (marked m) sent parts in
    omega (arith, none, all)

-- a pending one becomes settled
pub counted_settled : (number : ℕ) (m : Mark) (counts : Counts) (sent : List Sent) (parts : Parts number sent) → IsTrue (is_pending parts.one)
    → AreCounts counts sent → AreCounts (counted m counts) (changed number (marked m) sent)
counted_settled number m counts sent parts pending are =
    let none = unsettled parts.one.mark pending in
    record {
      receipted = omega (arith, more_receipted m counts, are.receipted, settled is_receipted_mark number m sent parts none.0);
      failed = omega (arith, more_failed m counts, are.failed, settled is_failed_mark number m sent parts none.1);
      refused = omega (arith, more_refused m counts, are.refused, settled is_refused_mark number m sent parts none.2);
    }

same_marks : (p : Mark → Bool) (number moment : ℕ) (sent : List Sent) (parts : Parts number sent)
    → count_by (λ (s : Sent). p s.mark) sent ≡ count_by (λ (s : Sent). p s.mark) (changed number (tried moment) sent)
same_marks p number moment sent parts =
    let all = recounted (λ (s : Sent). p s.mark) number (tried moment) sent parts in
    omega (arith, all)

-- a try changes no mark
pub counted_tried : (number moment : ℕ) (counts : Counts) (sent : List Sent) (parts : Parts number sent)
    → AreCounts counts sent → AreCounts counts (changed number (tried moment) sent)
counted_tried number moment counts sent parts are = record {
  receipted = are.receipted ∙ same_marks is_receipted_mark number moment sent parts;
  failed = are.failed ∙ same_marks is_failed_mark number moment sent parts;
  refused = are.refused ∙ same_marks is_refused_mark number moment sent parts;
}

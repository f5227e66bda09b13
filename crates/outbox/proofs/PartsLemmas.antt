-- A list of submissions, cut at the one of a number: what a change there keeps, and how it changes a count.
use Rattle.std.proofs.Common.{◌≡◌, ◌≢◌, ℕ, suc, ◌+◌, inl, inr, List, [], ◌∷◌, ◌++◌, Bool, cond, Some, length, map, refl, sym, ap, subst, ◌∙◌, arith}
use Rattle.std.specs.Prelude.{◌==◌, IsTrue, count_by}
use Rattle.std.proofs.lemmas.Bool.{cases_Bool, cond-true, cond-false, false≢true, eqb-true, eq-eqb, ne_eqb}
use Rattle.std.proofs.lemmas.List.{length-map, map-append}
use Rattle.std.proofs.lemmas.List.Sums.{sum_by-append, sum_by-cons}
use Rattle.exchange_model.specs.Apply.{changed, is_one}
use Rattle.exchange_model.specs.Numbered.{AreNumberedFrom}
use Rattle.exchange_model.specs.Questions.{sent_at}
use Rattle.exchange_model.specs.declared.sent.Sent.{Sent}
use Rattle.exchange_model.proofs.NumberedLemmas.{changed_before}

-- the one of this number, and those before and after it
pub record Parts (number : ℕ) (sent : List Sent) : Type 0 where
  pub before : List Sent
  pub one : Sent
  pub behind : List Sent
  pub is : sent ≡ before ++ one ∷ behind
  pub found : sent_at number sent ≡ Some one
  pub after : (f : Sent → Sent) → changed number f sent ≡ before ++ f one ∷ behind

first_part : (n number : ℕ) (s : Sent) (sent : List Sent) → AreNumberedFrom n (s ∷ sent) → s.submission.number ≡ number → Parts number (s ∷ sent)
unfolding AreNumberedFrom changed
first_part n number s sent numbered same = record {
  before = [];
  one = s;
  behind = sent;
  is = refl;
  found = cond-true _ _ _ (eq-eqb s.submission.number number same);
  after = λ f. rw (eq-eqb s.submission.number number same)
      (ap (λ rest. f s ∷ rest) (changed_before (suc n) number f sent numbered.1 (let first = numbered.0 in omega arith)));
}

later_part : (number : ℕ) (s : Sent) (sent : List Sent) → s.submission.number ≢ number → Parts number sent → Parts number (s ∷ sent)
unfolding changed
later_part number s sent other parts = record {
  before = s ∷ parts.before;
  one = parts.one;
  behind = parts.behind;
  is = ap (λ rest. s ∷ rest) parts.is;
  found = cond-false _ _ _ (ne_eqb s.submission.number number other) ∙ parts.found;
  after = λ f. rw (ne_eqb s.submission.number number other) (ap (λ rest. s ∷ rest) (parts.after f));
}

parts_from : (p : Sent → Bool) (n number : ℕ) (sent : List Sent) → AreNumberedFrom n sent → IsTrue (is_one p (sent_at number sent)) → Parts number sent
unfolding AreNumberedFrom
parts_from p n number [] numbered held = absurd (false≢true held)
parts_from p n number (s ∷ sent) numbered held = elim (cases_Bool (s.submission.number == number)) [
  | inl same ↦ first_part n number s sent numbered (eqb-true s.submission.number number same)
  | inr other ↦
      let rest : Parts number sent = parts_from p (suc n) number sent numbered.1 (subst (λ o. IsTrue (is_one p o)) (cond-false _ _ _ other) held) in
      later_part number s sent (λ same. false≢true (sym other ∙ eq-eqb s.submission.number number same)) rest
]

pub parts_of : (p : Sent → Bool) (number : ℕ) (sent : List Sent) → AreNumberedFrom 0 sent → IsTrue (is_one p (sent_at number sent)) → Parts number sent
parts_of p number sent numbered held = parts_from p 0 number sent numbered held

pub passes : (p : Sent → Bool) (number : ℕ) (sent : List Sent) (parts : Parts number sent) → IsTrue (is_one p (sent_at number sent)) → IsTrue (p parts.one)
passes p number sent parts held = subst (λ o. IsTrue (is_one p o)) parts.found held

-- a count over a list cut in this way
count_parts : (q : Sent → Bool) (before : List Sent) (one : Sent) (behind : List Sent)
    → count_by q (before ++ one ∷ behind) ≡ count_by q before + (cond (q one) 1 0 + count_by q behind)
count_parts q before one behind =
    sum_by-append (λ s. cond (q s) 1 0) before (one ∷ behind)
    ∙ ap (λ n. count_by q before + n) (sum_by-cons (λ s. cond (q s) 1 0) one behind)

-- a change at a number changes a count by the change of that submission
pub recounted : (q : Sent → Bool) (number : ℕ) (f : Sent → Sent) (sent : List Sent) (parts : Parts number sent)
    → count_by q (changed number f sent) + cond (q parts.one) 1 0 ≡ count_by q sent + cond (q (f parts.one)) 1 0
recounted q number f sent parts =
    let was : count_by q sent ≡ count_by q parts.before + (cond (q parts.one) 1 0 + count_by q parts.behind) =
    ap (count_by q) parts.is ∙ count_parts q parts.before parts.one parts.behind in
    let now : count_by q (changed number f sent) ≡ count_by q parts.before + (cond (q (f parts.one)) 1 0 + count_by q parts.behind) =
    ap (count_by q) (parts.after f) ∙ count_parts q parts.before (f parts.one) parts.behind in
    omega (arith, was, now)

pub length_changed : (number : ℕ) (f : Sent → Sent) (sent : List Sent) → length (changed number f sent) ≡ length sent
unfolding changed
length_changed number f sent = length-map sent _

-- a map that gives the same for the changed submission gives the same for all
pub remapped : {X : Type 0} (g : Sent → X) (number : ℕ) (f : Sent → Sent) (sent : List Sent) (parts : Parts number sent)
    → g (f parts.one) ≡ g parts.one → map g (changed number f sent) ≡ map g sent
remapped g number f sent parts same =
    ap (map g) (parts.after f) ∙ map-append g parts.before (f parts.one ∷ parts.behind)
    ∙ ap (λ s. map g parts.before ++ s ∷ map g parts.behind) same
    ∙ sym (ap (map g) parts.is ∙ map-append g parts.before (parts.one ∷ parts.behind))

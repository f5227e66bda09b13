-- The lines of records, added record by record.
use Rattle.std.proofs.Common.{◌≡◌, ℕ, zero, suc, ◌+◌, ◌-◌, List, [], ◌∷◌, ◌++◌, Bool, true, if◌then◌else◌, Option, Some, None, length, take, drop, refl, sym, ap, ◌∙◌, append_assoc, arith}
use Rattle.std.specs.Prelude.{◌&&◌, is_none, is_some, nat_lt}
use Rattle.std.proofs.lemmas.Bool.{lt-ltb}
use Rattle.std.proofs.lemmas.List.{append-nil}
use Rattle.as4_audit.specs.Audit.{AllRead, Reads}
use Rattle.as4_audit.specs.Start.{stage_after}
use Rattle.as4_audit.proofs.ListLemmas.{read_more}
use Rattle.as4_audit.proofs.StartLemmas.{left_off, left_on, start_left}
use Rattle.as4_effects.specs.declared.effect.Effect.{Effect}
use Rattle.auditor.specs.Lines.{changes_of, lines_before, lines_of, received_in, received_over, record_lines}

-- the lines of the first `right` of the records that are left, after a record of this stage and this number of received
-- messages
abbrev pub lines_left : Option ℕ → ℕ → ℕ → List (Option (List Effect)) → List ℕ
lines_left stage received right records =
    record_lines (received_over received (take (start_left stage records) records)) (drop (start_left stage records) (take right records))

abbrev nothing : List (Option (List Effect))
nothing = []

drop_none : (k : ℕ) → drop k nothing ≡ nothing
drop_none zero = refl
drop_none (suc k) = refl

take_none : (k : ℕ) → take k nothing ≡ nothing
take_none zero = refl
take_none (suc k) = refl

pub left_none : (stage : Option ℕ) (received right : ℕ) → lines_left stage received right [] ≡ []
left_none stage received right =
    ap (λ rs. record_lines (received_over received (take (start_left stage []) [])) (drop (start_left stage []) rs)) (take_none right)
    ∙ ap (λ rs. record_lines (received_over received (take (start_left stage []) [])) rs) (drop_none (start_left stage []))

-- the lines of one record
abbrev pub lines_if : Bool → ℕ → Option (List Effect) → List ℕ
lines_if shown received item = if shown then lines_of received (changes_of item) else []

module _ (received : ℕ) (item : Option (List Effect)) (rest : List (Option (List Effect))) where
  -- a record of the start; k is how many of the records after it are of the start
  of_start : (k right : ℕ) → record_lines (received_over received (take (suc k) (item ∷ rest))) (drop (suc k) (take right (item ∷ rest)))
      ≡ record_lines (received_over (received_in received (changes_of item)) (take k rest)) (drop k (take (right - 1) rest))
  of_start k zero = ap (λ rs. record_lines (received_over (received_in received (changes_of item)) (take k rest)) rs) (sym (drop_none k))
  of_start k (suc right) =
      ap (λ n. record_lines (received_over (received_in received (changes_of item)) (take k rest)) (drop k (take n rest)))
      (let e : right ≡ suc right - 1 = omega arith in e)

  -- one after it
  after_start : (right : ℕ) → record_lines received (take right (item ∷ rest))
      ≡ lines_if (nat_lt 0 right) received item ++ record_lines (received_in received (changes_of item)) (take (right - 1) rest)
  after_start zero = refl
  after_start (suc right) =
      let more : nat_lt 0 (suc right) ≡ true = lt-ltb 0 (suc right) (omega arith) in
      rw more
      (ap (λ n. lines_of received (changes_of item) ++ record_lines (received_in received (changes_of item)) (take n rest))
      (let e : right ≡ suc right - 1 = omega arith in e))

  one_less : (index right : ℕ) → nat_lt 0 (right - index) ≡ nat_lt index right
  one_less index right = grind arith

  pub left_shown : (stage : Option ℕ) (index right : ℕ) → lines_left stage received (right - index) (item ∷ rest)
      ≡ lines_if (is_none (stage_after stage item) && nat_lt index right) received item
      ++ lines_left (stage_after stage item) (received_in received (changes_of item)) (right - (index + 1)) rest
  left_shown stage index right = by_stage (stage_after stage item) refl
    where
      after : ℕ
      after = received_in received (changes_of item)

      less : (right - index) - 1 ≡ right - (index + 1)
      less = omega arith

      by_stage : (next : Option ℕ) → stage_after stage item ≡ next → lines_left stage received (right - index) (item ∷ rest)
          ≡ lines_if (is_none next && nat_lt index right) received item ++ lines_left next after (right - (index + 1)) rest
      by_stage (Some next) is =
          let on : start_left stage (item ∷ rest) ≡ suc (start_left (Some next) rest) =
          left_on stage item rest (ap is_some is) ∙ ap (λ s. suc (start_left s rest)) is in
          ap (λ k. record_lines (received_over received (take k (item ∷ rest))) (drop k (take (right - index) (item ∷ rest)))) on
          ∙ of_start (start_left (Some next) rest) (right - index)
          ∙ ap (λ n. lines_left (Some next) after n rest) less
      by_stage None is =
          let off : start_left stage (item ∷ rest) ≡ 0 = (left_off stage item rest (ap is_some is)).0 in
          ap (λ k. record_lines (received_over received (take k (item ∷ rest))) (drop k (take (right - index) (item ∷ rest)))) off
          ∙ after_start (right - index)
          ∙ ap (λ b. lines_if b received item ++ record_lines after (take (right - index - 1) rest)) (one_less index right)
          ∙ ap (λ n. lines_if (nat_lt index right) received item ++ record_lines after (take n rest)) less

-- whatever follows these bodies: the lines so far, and those of the records that are left, are those of all
pub record AreLinesTo (bodies : List (List ℕ)) (place index : ℕ) (stage : Option ℕ) (received : ℕ) (old new : List ℕ) : Type 0 where
  pub done : List (Option (List Effect))
  pub read : AllRead bodies done
  pub text : (rest : List (Option (List Effect))) → new ++ lines_left stage received (place - index) rest ≡ old ++ lines_before place (done ++ rest)

pub lines_none : (place : ℕ) (old : List ℕ) → AreLinesTo [] place 0 (Some 0) 0 old old
lines_none place old = record { done = []; read = tt; text = λ rest. ap (λ n. old ++ lines_left (Some 0) 0 n rest) (let e : place - 0 ≡ place = omega arith in e) }

pub lines_on : (bodies : List (List ℕ)) (place index : ℕ) (stage : Option ℕ) (received : ℕ) (old new : List ℕ) (body : List ℕ) (item : Option (List Effect))
    → AreLinesTo bodies place index stage received old new → Reads body item
    → AreLinesTo (bodies ++ body ∷ []) place (index + 1) (stage_after stage item) (received_in received (changes_of item)) old
    (new ++ lines_if (is_none (stage_after stage item) && nat_lt index place) received item)
lines_on bodies place index stage received old new body item so reads = record {
  done = so.done ++ item ∷ [];
  read = read_more bodies so.done body item so.read reads;
  text = λ rest.
      append_assoc new (lines_if (is_none (stage_after stage item) && nat_lt index place) received item)
      (lines_left (stage_after stage item) (received_in received (changes_of item)) (place - (index + 1)) rest)
      ∙ ap (λ l. new ++ l) (sym (left_shown received item rest stage index place))
      ∙ so.text (item ∷ rest)
      ∙ ap (λ rs. old ++ lines_before place rs) (sym (append_assoc so.done (item ∷ []) rest));
}

pub lines_all : (bodies : List (List ℕ)) (place index : ℕ) (stage : Option ℕ) (received : ℕ) (old new : List ℕ)
    → AreLinesTo bodies place index stage received old new
    → (records : List (Option (List Effect))) × AllRead bodies records × (new ≡ old ++ lines_before place records)
lines_all bodies place index stage received old new so = (
  so.done,
  so.read,
  sym (append-nil new) ∙ ap (λ l. new ++ l) (sym (left_none stage received (place - index))) ∙ so.text []
      ∙ ap (λ rs. old ++ lines_before place rs) (append-nil so.done),
)

pub read_length : (bodies : List (List ℕ)) (records : List (Option (List Effect))) → AllRead bodies records → length records ≡ length bodies
read_length [] [] read = refl
read_length [] (r ∷ records) read = absurd read
read_length (b ∷ bodies) [] read = absurd read
read_length (b ∷ bodies) (r ∷ records) read = ap suc (read_length bodies records read.1)

-- The lines of a field, as a loop passes over them.
use Rattle.std.proofs.Common.{◌≡◌, ℕ, zero, suc, ◌+◌, ◌-◌, ◌≤◌, true, false, List, [], ◌∷◌, ◌++◌, length, take, Option, Some, None, option_map, refl, sym, ap, subst, ◌∙◌, arith, inl, inr, append_assoc, length-append}
use Rattle.std.proofs.lemmas.Bool.{cases_Bool}
use Rattle.std.proofs.lemmas.Option.{same_Some}
use Rattle.std.proofs.lemmas.List.{take_at}
use Rattle.std.specs.List.{take_while}
use Rattle.byte_forms.specs.Cuts.{skip, strip_prefix}
use Rattle.byte_forms.proofs.CutLemmas.{cases_option, run_whole, length-skip, strip_prefix_takes}
use Rattle.mime_fields.specs.Fields.{crlf, is_line_byte, begins_with_space, lines_within}

pub line_shortens : (bytes next : List ℕ) → strip_prefix crlf (skip is_line_byte bytes) ≡ Some next → length next + 2 ≤ length bytes
line_shortens bytes next e =
    omega (arith, ap length (strip_prefix_takes crlf (skip is_line_byte bytes) next e), length-append crlf next, length-skip is_line_byte bytes)

-- ---- a limited number of lines

pub lines_none : (n : ℕ) (bytes : List ℕ) → strip_prefix crlf (skip is_line_byte bytes) ≡ None → lines_within n bytes ≡ None
unfolding lines_within
lines_none zero bytes none = refl
lines_none (suc n) bytes none = rw none refl

pub within_none : (bytes : List ℕ) → lines_within zero bytes ≡ None
unfolding lines_within
within_none bytes = refl

pub lines_last : (n : ℕ) (bytes next : List ℕ) → strip_prefix crlf (skip is_line_byte bytes) ≡ Some next → begins_with_space next ≡ false → lines_within (suc n) bytes ≡ Some (take_while is_line_byte bytes, next)
unfolding lines_within
lines_last n bytes next cut last = rw (cut, last) refl

-- a line put before others
abbrev pub with_line : List ℕ → List ℕ × List ℕ → List ℕ × List ℕ
with_line bytes more = (take_while is_line_byte bytes ++ (crlf ++ more.0), more.1)

pub lines_more : (n : ℕ) (bytes next : List ℕ) → strip_prefix crlf (skip is_line_byte bytes) ≡ Some next → begins_with_space next ≡ true → lines_within (suc n) bytes ≡ option_map (with_line bytes) (lines_within n next)
unfolding lines_within
lines_more n bytes next cut more = rw (cut, more) refl

-- a larger limit changes nothing
lines_enough : (n m : ℕ) (bytes : List ℕ) → length bytes ≤ n → length bytes ≤ m → lines_within n bytes ≡ lines_within m bytes
lines_enough zero m bytes few_n few_m = elim (cases_option (strip_prefix crlf (skip is_line_byte bytes))) [
  | inl none ↦ lines_none zero bytes none ∙ sym (lines_none m bytes none)
  | inr some ↦ absurd (omega (arith, line_shortens bytes some.0 some.1))
]
lines_enough (suc n) zero bytes few_n few_m = elim (cases_option (strip_prefix crlf (skip is_line_byte bytes))) [
  | inl none ↦ lines_none (suc n) bytes none ∙ sym (lines_none zero bytes none)
  | inr some ↦ absurd (omega (arith, line_shortens bytes some.0 some.1))
]
lines_enough (suc n) (suc m) bytes few_n few_m = elim (cases_option (strip_prefix crlf (skip is_line_byte bytes))) [
  | inl none ↦ lines_none (suc n) bytes none ∙ sym (lines_none (suc m) bytes none)
  | inr some ↦ elim (cases_Bool (begins_with_space some.0)) [
    | inl more ↦
        let shorter = line_shortens bytes some.0 some.1 in
        lines_more n bytes some.0 some.1 more ∙ ap (λ (o : Option (List ℕ × List ℕ)). option_map (with_line bytes) o) (lines_enough n m some.0 (omega arith) (omega arith)) ∙ sym (lines_more m bytes some.0 some.1 more)
    | inr last ↦ lines_last n bytes some.0 some.1 last ∙ sym (lines_last m bytes some.0 some.1 last)
  ]
]

-- the leading lines
abbrev lines_in : List ℕ → Option (List ℕ × List ℕ)
lines_in bytes = lines_within (length bytes) bytes

last_in : (bytes next : List ℕ) → strip_prefix crlf (skip is_line_byte bytes) ≡ Some next → begins_with_space next ≡ false → lines_in bytes ≡ Some (take_while is_line_byte bytes, next)
last_in [] next cut last = absurd (omega (arith, line_shortens [] next cut))
last_in (b ∷ bytes) next cut last = lines_last (length bytes) (b ∷ bytes) next cut last

more_in : (bytes next : List ℕ) → strip_prefix crlf (skip is_line_byte bytes) ≡ Some next → begins_with_space next ≡ true → lines_in bytes ≡ option_map (with_line bytes) (lines_in next)
more_in [] next cut more = absurd (omega (arith, line_shortens [] next cut))
more_in (b ∷ bytes) next cut more =
    let shorter = line_shortens (b ∷ bytes) next cut in
    lines_more (length bytes) (b ∷ bytes) next cut more ∙ ap (λ (o : Option (List ℕ × List ℕ)). option_map (with_line (b ∷ bytes)) o) (lines_enough (length bytes) (length next) next (omega arith) (omega arith))

-- ---- the bytes after them

abbrev behind_all : List ℕ → Option (List ℕ)
behind_all bytes = option_map (λ x. x.1) (lines_in bytes)

-- the bytes after the lines of the rest are those after all lines
abbrev pub GoOn : List ℕ → List ℕ → Type 0
GoOn bytes rest = (length rest ≤ length bytes) × (behind_all bytes ≡ behind_all rest)

same_behind : (bytes : List ℕ) (o : Option (List ℕ × List ℕ)) → option_map (λ x. x.1) (option_map (with_line bytes) o) ≡ option_map (λ x. x.1) o
same_behind bytes None = refl
same_behind bytes (Some x) = refl

pub more_lines : (bytes rest next : List ℕ) → strip_prefix crlf (skip is_line_byte rest) ≡ Some next → begins_with_space next ≡ true → GoOn bytes rest → GoOn bytes next
more_lines bytes rest next cut more so_far =
    let shorter = line_shortens rest next cut in
    (omega (arith, so_far.0), so_far.1 ∙ ap (λ (o : Option (List ℕ × List ℕ)). option_map (λ x. x.1) o) (more_in rest next cut more) ∙ same_behind rest (lines_in next))

pub last_line : (bytes rest next : List ℕ) → strip_prefix crlf (skip is_line_byte rest) ≡ Some next → begins_with_space next ≡ false → GoOn bytes rest → Some next ≡ option_map (λ x. x.1) (lines_within (length bytes) bytes)
last_line bytes rest next cut last so_far = sym (so_far.1 ∙ ap (λ (o : Option (List ℕ × List ℕ)). option_map (λ x. x.1) o) (last_in rest next cut last))

pub no_line : (bytes rest : List ℕ) → strip_prefix crlf (skip is_line_byte rest) ≡ None → GoOn bytes rest → None ≡ option_map (λ x. x.1) (lines_within (length bytes) bytes)
no_line bytes rest none so_far = sym (so_far.1 ∙ ap (λ (o : Option (List ℕ × List ℕ)). option_map (λ x. x.1) o) (lines_none (length rest) rest none))

-- ---- the lines themselves

-- lines are followed by a line end and the bytes after it
whole_line : (bytes next : List ℕ) → strip_prefix crlf (skip is_line_byte bytes) ≡ Some next → bytes ≡ take_while is_line_byte bytes ++ (crlf ++ next)
whole_line bytes next cut = run_whole is_line_byte bytes ∙ ap (λ (r : List ℕ). take_while is_line_byte bytes ++ r) (strip_prefix_takes crlf (skip is_line_byte bytes) next cut)

further_whole : (bytes next : List ℕ) (o : Option (List ℕ × List ℕ)) (x : List ℕ × List ℕ) → ((y : List ℕ × List ℕ) → o ≡ Some y → next ≡ y.0 ++ (crlf ++ y.1)) → bytes ≡ take_while is_line_byte bytes ++ (crlf ++ next) → option_map (with_line bytes) o ≡ Some x → bytes ≡ x.0 ++ (crlf ++ x.1)
further_whole bytes next None x whole first e = absurd cc
further_whole bytes next (Some y) x whole first e =
    let front : List ℕ = take_while is_line_byte bytes in
    subst (λ (z : List ℕ × List ℕ). bytes ≡ z.0 ++ (crlf ++ z.1)) (same_Some (with_line bytes y) x e)
    (first ∙ ap (λ (r : List ℕ). front ++ (crlf ++ r)) (whole y refl) ∙ sym (append_assoc front (crlf ++ y.0) (crlf ++ y.1)))

pub lines_whole : (n : ℕ) (bytes : List ℕ) (x : List ℕ × List ℕ) → lines_within n bytes ≡ Some x → bytes ≡ x.0 ++ (crlf ++ x.1)
lines_whole zero bytes x e = let none : lines_within zero bytes ≡ None = within_none bytes in absurd cc
lines_whole (suc n) bytes x e = elim (cases_option (strip_prefix crlf (skip is_line_byte bytes))) [
  | inl none ↦ let nothing = lines_none (suc n) bytes none in absurd cc
  | inr some ↦ elim (cases_Bool (begins_with_space some.0)) [
    | inl more ↦ further_whole bytes some.0 (lines_within n some.0) x (λ y is. lines_whole n some.0 y is) (whole_line bytes some.0 some.1) (sym (lines_more n bytes some.0 some.1 more) ∙ e)
    | inr last ↦ subst (λ (z : List ℕ × List ℕ). bytes ≡ z.0 ++ (crlf ++ z.1)) (same_Some (take_while is_line_byte bytes, some.0) x (sym (lines_last n bytes some.0 some.1 last) ∙ e)) (whole_line bytes some.0 some.1)
  ]
]

-- the lines, given the bytes after them
pub lines_told : (bytes rest : List ℕ) → Some rest ≡ option_map (λ x. x.1) (lines_within (length bytes) bytes) → Some (take (length bytes - length rest - 2) bytes, rest) ≡ lines_within (length bytes) bytes
lines_told bytes rest e = told (lines_in bytes) (lines_whole (length bytes) bytes) e
  where
    told : (o : Option (List ℕ × List ℕ)) → ((x : List ℕ × List ℕ) → o ≡ Some x → bytes ≡ x.0 ++ (crlf ++ x.1)) → Some rest ≡ option_map (λ x. x.1) o → Some (take (length bytes - length rest - 2) bytes, rest) ≡ o
    told None whole e = absurd cc
    told (Some x) whole e =
        let same : rest ≡ x.1 = same_Some rest x.1 e in
        let parts : bytes ≡ x.0 ++ (crlf ++ x.1) = whole x refl in
        let len : length x.0 ≡ length bytes - length rest - 2 = omega (arith, ap length parts, length-append x.0 (crlf ++ x.1), length-append crlf x.1, ap length same) in
        let front : take (length bytes - length rest - 2) bytes ≡ x.0 = ap (take (length bytes - length rest - 2)) parts ∙ take_at x.0 (crlf ++ x.1) (length bytes - length rest - 2) len in
        rw (front, same) refl

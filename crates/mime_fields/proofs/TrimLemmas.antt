-- Values, unfolded and trimmed.
use Rattle.std.proofs.Common.{◌≡◌, ℕ, suc, ◌+◌, ◌-◌, ◌<◌, ◌≤◌, Bool, true, false, List, [], ◌∷◌, ◌++◌, length, take, drop, get_or, Some, None, refl, sym, ap, subst, ◌∙◌, arith, inl, inr, append-nil, length-append, ◌==◌}
use Rattle.std.proofs.lemmas.Bool.{cases_Bool, eqb-true, or_cases}
use Rattle.std.proofs.lemmas.List.{take_more, take-append-drop, reverse-append, reverse-reverse}
use Rattle.std.proofs.lemmas.Bool.Decides.{nat_tests}
use Rattle.std.proofs.lemmas.List.Elements.{filter-append, filter_more}
use Rattle.std.specs.Prelude.{reverse}
use Rattle.std.specs.List.{filter, prefix_len}
use Rattle.byte_forms.specs.Classes.{is_blank, is_space}
use Rattle.byte_forms.specs.Cuts.{skip}
use Rattle.mime_fields.specs.Fields.{is_line_byte, trimmed, unfolded, media_of}
use Rattle.mime_fields.specs.Loops.{end_trimmed}

-- ---- runs and their first byte

skip_in : (class : ℕ → Bool) (b : ℕ) (bytes : List ℕ) → class b ≡ true → skip class (b ∷ bytes) ≡ skip class bytes
skip_in class b bytes is =
    let next : 1 + prefix_len class bytes ≡ suc (prefix_len class bytes) = omega arith in
    rw (is, next) refl

skip_out : (class : ℕ → Bool) (b : ℕ) (bytes : List ℕ) → class b ≡ false → skip class (b ∷ bytes) ≡ b ∷ bytes
skip_out class b bytes other = rw other refl

-- ---- in reverse

reverse-cons : (b : ℕ) (bytes : List ℕ) → reverse (b ∷ bytes) ≡ reverse bytes ++ b ∷ []
reverse-cons b bytes = reverse-append (b ∷ []) bytes

reverse-push : (bytes : List ℕ) (b : ℕ) → reverse (bytes ++ b ∷ []) ≡ b ∷ reverse bytes
reverse-push bytes b = reverse-append bytes (b ∷ [])

filter-reverse : (class : ℕ → Bool) (bytes : List ℕ) → filter class (reverse bytes) ≡ reverse (filter class bytes)
filter-reverse class [] = refl
filter-reverse class (b ∷ bytes) =
    ap (filter class) (reverse-cons b bytes) ∙ filter-append class (reverse bytes) (b ∷ []) ∙ (elim (cases_Bool (class b)) [
      | inl is ↦ rw (is, filter-reverse class bytes) (sym (reverse-cons b (filter class bytes)))
      | inr other ↦ rw (other, filter-reverse class bytes) (append-nil (reverse (filter class bytes)))
    ])

-- ---- unfolding

-- skipping spaces after unfolding equals skipping blanks and line ends before it
skip-filter : (bytes : List ℕ) → skip is_space (filter is_line_byte bytes) ≡ filter is_line_byte (skip is_blank bytes)
skip-filter [] = refl
skip-filter (b ∷ bytes) = elim (cases_Bool (b == 13)) [
  | inl cr ↦ rw (eqb-true b 13 cr, skip_in is_blank 13 bytes refl) (skip-filter bytes)
  | inr no_cr ↦ elim (cases_Bool (b == 10)) [
    | inl lf ↦ rw (eqb-true b 10 lf, skip_in is_blank 10 bytes refl) (skip-filter bytes)
    | inr no_lf ↦ elim (cases_Bool (is_space b)) [
      | inl space ↦ elim (or_cases (b == 32) (b == 9) space) [
        | inl is ↦ rw (eqb-true b 32 is, skip_in is_blank 32 bytes refl, skip_in is_space 32 (filter is_line_byte bytes) refl) (skip-filter bytes)
        | inr is ↦ rw (eqb-true b 9 is, skip_in is_blank 9 bytes refl, skip_in is_space 9 (filter is_line_byte bytes) refl) (skip-filter bytes)
      ]
      | inr other ↦
          let line : is_line_byte b ≡ true = rw (no_cr, no_lf) refl in
          let no_blank : is_blank b ≡ false = rw (other, no_lf, no_cr) refl in
          let kept : filter is_line_byte (b ∷ bytes) ≡ b ∷ filter is_line_byte bytes = rw line refl in
          rw (skip_out is_blank b bytes no_blank, kept, skip_out is_space b (filter is_line_byte bytes) other) refl
    ]
  ]
]

pub unfolded_is : (lines : List ℕ) → unfolded lines ≡ filter is_line_byte (end_trimmed (skip is_blank lines))
unfolding unfolded trimmed
unfolded_is lines =
    let front : List ℕ = skip is_blank lines in
    ap (λ (r : List ℕ). reverse (skip is_space (reverse r))) (skip-filter lines)
    ∙ ap (λ (r : List ℕ). reverse (skip is_space r)) (sym (filter-reverse is_line_byte front))
    ∙ ap reverse (skip-filter (reverse front))
    ∙ sym (filter-reverse is_line_byte (skip is_blank (reverse front)))

-- ---- as a loop trims the end

last : (bytes : List ℕ) (end : ℕ) → 0 < end → end ≤ length bytes → take end bytes ≡ take (end - 1) bytes ++ get_or bytes (end - 1) 0 ∷ []
last bytes end some within =
    let next : end - 1 + 1 ≡ end = omega arith in
    subst (λ (n : ℕ). take n bytes ≡ take (end - 1) bytes ++ get_or bytes (end - 1) 0 ∷ []) next (take_more bytes (end - 1) 0 (omega arith))

pub one_off : (bytes : List ℕ) (end : ℕ) → 0 < end → end ≤ length bytes → is_blank (get_or bytes (end - 1) 0) ≡ true → end_trimmed (take end bytes) ≡ end_trimmed (take (end - 1) bytes)
one_off bytes end some within blank =
    ap end_trimmed (last bytes end some within) ∙ rw (reverse-push (take (end - 1) bytes) (get_or bytes (end - 1) 0), skip_in is_blank (get_or bytes (end - 1) 0) (reverse (take (end - 1) bytes)) blank) refl

pub none_off : (bytes : List ℕ) (end : ℕ) → 0 < end → end ≤ length bytes → is_blank (get_or bytes (end - 1) 0) ≡ false → take end bytes ≡ end_trimmed (take end bytes)
none_off bytes end some within other =
    let whole = last bytes end some within in
    let same : end_trimmed (take (end - 1) bytes ++ get_or bytes (end - 1) 0 ∷ []) ≡ take (end - 1) bytes ++ get_or bytes (end - 1) 0 ∷ [] =
    rw (reverse-push (take (end - 1) bytes) (get_or bytes (end - 1) 0), skip_out is_blank (get_or bytes (end - 1) 0) (reverse (take (end - 1) bytes)) other)
    (reverse-cons (get_or bytes (end - 1) 0) (reverse (take (end - 1) bytes)) ∙ ap (λ (r : List ℕ). r ++ get_or bytes (end - 1) 0 ∷ []) (reverse-reverse (take (end - 1) bytes))) in
    whole ∙ sym (ap end_trimmed whole ∙ same)

-- ---- as a loop counts

more_than : (bytes : List ℕ) → 1024 < length bytes → media_of (Some bytes) ≡ None
more_than bytes long = grind (arith, nat_tests)

-- one byte too many
pub too_long : (bytes value : List ℕ) (i : ℕ) → i < length bytes → is_line_byte (get_or bytes i 0) ≡ true → length value ≡ 1024 → value ≡ filter is_line_byte (take i bytes) → None ≡ media_of (Some (filter is_line_byte bytes))
too_long bytes value i within line full so_far =
    let next : filter is_line_byte (take (i + 1) bytes) ≡ filter is_line_byte (take i bytes) ++ get_or bytes i 0 ∷ [] = filter_more is_line_byte bytes i 0 within ∙ rw line refl in
    let whole : filter is_line_byte bytes ≡ filter is_line_byte (take (i + 1) bytes) ++ filter is_line_byte (drop (i + 1) bytes) =
    ap (filter is_line_byte) (sym (take-append-drop (i + 1) bytes)) ∙ filter-append is_line_byte (take (i + 1) bytes) (drop (i + 1) bytes) in
    sym (more_than (filter is_line_byte bytes) (omega (arith, ap length whole, ap length next, ap length so_far, length-append (filter is_line_byte (take (i + 1) bytes)) (filter is_line_byte (drop (i + 1) bytes)), length-append (filter is_line_byte (take i bytes)) (get_or bytes i 0 ∷ []))))

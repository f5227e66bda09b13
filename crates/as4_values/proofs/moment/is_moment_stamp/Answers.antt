use Rattle.std.proofs.Common.{◌≡◌, ◌+◌, ◌≤◌, length, sym, ◌∙◌, arith}
use Rattle.as4_values.specs.Stamp.{Fits, year_of}
use Rattle.as4_values.proofs.FormLemmas.{fits_less}
use Rattle.as4_values.proofs.MomentTextLemmas.{moment_form, of_moment, is_moment, of_parts, not_true, none_told, none_tells}
use Rattle.as4_values.proofs.moment.is_moment_stamp.Goals as goal
use Rattle.as4_values.proofs.moment.is_moment_stamp.Goals.{then-matching-lt24-via-then-matching-lt24, then-matching-lt24-via-else-matching-lt24+then-bytes-gt24}

-- another form
pub returns-then-matching-lt24 : goal.returns-then-matching-lt24
returns-then-matching-lt24 c = (
  λ t. absurd (not_true t),
  λ is.
      let told = of_moment c.args.bytes.now is in
      let no : ⊥ = elim c.then-matching-lt24.branch [
        | then-matching-lt24-via-then-matching-lt24 w ↦
            c.matching.ensures.no_more (fits_less moment_form c.args.bytes.now (c.matching.result + 1) 24 (omega arith) told.fits)
        | then-matching-lt24-via-else-matching-lt24+then-bytes-gt24 w ↦ absurd (omega (arith, told.len))
      ] in
      absurd no,
)

-- before 1970
pub returns-then-year_of-lt1970 : goal.returns-then-year_of-lt1970
returns-then-year_of-lt1970 c = (
  λ t. absurd (not_true t),
  λ is. let told = of_moment c.args.bytes.now is in let since = told.since in absurd (omega (arith, c.year_of.ensures.value)),
)

-- of the form, and since 1970
pub returns : goal.returns
returns c =
    let all : c.matching.result ≡ 24 = omega (arith, c.matching.ensures.fits.in_form) in
    let fits : Fits moment_form c.args.bytes.now 24 = rw all at c.matching.ensures.fits in
    let len : length c.args.bytes.now ≡ 24 = omega (arith, fits.in_text) in
    let since : 1970 ≤ year_of c.args.bytes.now = omega (arith, c.year_of.ensures.value) in (
      λ t. is_moment c.args.bytes.now
          (of_parts c.args.bytes.now len fits since (sym c.wrong_field.ensures ∙ none_told c.wrong_field.result c.is_none.result c.is_none.ensures t)),
      λ is.
          let told = of_moment c.args.bytes.now is in
          none_tells c.wrong_field.result c.is_none.result c.is_none.ensures (c.wrong_field.ensures ∙ told.fields),
    )

use Rattle.std.proofs.Common.{◌≡◌, Err, ap}
use Rattle.as4_values.specs.declared.text.TextRefusal.TheVariants.{BadText}
use Rattle.as4_values.proofs.TextLemmas.{text_is_right, wrong_once}
use Rattle.as4_values.proofs.text.Text.read.Goals as goal

-- no text
pub returns-in-Err-clause-only : goal.returns-in-Err-clause-only
returns-in-Err-clause-only c = λ text is. absurd (text_is_right c.args.bytes.now text c.in-Err.at is c.in-Err.ensures.wrong)

pub returns-in-Err-clause-bad_text : goal.returns-in-Err-clause-bad_text
returns-in-Err-clause-bad_text c =
    λ at. (
      λ e. let same : c.in-Err.at ≡ at = cc in rw (← same) c.in-Err.ensures.wrong,
      λ wrong. ap (λ n. Err (BadText n)) (wrong_once c.args.bytes.now c.in-Err.at at c.in-Err.ensures.wrong wrong),
    )

-- the text
pub returns-in-Ok-from_slice-clause-bad_text : goal.returns-in-Ok-from_slice-clause-bad_text
returns-in-Ok-from_slice-clause-bad_text c =
    λ at. (λ e. cc, λ wrong. absurd (text_is_right c.args.bytes.now c.in-Ok.text.now at c.in-Ok.ensures.found wrong))

pub returns-in-Err-from_slice-clause-bad_text : goal.returns-in-Err-from_slice-clause-bad_text
returns-in-Err-from_slice-clause-bad_text c =
    λ at. (λ e. cc, λ wrong. absurd (text_is_right c.args.bytes.now c.in-Ok.text.now at c.in-Ok.ensures.found wrong))

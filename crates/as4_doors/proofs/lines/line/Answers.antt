use Rattle.std.proofs.Common.{ℕ, List, [], ◌∷◌, ◌++◌, ap, ◌∙◌}
use Rattle.as4_doors.specs.Responses.{line_response, plain_media}
use Rattle.as4_doors.proofs.ResponseLemmas.{with_body}
use Rattle.as4_doors.proofs.lines.line.Goals as goal

pub returns : goal.returns
unfolding line_response plain_media
returns c =
    with_body _ _ _ _ _ c.made.result
    (c.as_slice.ensures.value ∙ (c.in_ok-extend_from_slice-2.ensures.items ∙ ap (λ (t : List ℕ). t ++ 10 ∷ []) (c.in_ok-extend_from_slice.ensures.items ∙ ap (λ (t : List ℕ). t ++ c.args.value.now) c.in_ok-text.ensures.items)))
    c.made.ensures

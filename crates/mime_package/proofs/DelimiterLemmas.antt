-- Delimiters, word by word.
use Rattle.std.proofs.Common.{◌≡◌, ℕ, List, [], ◌∷◌, ◌++◌, sym, ap, ◌∙◌}
use Rattle.byte_forms.specs.Cuts.{◌>>=◌, strip_prefix}
use Rattle.mime_fields.specs.Fields.{crlf}
use Rattle.mime_package.specs.Reading.{line_end, delimiter_at}
use Rattle.byte_forms.proofs.CutLemmas.{strip_prefix_again}
use Rattle.mime_package.proofs.FrontLemmas.{behind_both}

-- the two hyphens before each boundary, and after that of the last delimiter
abbrev pub hyphens : List ℕ
hyphens = 45 ∷ 45 ∷ []

-- up to the boundary
pub start_by_words : (boundary bytes : List ℕ) → strip_prefix (crlf ++ (hyphens ++ boundary)) bytes ≡ (strip_prefix (crlf ++ hyphens) bytes >>= strip_prefix boundary)
start_by_words boundary bytes = sym (behind_both (crlf ++ hyphens) boundary bytes)

-- at the body's first byte, without the CRLF
pub first_by_words : (boundary body : List ℕ) → delimiter_at boundary (crlf ++ body) ≡ ((strip_prefix hyphens body >>= strip_prefix boundary) >>= line_end)
unfolding delimiter_at
first_by_words boundary body =
    let behind_crlf : strip_prefix (crlf ++ (hyphens ++ boundary)) (crlf ++ body) ≡ strip_prefix (hyphens ++ boundary) body =
    sym (behind_both crlf (hyphens ++ boundary) (crlf ++ body)) ∙ ap (λ o. o >>= strip_prefix (hyphens ++ boundary)) (strip_prefix_again crlf body) in
    ap (λ o. o >>= line_end) (behind_crlf ∙ sym (behind_both hyphens boundary body))

-- the last delimiter, up to its second hyphens
pub last_by_words : (boundary bytes : List ℕ) → strip_prefix (crlf ++ (hyphens ++ (boundary ++ hyphens))) bytes ≡ (strip_prefix (crlf ++ (hyphens ++ boundary)) bytes >>= strip_prefix hyphens)
last_by_words boundary bytes = sym (behind_both (crlf ++ (hyphens ++ boundary)) hyphens bytes)

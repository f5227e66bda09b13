-- The lines of a run over rows, one row after another.
use Rattle.std.proofs.Common.{◌≡◌, ℕ, ◌+◌, List, [], ◌∷◌, ◌++◌, Bool, true, false, if◌then◌else◌, length, take, get_or, ◌<◌, refl, sym, ◌∙◌, ap, subst, append_assoc}
use Rattle.std.proofs.lemmas.List.{append-nil, take_more}
use Rattle.conformance.specs.Ran.{AreLines}

one_more : (first next : Bool) (others : ℕ)
    → (if next then (if first then others + 1 else others) + 1 else (if first then others + 1 else others))
    ≡ (if first then (if next then others + 1 else others) + 1 else (if next then others + 1 else others))
one_more true true others = refl
one_more true false others = refl
one_more false true others = refl
one_more false false others = refl

-- the lines of some rows, and then that of one more
pub lines_more : {R : Type 0} (IsLine : R → List ℕ → Bool → Type 0) (rows : List R) (row : R) (text line : List ℕ) (differ : ℕ) (differs : Bool)
    → AreLines IsLine rows text differ → IsLine row line differs
    → AreLines IsLine (rows ++ row ∷ []) (text ++ line) (if differs then differ + 1 else differ)
lines_more IsLine [] row text line differ differs none is =
    (line, differs, [], 0, is, (refl, refl), ap (λ (t : List ℕ). t ++ line) none.0 ∙ sym (append-nil line), ap (λ n. if differs then n + 1 else n) none.1)
lines_more IsLine (first ∷ rows) row text line differ differs so_far is = (
  so_far.0,
  so_far.1,
  so_far.2 ++ line,
  if differs then so_far.3 + 1 else so_far.3,
  so_far.4,
  lines_more IsLine rows row so_far.2 line so_far.3 differs so_far.5 is,
  ap (λ (t : List ℕ). t ++ line) so_far.6 ∙ append_assoc so_far.0 so_far.2 line,
  ap (λ n. if differs then n + 1 else n) so_far.7 ∙ one_more so_far.1 differs so_far.3,
)

-- the lines of the rows before this one, and then its own
pub lines_next : {R : Type 0} (IsLine : R → List ℕ → Bool → Type 0) (rows : List R) (index : ℕ) (row : R) (text line : List ℕ) (differ now : ℕ) (differs : Bool)
    → index < length rows → row ≡ get_or rows index row → AreLines IsLine (take index rows) text differ → IsLine row line differs
    → now ≡ (if differs then differ + 1 else differ) → AreLines IsLine (take (index + 1) rows) (text ++ line) now
lines_next {R} IsLine rows index row text line differ now differs within item so_far is counted =
    let parts : take (index + 1) rows ≡ take index rows ++ row ∷ [] =
    take_more rows index row within ∙ ap (λ (r : R). take index rows ++ r ∷ []) (sym item) in
    let all : AreLines IsLine (take index rows ++ row ∷ []) (text ++ line) (if differs then differ + 1 else differ) =
    lines_more IsLine (take index rows) row text line differ differs so_far is in
    subst (λ n. AreLines IsLine (take (index + 1) rows) (text ++ line) n) (sym counted)
    (subst (λ (l : List R). AreLines IsLine l (text ++ line) (if differs then differ + 1 else differ)) (sym parts) all)

-- The pieces of a target.
use Rattle.std.proofs.Common.{◌≡◌, ℕ, ◌==◌, ◌<◌, ◌≤◌, List, [], ◌∷◌, ◌++◌, false, length, map, refl, sym, ap, ◌∙◌, subst, arith, append_assoc}
use Rattle.std.specs.List.{All, slice_split}
use Rattle.std.proofs.lemmas.Bool.{ne_eqb}
use Rattle.std.proofs.lemmas.List.Splits.{slice_split_none, slice_split_at}
use Rattle.percent_encoding.specs.Percent.{percent_decode}
use Rattle.byte_forms.specs.Parted.{Lacks, parted}
use Rattle.as4_values.proofs.TextLemmas.{one_text_of}
use Rattle.as4_values.specs.Texts.{Spells}
use Rattle.as4_doors.specs.Targets.{pieces, IsShortText}

other_bytes : (bytes : List ℕ) → Lacks 47 bytes → All (λ b. (b == 47) ≡ false) bytes
unfolding Lacks
other_bytes bytes lacks = λ k d within. ne_eqb _ _ (lacks k d within)

pub piece_cut : (bytes front rest : List ℕ) → bytes ≡ parted 47 front rest → Lacks 47 front → pieces bytes ≡ percent_decode front ∷ pieces rest
unfolding pieces
piece_cut bytes front rest is lacks =
    ap (λ (b : List ℕ). map percent_decode (slice_split (λ b. b == 47) b)) is
    ∙ ap (map percent_decode) (slice_split_at (λ b. b == 47) front 47 rest (other_bytes front lacks) refl)

pub last_piece : (bytes : List ℕ) → Lacks 47 bytes → pieces bytes ≡ percent_decode bytes ∷ []
unfolding pieces
last_piece bytes lacks = ap (map percent_decode) (slice_split_none (λ b. b == 47) bytes (other_bytes bytes lacks))

-- a text that is read, but too long, is no short text
pub not_short : (piece text other : List ℕ) → IsShortText piece other → Spells piece text → 255 < length text → ⊥
not_short piece text other is spells long =
    let within : length text ≤ 255 = subst (λ (t : List ℕ). length t ≤ 255) (one_text_of piece other text is.0 spells) is.1 in absurd (omega (arith, within, long))

-- a piece more
pub one_more : (items list : List (List ℕ)) (decoded piece rest more target : List ℕ) → items ≡ list ++ decoded ∷ [] → decoded ≡ percent_decode piece
    → rest ≡ parted 47 piece more → Lacks 47 piece → list ++ pieces rest ≡ pieces target → items ++ pieces more ≡ pieces target
one_more items list decoded piece rest more target pushed is cut lacks held =
    ap (λ (l : List (List ℕ)). l ++ pieces more) pushed ∙ (append_assoc list (decoded ∷ []) (pieces more)
    ∙ (ap (λ (d : List ℕ). list ++ d ∷ pieces more) is ∙ (ap (λ (l : List (List ℕ)). list ++ l) (sym (piece_cut rest piece more cut lacks)) ∙ held)))

pub the_last : (items list : List (List ℕ)) (decoded rest target : List ℕ) → items ≡ list ++ decoded ∷ [] → decoded ≡ percent_decode rest → Lacks 47 rest
    → list ++ pieces rest ≡ pieces target → items ≡ pieces target
the_last items list decoded rest target pushed is lacks held =
    pushed ∙ (ap (λ (d : List ℕ). list ++ d ∷ []) is ∙ (ap (λ (l : List (List ℕ)). list ++ l) (sym (last_piece rest lacks)) ∙ held))

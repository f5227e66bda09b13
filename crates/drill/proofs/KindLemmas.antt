-- What holds of every script of a pair, and of every script of a chain.
use Rattle.std.proofs.Common.{◌≡◌, ℕ, List, [], ◌∷◌, ◌++◌, true, false, refl, sym, ◌∙◌, ap, subst, append_assoc}
use Rattle.std.proofs.lemmas.List.{append-nil}
use Rattle.drill_script.specs.declared.line.Line.{Line}
use Rattle.drill_world.specs.Transcript as pair
use Rattle.drill_world.specs.Transcript.{DrillState}
use Rattle.hub_world.specs.Transcript as chain
use Rattle.hub_world.specs.Transcript.{HubState}

-- lines of a pair, and one more
pub pair_more : (lines : List Line) (l : Line) (text words : List ℕ) (a b c : DrillState) → pair.PlaysAll lines a text b → pair.is_right l b ≡ true
    → pair.is_too_many l b ≡ false → pair.Plays l (pair.doing_of b.world l) b words c → pair.PlaysAll (lines ++ l ∷ []) a (text ++ words) c
pair_more [] l text words a b c plays right one_more turn =
    let here : pair.PlaysAll (l ∷ []) b words c = (c, words, [], right, one_more, turn, (refl, refl), sym (append-nil words)) in
    let start : pair.PlaysAll (l ∷ []) a words c = subst (λ (s : DrillState). pair.PlaysAll (l ∷ []) s words c) plays.1 here in
    subst (λ (t : List ℕ). pair.PlaysAll (l ∷ []) a t c) (ap (λ (t : List ℕ). t ++ words) (sym plays.0)) start
pair_more (m ∷ lines) l text words a b c plays right one_more turn = (
  plays.0,
  plays.1,
  plays.2 ++ words,
  plays.3,
  plays.4,
  plays.5,
  pair_more lines l plays.2 words plays.0 b c plays.6 right one_more turn,
  ap (λ (t : List ℕ). t ++ words) plays.7 ∙ append_assoc plays.1 plays.2 words,
)

-- lines of a chain, and one more
pub chain_more : (lines : List Line) (l : Line) (text words : List ℕ) (a b c : HubState) → chain.PlaysAll lines a text b → chain.is_right l b ≡ true
    → chain.is_too_many l b ≡ false → chain.Plays l (chain.doing_of b l) b words c → chain.PlaysAll (lines ++ l ∷ []) a (text ++ words) c
chain_more [] l text words a b c plays right one_more turn =
    let here : chain.PlaysAll (l ∷ []) b words c = (c, words, [], right, one_more, turn, (refl, refl), sym (append-nil words)) in
    let start : chain.PlaysAll (l ∷ []) a words c = subst (λ (s : HubState). chain.PlaysAll (l ∷ []) s words c) plays.1 here in
    subst (λ (t : List ℕ). chain.PlaysAll (l ∷ []) a t c) (ap (λ (t : List ℕ). t ++ words) (sym plays.0)) start
chain_more (m ∷ lines) l text words a b c plays right one_more turn = (
  plays.0,
  plays.1,
  plays.2 ++ words,
  plays.3,
  plays.4,
  plays.5,
  chain_more lines l plays.2 words plays.0 b c plays.6 right one_more turn,
  ap (λ (t : List ℕ). t ++ words) plays.7 ∙ append_assoc plays.1 plays.2 words,
)

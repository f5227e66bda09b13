-- The text of an element, from those of its children.
use Rattle.std.proofs.Common.{◌≡◌, ℕ, List, [], ◌++◌, ap, sym, ◌∙◌}
use Rattle.std.specs.List.{flat_map}
use Rattle.std.proofs.lemmas.List.Folds.{flat_map-map}
use Rattle.as4_envelope.specs.Markup.{escaped}
use Rattle.as4_envelope.specs.declared.tree.Element.{Element}
use Rattle.as4_envelope.specs.declared.tree.Element.TheViews.{out-Element, roll-Element, roll-out-Element}
use Rattle.as4_envelope.specs.declared.tree.Element.TheFolds.{fold_out-Element}
use Rattle.as4_envelope.specs.Tree.{element_step, element_text, start_text, end_text, child_text}

pub element_text_out : (e : Element) (declared : List ℕ) → element_text e declared ≡ start_text e declared ++ (escaped (out-Element e).text ++ flat_map child_text (out-Element e).children) ++ end_text e
unfolding element_text child_text
element_text_out e declared =
    ap (λ f. f declared) (fold_out-Element (List ℕ → List ℕ) element_step e)
    ∙ ap (λ children. start_text e declared ++ (escaped (out-Element e).text ++ children) ++ end_text e)
    (flat_map-map (λ child. child []) element_text (out-Element e).children)

-- an element is determined by its parts
pub same_parts : (a b : Element) → (out-Element a).space ≡ (out-Element b).space → (out-Element a).local ≡ (out-Element b).local
    → (out-Element a).attributes ≡ (out-Element b).attributes → (out-Element a).text ≡ (out-Element b).text
    → (out-Element a).children ≡ (out-Element b).children → a ≡ b
same_parts a b space local attributes text children =
    sym (roll-out-Element a)
    ∙ ((λ i. roll-Element (record { space = space i; local = local i; attributes = attributes i; text = text i; children = children i }))
    ∙ roll-out-Element b)

-- The children with a name, as a loop over all children finds them.
use Rattle.std.proofs.Common.{◌≡◌, ℕ, ◌+◌, ◌<◌, List, [], ◌∷◌, ◌++◌, true, length, take, drop, get_or, refl, sym, ap, ◌∙◌}
use Rattle.std.specs.Prelude.{Option, Some, None, is_some, option_map}
use Rattle.std.specs.Option.{option_to_list}
use Rattle.std.proofs.lemmas.Bool.{false≢true}
use Rattle.std.proofs.lemmas.List.{drop_more, take-append-drop}
use Rattle.std.proofs.lemmas.List.Elements.{filter-append}
use Rattle.as4_envelope.specs.declared.tree.Element.{Element}
use Rattle.header_reader.specs.declared.names.ElementName.{ElementName}
use Rattle.byte_forms.specs.Cuts.{◌>>=◌}
use Rattle.header_reader.specs.Elements.{is_named, named, at_most_one}

-- the children from this index on

named_yes : (name : ElementName) (es : List Element) (i : ℕ) (d : Element) → i < length es → is_named name (get_or es i d) ≡ true
    → named name (drop i es) ≡ get_or es i d ∷ named name (drop (i + 1) es)
named_yes name es i d within is = ap (named name) (drop_more es i d within) ∙ rw is refl

two_named : (name : ElementName) (es : List Element) (i : ℕ) (d e : Element) → i < length es → named name (take i es) ≡ e ∷ []
    → is_named name (get_or es i d) ≡ true → None ≡ at_most_one (named name es)
two_named name es i d e within front is =
    let whole : named name es ≡ e ∷ get_or es i d ∷ named name (drop (i + 1) es) =
    ap (named name) (sym (take-append-drop i es)) ∙ filter-append (is_named name) (take i es) (drop i es)
    ∙ ap (λ xs. xs ++ named name (drop i es)) front ∙ ap (λ xs. e ∷ xs) (named_yes name es i d within is) in
    rw whole refl

-- the values read so far, followed by the further ones

abbrev pub behind : {X : Type 0} → List X → Option (List X) → Option (List X)
behind front more = more >>= λ xs. Some (front ++ xs)

-- a second child of this name is found
pub found_again : {B : Type 0} (value : B → Element) (name : ElementName) (es : List Element) (i : ℕ) (d : Element) (found : Option B) → i < length es
    → named name (take i es) ≡ option_to_list (option_map value found) → is_some found ≡ true → is_named name (get_or es i d) ≡ true → None ≡ at_most_one (named name es)
found_again value name es i d None within front some is = absurd (false≢true some)
found_again value name es i d (Some e) within front some is = two_named name es i d (value e) within front is

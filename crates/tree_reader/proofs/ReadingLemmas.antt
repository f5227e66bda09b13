-- Changes to the innermost element, which is the last of the vector.
use Rattle.std.proofs.Common.{◌≡◌, ℕ, ◌+◌, ◌-◌, ◌<◌, Bool, false, List, [], ◌∷◌, ◌++◌, Option, Some, None, Result, Ok, Err, length, get_or, set, take, refl, ap, sym, ◌∙◌, arith}
use Rattle.std.proofs.lemmas.List.{take_all, take_more, take_more_set, length-set}
use Rattle.std.proofs.lemmas.Option.{get_or_from_slice_get}
use Rattle.std.specs.List.{slice_get}
use Rattle.std.specs.Option.{is_some}
use Rattle.as4_envelope.specs.declared.tree.Element.{Element}
use Rattle.xml_items.specs.Items.{run}
use Rattle.tree_reader.specs.Steps.{with_front}
use Rattle.tree_reader.specs.Decoded.{text_meant}
use Rattle.tree_reader.specs.Scopes.{Begun}
use Rattle.tree_reader.specs.Reading.{within, with_text, later, step}
use Rattle.tree_reader.specs.declared.stop.Stop.{Stop}
use Rattle.tree_reader.specs.declared.stop.Stop.TheVariants as stops
use Rattle.tree_reader.specs.declared.scope.Open.{Open}
use Rattle.tree_reader.specs.Views.{Misses, Fails, Adds, Makes, begun_of, stack_of, state_by}
use Rattle.tree_reader.proofs.ScopeLemmas.{stack_push}
use Rattle.tree_reader.proofs.StepLemmas.{ok, some_is}

-- the innermost element is the last, and those before it enclose it
pub stack_last : (os : List Open) (n : ℕ) (o : Open) → n ≡ length os → 0 < n → o ≡ get_or os (n - 1) o → stack_of os ≡ begun_of o ∷ stack_of (take (n - 1) os)
stack_last os n o len some is =
    let n_is : n - 1 + 1 ≡ n = omega arith in
    let whole : take n os ≡ os = take_all n os (omega arith) in
    let more : take (n - 1 + 1) os ≡ take (n - 1) os ++ get_or os (n - 1) o ∷ [] = take_more os (n - 1) o (omega arith) in
    ap stack_of (sym whole ∙ (ap (λ k. take k os) (sym n_is) ∙ (more ∙ ap (λ (x : Open). take (n - 1) os ++ x ∷ []) (sym is))))
    ∙ stack_push (take (n - 1) os) o

-- the same, from the result of `slice_get`
pub stack_got : (os : List Open) (o : Open) → slice_get os (length os - 1) ≡ Some o → stack_of os ≡ begun_of o ∷ stack_of (take (length os - 1) os)
stack_got [] o is = absurd cc
stack_got (first ∷ os) o is = stack_last (first ∷ os) (length (first ∷ os)) o refl (omega arith) (sym (get_or_from_slice_get (first ∷ os) (length (first ∷ os) - 1) o o is))

-- replacing the innermost element keeps those around it
pub stack_set : (os : List Open) (n : ℕ) (o : Open) → n ≡ length os → 0 < n → stack_of (set os (n - 1) o) ≡ begun_of o ∷ stack_of (take (n - 1) os)
stack_set os n o len some =
    let n_is : n - 1 + 1 ≡ n = omega arith in
    let whole : take n (set os (n - 1) o) ≡ set os (n - 1) o = take_all n (set os (n - 1) o) (omega (arith, length-set os (n - 1) o)) in
    let more : take (n - 1 + 1) (set os (n - 1) o) ≡ take (n - 1) os ++ o ∷ [] = take_more_set os (n - 1) o (omega arith) in
    ap stack_of (sym whole ∙ (ap (λ k. take k (set os (n - 1) o)) (sym n_is) ∙ more))
    ∙ stack_push (take (n - 1) os) o

text_added : (o : Begun) (os : List Begun) (meant : Option (List ℕ)) (text : List ℕ) → with_front o.text meant ≡ Some text
    → with_text o os meant ≡ ok (within false (record o { text = text } ∷ os))
text_added o os None text is = absurd cc
text_added o os (Some more) text is = ap (λ (t : List ℕ). ok (within false (record o { text = t } ∷ os))) (some_is (o.text ++ more) text is)

no_text : (stop : Stop) (o : Begun) (os : List Begun) (meant : Option (List ℕ)) → Misses stop meant → Fails stop (with_text o os meant)
no_text stops.Memory o os meant misses = tt
no_text stops.Markup o os meant misses = rw misses refl
no_text stops.TooDeep o os meant misses = absurd misses

-- a text is added to it
pub text_read : {X : Type 0} (root : Option Element) (first : Bool) (o : Begun) (os : List Begun) (bytes text : List ℕ) (r : Result X Stop) → is_some root ≡ false
    → Adds r (text_meant bytes) o.text text → Makes r (step 32 (run bytes) (state_by root first (o ∷ os))) (later (state_by root first (record o { text = text } ∷ os)))
unfolding step
text_read None first o os bytes text (Ok x) rootless adds = text_added o os (text_meant bytes) text adds
text_read None first o os bytes text (Err stop) rootless misses = no_text stop o os (text_meant bytes) misses
text_read (Some e) first o os bytes text r rootless adds = absurd cc

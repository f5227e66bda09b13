-- An index of declarations, built from the last to the first.
use Rattle.std.proofs.Common.{◌≡◌, ℕ, ◌+◌, ◌<◌, Bool, true, false, cond, if◌then◌else◌, List, ◌∷◌, map, Option, Some, length, get_or, drop, refl, sym, ap, ◌∙◌, Bor}
use Rattle.std.proofs.lemmas.List.{drop_more}
use Rattle.std.proofs.lemmas.Option.{slice_get_read}
use Rattle.std.proofs.lemmas.Map.Text.{is_eq-slice_cmp}
use Rattle.std.specs.List.{slice_get}
use Rattle.std.specs.Str.{bytes_eq}
use Rattle.std.specs.BTreeMap.{BTreeMap, get, is_at}
use Rattle.tree_reader.specs.Scopes.{found}
use Rattle.tree_reader.specs.declared.declarations.Declared.{Declared}
use Rattle.tree_reader.specs.Declarations.{binding_of, prefix_cmp, space_at, Indexes}

this_or_other : (this : Bool) (all : List Declared) (at : ℕ) (d : Declared) (o : Option ℕ) (other : Option (List ℕ)) → slice_get all at ≡ Some d → space_at all o ≡ other
    → space_at all (cond this (Some at) o) ≡ (if this then Some d.space else other)
this_or_other true all at d o other here so_far = rw here refl
this_or_other false all at d o other here so_far = so_far

-- one more declaration, put first
pub index_more : (index next : BTreeMap (Bor (List ℕ)) ℕ) (all : List Declared) (at : ℕ) (d : Declared) → at < length all → d ≡ get_or all at d
    → ((q : Bor (List ℕ)) → get prefix_cmp next q ≡ cond (is_at (prefix_cmp (get_or all at d).prefix) q) (Some at) (get prefix_cmp index q)) → Indexes index all (drop (at + 1) all) → Indexes next all (drop at all)
index_more index next all at d within is updates so_far q =
    let front : drop at all ≡ d ∷ drop (at + 1) all = drop_more all at d within ∙ ap (λ (x : Declared). x ∷ drop (at + 1) all) (sym is) in
    let test : is_at (prefix_cmp (get_or all at d).prefix) q ≡ bytes_eq d.prefix.now q.now =
    is_eq-slice_cmp (get_or all at d).prefix.now q.now ∙ ap (λ (x : Declared). bytes_eq x.prefix.now q.now) (sym is) in
    ap (space_at all) (updates q ∙ ap (λ (b : Bool). cond b (Some at) (get prefix_cmp index q)) test)
    ∙ (this_or_other (bytes_eq d.prefix.now q.now) all at d (get prefix_cmp index q) (found (map binding_of (drop (at + 1) all)) q.now) (slice_get_read all (length all) at d refl within is) (so_far q)
    ∙ sym (ap (λ (ds : List Declared). found (map binding_of ds) q.now) front))

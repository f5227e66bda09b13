-- The root at its index, and the package that results.
use Rattle.std.proofs.Common.{◌≡◌, ℕ, ◌<◌, true, false, List, length, get_or, map, Some, None, not, refl, sym, ap, ◌∙◌}
use Rattle.std.specs.Prelude.{Ok, Err, position}
use Rattle.std.specs.List.{remove}
use Rattle.std.proofs.lemmas.Bool.{cond-true, cond-false}
use Rattle.mime_fields.specs.Lent.{part_value}
use Rattle.mime_fields.specs.declared.part.Part.{Part}
use Rattle.mime_package.specs.declared.read.MimeRefusal.TheVariants.{NoRoot, Encoding}
use Rattle.mime_package.specs.Reading.{encoded_at, is_root, with_root}
use Rattle.mime_package.specs.Steps.{package_at, taken_out}
use Rattle.mime_package.proofs.RootLemmas.{encoded_first, taken_removed}

-- the part at the index, and the others
stands : (parts : List Part) (at : ℕ) (root : Part) → at < length parts → root ≡ get_or parts at root
    → taken_out at (map part_value parts) ≡ Some (part_value root, map part_value (remove parts at))
stands parts at root within is =
    taken_removed part_value parts at root within ∙ ap (λ p. Some (part_value p, map part_value (remove parts at))) (sym is)

-- the part is no root
pub not_rooted : (parts : List Part) (at : ℕ) (root : Part) → at < length parts → root ≡ get_or parts at root → is_root (part_value root) ≡ false
    → with_root (map part_value parts) (taken_out at (map part_value parts)) ≡ Err NoRoot
not_rooted parts at root within is fails =
    ap (with_root (map part_value parts)) (stands parts at root within is) ∙ cond-false (is_root (part_value root)) _ _ fails

-- a content is encoded
pub encoded_there : (parts : List Part) (at index : ℕ) (root : Part) → at < length parts → root ≡ get_or parts at root → is_root (part_value root) ≡ true → position (λ p. not p.identity) parts ≡ Some index
    → with_root (map part_value parts) (taken_out at (map part_value parts)) ≡ Err (Encoding index)
encoded_there parts at index root within is held found =
    let encoded : encoded_at 0 (map part_value parts) ≡ Some index = sym (encoded_first parts) ∙ found in
    ap (with_root (map part_value parts)) (stands parts at root within is) ∙ cond-true (is_root (part_value root)) _ _ held ∙ rw encoded refl

-- no content is encoded
pub rooted_there : (parts : List Part) (at : ℕ) (root : Part) → at < length parts → root ≡ get_or parts at root → is_root (part_value root) ≡ true → position (λ p. not p.identity) parts ≡ None
    → with_root (map part_value parts) (taken_out at (map part_value parts)) ≡ Ok (package_at at (map part_value parts))
unfolding package_at
rooted_there parts at root within is held found =
    let none : encoded_at 0 (map part_value parts) ≡ None = sym (encoded_first parts) ∙ found in
    let taken = stands parts at root within is in
    ap (with_root (map part_value parts)) taken ∙ cond-true (is_root (part_value root)) _ _ held ∙ rw (none, taken, package_at) refl

-- the package consists of the part that is taken out and of the others
pub package_of_removed : (parts : List Part) (at : ℕ) (root : Part) → at < length parts → root ≡ get_or parts at root
    → package_at at (map part_value parts) ≡ record { root = root.content.now; parts = map part_value (remove parts at) }
unfolding package_at
package_of_removed parts at root within is = rw (stands parts at root within is, package_at) refl

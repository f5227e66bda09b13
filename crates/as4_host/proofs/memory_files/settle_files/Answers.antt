use Rattle.std.proofs.Common.{◌≡◌, sym, ◌∙◌}
use Rattle.as4_disk.specs.declared.part.Part.TheVariants.{Selector, Leaf0, Leaf1}
use Rattle.as4_host.proofs.memory_files.settle_files.Goals as goal

apart_1_0 : (Leaf1 ≡ Leaf0) → ⊥
apart_1_0 same = cc

apart_selector_0 : (Selector ≡ Leaf0) → ⊥
apart_selector_0 same = cc

apart_selector_1 : (Selector ≡ Leaf1) → ⊥
apart_selector_1 same = cc

pub returns-clause-there : goal.returns-clause-there
returns-clause-there c Leaf0 some alone =
    c.set_file-3.ensures.elsewhere _ (λ same. apart_selector_0 (alone Selector (sym same)))
    ∙ c.set_file-2.ensures.elsewhere _ (λ same. apart_1_0 (alone Leaf1 (sym same)))
    ∙ c.set_file.ensures.there some
returns-clause-there c Leaf1 some alone =
    c.set_file-3.ensures.elsewhere _ (λ same. apart_selector_1 (alone Selector (sym same)))
    ∙ c.set_file-2.ensures.there (c.set_file.ensures.rows _ ∙ some)
returns-clause-there c Selector some alone =
    c.set_file-3.ensures.there (c.set_file-2.ensures.rows _ ∙ c.set_file.ensures.rows _ ∙ some)

pub returns-clause-elsewhere : goal.returns-clause-elsewhere
returns-clause-elsewhere c p other =
    c.set_file-3.ensures.elsewhere p (other Selector)
    ∙ c.set_file-2.ensures.elsewhere p (other Leaf1)
    ∙ c.set_file.ensures.elsewhere p (other Leaf0)

use Rattle.std.proofs.Common.{ℕ, List, [], ◌∷◌, Some}
use Rattle.as4_disk.specs.declared.part.Part.{Part}
use Rattle.as4_disk.specs.declared.part.Part.TheVariants.{Selector, Leaf0, Leaf1}
use Rattle.as4_host.proofs.AskedLemmas.{asked_paths}
use Rattle.host_tests.proofs.hosts.stores.Goals as goal

-- the paths of the store: `s`, `s.0`, `s.1`
abbrev path : Part → List ℕ
path Selector = 115 ∷ []
path Leaf0 = 115 ∷ 46 ∷ 48 ∷ []
path Leaf1 = 115 ∷ 46 ∷ 49 ∷ []

pub settle_disk-requires : goal.settle_disk-requires
settle_disk-requires c v told Selector = asked_paths (Some c.fail_stores_at.new.self.names) (Some c.open_disk.new.self.names) path c.in-Ok.ensures.names v told Selector
settle_disk-requires c v told Leaf0 = asked_paths (Some c.fail_stores_at.new.self.names) (Some c.open_disk.new.self.names) path c.in-Ok.ensures.names v told Leaf0
settle_disk-requires c v told Leaf1 = asked_paths (Some c.fail_stores_at.new.self.names) (Some c.open_disk.new.self.names) path c.in-Ok.ensures.names v told Leaf1

use Rattle.std.proofs.Common.{rules, ◌≡◌, refl, inl}
use Rattle.std.proofs.lemmas.Result.{IfErr-weaker, IfOk-weaker}
use Rattle.as4_disk.specs.declared.part.Part.TheVariants.{Leaf1, Selector}
use Rattle.handler.specs.Hosts.{file_of}
use Rattle.auditor.proofs.ReadingLemmas.{picked_by, unpicked_by}
use Rattle.auditor.proofs.files.read_picked.Given.{Over}
use Rattle.auditor.proofs.files.read_picked.Goals as goal

-- the paths of the other two files
selector_is : (g : Over) (c : goal.After-drop-in-Ok-Ok g) → c.deref.result.now ≡ file_of c.args.journal.now Selector
selector_is g c = search rules

second_is : (g : Over) (c : goal.After-drop-in-Ok-Ok g) → c.deref-in-Ok-Ok.result.now ≡ file_of c.args.journal.now Leaf1
second_is g c = search rules

pub returns-in-Ok-Ok-clause-leaf : goal.returns-in-Ok-Ok-clause-leaf
returns-in-Ok-Ok-clause-leaf g c =
    IfOk-weaker c.read_by-leaf.result _ _
    (λ leaf found. picked_by g.H.Host c.args.journal.now c.deref.result.now c.deref-in-Ok-Ok.result.now found.0 _ c.args.host.now (selector_is g c) (second_is g c) found.1 found.2)
    c.read_by-leaf.ensures.leaf

pub returns-in-Ok-Ok-clause-unread : goal.returns-in-Ok-Ok-clause-unread
returns-in-Ok-Ok-clause-unread g c =
    IfErr-weaker c.read_by-leaf.result _ _
    (λ end unread. unpicked_by g.H.Host c.args.journal.now c.deref.result.now c.deref-in-Ok-Ok.result.now c.args.host.now (g.H.Host.fault_count c.read_by-leaf.new.host) end (selector_is g c) (second_is g c) unread)
    c.read_by-leaf.ensures.unread

pub returns-in_default-clause-unread : goal.returns-in_default-clause-unread
returns-in_default-clause-unread g c = inl refl

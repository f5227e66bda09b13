use Rattle.std.proofs.Common.{◌≡◌, [], ◌∷◌, sym, ◌∙◌}
use Rattle.as4_disk.specs.Image.{Image}
use Rattle.as4_disk.proofs.RunLemmas.{then}
use Rattle.journal.specs.declared.version.Version.TheVariants.{Two}
use Rattle.journal.specs.Leaf.{magic_of, front_of}
use Rattle.journal.specs.Store.{picked_leaf}
use Rattle.journal.proofs.LeafLemmas.{front_none}
use Rattle.journal.proofs.other.empty_other.Goals as goal

the_magic : 65 ∷ 83 ∷ 52 ∷ 74 ∷ 78 ∷ 76 ∷ 50 ∷ 10 ∷ [] ≡ front_of Two []
unfolding magic_of
the_magic = sym (front_none Two)

pub returns-in_err-cut_other-clause-any_moment : goal.returns-in_err-cut_other-clause-any_moment
returns-in_err-cut_other-clause-any_moment g c leaf is = c.cut_other.ensures.any_moment leaf is

pub returns-in_err-write_other-clause-any_moment : goal.returns-in_err-write_other-clause-any_moment
returns-in_err-write_other-clause-any_moment g c leaf is =
    then g.D.Disk c.args.disk.now c.cut_other.new.disk c.write_other.new.disk (λ (image : Image). picked_leaf image ≡ leaf)
    (c.cut_other.ensures.any_moment leaf is) (c.write_other.ensures.any_moment leaf (c.in_ok-cut_other.ensures.kept leaf is).0)

pub returns-clause-any_moment : goal.returns-clause-any_moment
returns-clause-any_moment g c leaf is =
    then g.D.Disk c.args.disk.now c.cut_other.new.disk c.write_other.new.disk (λ (image : Image). picked_leaf image ≡ leaf)
    (c.cut_other.ensures.any_moment leaf is) (c.write_other.ensures.any_moment leaf (c.in_ok-cut_other.ensures.kept leaf is).0)

pub returns-clause-kept : goal.returns-clause-kept
returns-clause-kept g c leaf is =
    let cut = c.in_ok-cut_other.ensures.kept leaf is in
    let wrote = c.in_ok-write_other.ensures.kept leaf [] cut.0 cut.1 in
    (wrote.0, λ b told. wrote.1 b told ∙ the_magic)

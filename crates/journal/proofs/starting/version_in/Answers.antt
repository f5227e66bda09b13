use Rattle.std.proofs.Common.{sym, ◌∙◌}
use Rattle.std.proofs.lemmas.Slice.Eq.{slice_eq-Decides}
use Rattle.std.proofs.lemmas.Bool.{false≢true}
use Rattle.std.proofs.lemmas.Bool.Decides.{Decides-eqb}
use Rattle.journal.specs.declared.version.Version.TheVariants.{One, Two}
use Rattle.journal.specs.Leaf.{magic_of}
use Rattle.journal.proofs.starting.version_in.Goals as goal

pub returns-then-eq-clause-some : goal.returns-then-eq-clause-some
unfolding magic_of
returns-then-eq-clause-some c = (slice_eq-Decides Decides-eqb _ _ _ c.eq.ensures).0 c.if-eq.true ∙ c.as_slice.ensures

pub returns-then-eq-2-clause-some : goal.returns-then-eq-2-clause-some
unfolding magic_of
returns-then-eq-2-clause-some c = (slice_eq-Decides Decides-eqb _ _ _ c.eq-2.ensures).0 c.if-eq-2.true

pub returns-clause-none : goal.returns-clause-none
unfolding magic_of
returns-clause-none c One same = absurd (false≢true (sym c.if-eq.false ∙ (slice_eq-Decides Decides-eqb _ _ _ c.eq.ensures).1 (same ∙ sym c.as_slice.ensures)))
returns-clause-none c Two same = absurd (false≢true (sym c.if-eq-2.false ∙ (slice_eq-Decides Decides-eqb _ _ _ c.eq-2.ensures).1 same))

use Rattle.std.proofs.Common.{◌≡◌, ◌⊎◌, ◌∷◌, [], refl, ap, inl, inr, arith}
use Rattle.auditor.proofs.ReadingLemmas.{reads_one, reads_pair}
use Rattle.auditor.proofs.files.read_by.Given.{Over}
use Rattle.auditor.proofs.files.read_by.Goals as goal
use Rattle.auditor.proofs.files.read_by.Goals.{then-is_second, else-is_second}

pub returns-in_err-picked-clause-reads : goal.returns-in_err-picked-clause-reads
returns-in_err-picked-clause-reads g c =
    reads_one g.H.Host (c.args.first.now ∷ c.args.second.now ∷ c.args.selector.now ∷ []) c.args.selector.now c.args.host.now c.read.new.host (2, omega arith, refl) c.read.ensures.reads

-- the leaf that is read is the first or the second
path_read : (g : Over) (c : goal.After-read-2 g) → (c.if-is_second.read.now ≡ c.args.first.now) ⊎ (c.if-is_second.read.now ≡ c.args.second.now)
path_read g c = elim c.if-is_second.branch [
  | then-is_second w ↦ inr (ap (λ p. p.now) w.read-is)
  | else-is_second w ↦ inl (ap (λ p. p.now) w.read-is)
]

pub returns-clause-reads : goal.returns-clause-reads
returns-clause-reads g c =
    reads_pair g.H.Host c.args.first.now c.args.second.now c.args.selector.now c.if-is_second.read.now c.args.host.now c.read.new.host c.read-2.new.host (path_read g c) c.read.ensures.reads c.read-2.ensures.reads

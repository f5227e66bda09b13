use Rattle.std.proofs.Common.{◌≡◌, ℕ, List, ◌∷◌, ◌++◌, ap, sym, arith, ◌∙◌}
use Rattle.std.proofs.lemmas.Grind.{common_steps}
use Rattle.journal.specs.declared.version.Version.TheVariants.{Two}
use Rattle.journal.specs.Leaf.{length_bytes, record_of}
use Rattle.journal.proofs.frame.Frame.begin.Goals as goal

-- the two pieces
made : (c : goal.In_ok-extend_from_slice) → c.extend_from_slice.new.self.items ≡ 1 ∷ length_bytes Two c.args.len
unfolding length_bytes
made c = grind (arith, common_steps)

pub returns-clause-front : goal.returns-clause-front
unfolding record_of
returns-clause-front c body same = ap (λ (l : List ℕ). l ++ body) (made c) ∙ ap (λ (n : ℕ). 1 ∷ length_bytes Two n ++ body) (sym same)

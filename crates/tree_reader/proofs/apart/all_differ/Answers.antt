use Rattle.std.proofs.Common.{◌-◌, arith, sym, ◌∙◌}
use Rattle.tree_reader.proofs.ApartLemmas.{all_apart, two_alike, nothing}
use Rattle.tree_reader.proofs.apart.all_differ.Goals as goal

pub returns-then-eq-2 : goal.returns-then-eq-2
returns-then-eq-2 c =
    two_alike c.args.names.now c.sort_unstable.new.self (c.loop-at.at - 1) c.loop-at.at _ (omega arith) c.sort_unstable.ensures.permutation (omega arith)
    (sym c.eq.ensures ∙ c.if-eq.true) (sym c.eq-then-eq.ensures ∙ c.if-eq-2.true)

pub returns : goal.returns
returns c =
    all_apart c.args.names.now c.sort_unstable.new.self nothing c.sort_unstable.ensures.permutation (λ k d low short. c.sort_unstable.ensures.sorted k d low short)
    (λ k d short. c.loop-at.invariant k d (omega arith))

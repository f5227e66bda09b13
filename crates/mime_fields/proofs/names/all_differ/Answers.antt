use Rattle.std.proofs.Common.{◌≡◌, ◌-◌, true, arith, refl, sym, ◌∙◌}
use Rattle.std.specs.Prelude.{bytes_eq}
use Rattle.std.proofs.lemmas.List.Elements.{pair_read}
use Rattle.mime_fields.proofs.ApartLemmas.{items_of, all_apart, two_alike}
use Rattle.mime_fields.proofs.names.all_differ.Goals as goal

pub returns-then-eq : goal.returns-then-eq
returns-then-eq c =
    let same : bytes_eq c.index-names-at.result.items c.index-names-at-in-loop-at.result.items ≡ true = rw (c.as_slice.ensures.value, c.as_slice-in-loop-at.ensures.value) at (sym c.eq.ensures ∙ c.if-eq.true) in
    let d = c.index-names-at.result in
    let placed = pair_read c.sort_unstable.new.self (λ a b. bytes_eq (items_of a) (items_of b) ≡ true) (c.loop-at.at - 1) c.loop-at.at c.index-names-at.result c.index-names-at-in-loop-at.result (omega arith) (omega arith) c.index-names-at.is c.index-names-at-in-loop-at.is same d in
    (λ is. absurd cc, λ distinct. absurd (two_alike items_of c.args.names.now c.sort_unstable.new.self (c.loop-at.at - 1) c.loop-at.at d (omega arith) c.sort_unstable.ensures.permutation (omega arith) placed distinct))

pub returns : goal.returns
returns c = (
  λ is. all_apart items_of c.args.names.now c.sort_unstable.new.self c.sort_unstable.ensures.permutation (λ k d low short. c.sort_unstable.ensures.sorted k d low short) (λ k d short. c.loop-at.invariant k d (omega arith)),
  λ distinct. refl,
)

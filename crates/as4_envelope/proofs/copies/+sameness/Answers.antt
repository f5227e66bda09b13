use Rattle.std.proofs.Common.{ap, sym, ◌∙◌, rules}
use Rattle.as4_envelope.specs.declared.tree.Element.{Element}
use Rattle.as4_envelope.specs.declared.tree.Element.TheViews.{out-Element}
use Rattle.as4_envelope.proofs.TreeLemmas.{same_parts}
use Rattle.as4_envelope.proofs.copies.+sameness.Goals as goal

pub is_same-returns : goal.is_same-returns
is_same-returns t c =
    let alone = c.is_same_alone.ensures.0 (search rules) in (
      λ is. same_parts c.args.one.now c.args.other.now alone.0 alone.1 alone.2 alone.3
          (sym c.items.ensures ∙ (c.are_same.ensures.0 is ∙ c.items-2.ensures)),
      λ same. c.are_same.ensures.1 (c.items.ensures ∙ (ap (λ (e : Element). (out-Element e).children) same ∙ sym c.items-2.ensures)),
    )

-- An element fits if it is sound and its children fit.
use Rattle.std.proofs.Common.{◌≡◌, ℕ, ◌-◌, Bool, ◌&&◌, nat_le, ap, ◌∙◌}
use Rattle.std.specs.List.{list_all}
use Rattle.std.proofs.lemmas.List.Folds.{list_all-map}
use Rattle.as4_envelope.specs.declared.tree.Element.{Element}
use Rattle.as4_envelope.specs.declared.tree.Element.TheViews.{out-Element}
use Rattle.as4_envelope.specs.declared.tree.Element.TheFolds.{fold_out-Element}
use Rattle.as4_envelope.specs.Writable.{is_sound, fits, fits_step}

pub fits_out : (e : Element) (levels : ℕ) → fits e levels ≡ (nat_le 1 levels && is_sound (out-Element e) && list_all (λ child. fits child (levels - 1)) (out-Element e).children)
unfolding fits
fits_out e levels =
    ap (λ f. f levels) (fold_out-Element (ℕ → Bool) fits_step e)
    ∙ ap (λ b. nat_le 1 levels && is_sound (out-Element e) && b) (list_all-map (λ child. child (levels - 1)) fits (out-Element e).children)

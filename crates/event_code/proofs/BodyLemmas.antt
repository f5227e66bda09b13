-- Lengths of bodies.
use Rattle.std.proofs.Common.{◌≡◌, ℕ, ◌+◌, ◌<◌, ◌≤◌, List, ◌∷◌, ◌++◌, length, length-append, append-nil, take, get_or, refl, ap, sym, ◌∙◌, arith}
use Rattle.std.specs.Prelude.{IsTrue}
use Rattle.std.specs.List.{flat_map, sum_by}
use Rattle.std.proofs.lemmas.List.Sums.{sum_by_more}
use Rattle.std.proofs.lemmas.Grind.{flat_map-append}
use Rattle.std.proofs.lemmas.List.{take_more, take_all}
use Rattle.as4_effects.proofs.CountLemmas.{fits_within}
use Rattle.as4_effects.proofs.LengthLemmas.{number_length, grown_bytes}
use Rattle.as4_effects.specs.Bodies.{number_body, text_body}
use Rattle.as4_effects.specs.Effects.{fields_body, standing_body, effect_body, effects_body, carried_limit, most_bytes_of}
use Rattle.as4_effects.specs.Marks.{mark_body}
use Rattle.as4_effects.specs.Lengths.{grown}
use Rattle.as4_effects.specs.Sound.{fits_an_effect, effect_limit}
use Rattle.as4_effects.specs.declared.carried.Carried.{Carried as CarriedValue}
use Rattle.as4_effects.specs.declared.effect.Effect.{Effect}
use Rattle.as4_effects.specs.declared.effect.Effect.TheVariants.{Submitted, Ticked, Tried, Delivered, Receipted, Refused, Confirmed, Carried, Kept}

-- the count of an effect within its limit is exact
pub counted_exactly : (len : ℕ) (body : List ℕ) → len ≡ grown 0 body → IsTrue (fits_an_effect body) → len ≡ length body
counted_exactly len body e fits = let h : length body ≤ 536870910 = fits_within body fits in e ∙ grown_bytes 0 body ∙ omega arith

pub counted_within : (len : ℕ) (body : List ℕ) → len ≡ grown 0 body → IsTrue (fits_an_effect body) → len ≤ effect_limit
counted_within len body e fits = let h : length body ≤ 536870910 = fits_within body fits in rw (counted_exactly len body e fits) h

pub refused_length : (number : ℕ) (code : List ℕ) → length ((6 ∷ number_body 8 number) ++ text_body code) ≡ 13 + length code
unfolding text_body
refused_length number code = simp (length-append, number_length) (omega arith)

pub mark_length : (code : List ℕ) → length (3 ∷ text_body code) ≡ 5 + length code
unfolding text_body
mark_length code = simp (length-append, number_length) (omega arith)

pub standing_length : (c : CarriedValue) → length (8 ∷ standing_body c) ≡ length (1 ∷ fields_body c.submission) + 12 + length (mark_body c.standing)
standing_length c =
    let fields = fields_body c.submission in
    let tries = number_body 4 c.tries in
    let last = number_body 8 c.last in
    omega (arith, length-append (fields ++ tries ++ last) (mark_body c.standing), length-append (fields ++ tries) last, length-append fields tries, number_length 4 c.tries, number_length 8 c.last)

pub more_length : (effects : List Effect) (i : ℕ) (effect : Effect) → i < length effects → effect ≡ get_or effects i effect
    → length (flat_map effect_body (take (i + 1) effects)) ≡ length (flat_map effect_body (take i effects)) + length (effect_body effect)
more_length effects i effect below is =
    rw (take_more effects i effect below, ← is, flat_map-append, length-append) (simp append-nil)

pub body_length : (effects items : List Effect) (i : ℕ) → items ≡ effects → length items ≤ i
    → 2 + length (flat_map effect_body (take i items)) ≡ length (effects_body effects)
unfolding effects_body
body_length effects items i same all =
    rw (take_all i items all, same, length-append, number_length) refl

pub most_within : (effect : Effect) → most_bytes_of effect ≤ carried_limit
most_within (Submitted submission) = omega arith
most_within (Ticked tick) = omega arith
most_within (Tried number) = omega arith
most_within (Delivered delivery) = omega arith
most_within (Receipted number) = omega arith
most_within (Refused number code) = omega arith
most_within (Confirmed upto) = omega arith
most_within (Carried carried) = omega arith
most_within (Kept kept) = omega arith

pub more_most : (effects : List Effect) (i : ℕ) (effect : Effect) → i < length effects → effect ≡ get_or effects i effect
    → sum_by most_bytes_of (take (i + 1) effects) ≡ sum_by most_bytes_of (take i effects) + most_bytes_of effect
more_most effects i effect below is =
    sum_by_more most_bytes_of effects i effect below ∙ ap (λ e. sum_by most_bytes_of (take i effects) + most_bytes_of e) (sym is)

pub body_most : (effects items : List Effect) (i : ℕ) → items ≡ effects → length items ≤ i
    → sum_by most_bytes_of (take i items) ≡ sum_by most_bytes_of effects
body_most effects items i same all = rw (take_all i items all, same) refl

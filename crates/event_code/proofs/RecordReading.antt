-- Bodies of records, and bytes that are no body.
use Rattle.std.proofs.Common.{◌≡◌, ℕ, ◌<◌, ◌≤◌, ◌^◌, List, [], ◌∷◌, ◌++◌, length, append-nil, length-append, refl, ap, sym, ◌∙◌, arith}
use Rattle.std.specs.List.{flat_map}
use Rattle.byte_forms.proofs.NumberLemmas.{number_length, number_once}
use Rattle.byte_forms.proofs.OnceLemmas.{items_once}
use Rattle.byte_forms.specs.Forms.{Each, Once, Refuses}
use Rattle.as4_effects.specs.Bodies.{number_body}
use Rattle.as4_effects.specs.Effects.{effect_body, effects_body, effects_limit}
use Rattle.as4_effects.specs.declared.effect.Effect.{Effect}
use Rattle.event_code.specs.Spelled.{IsSpelledEffect, AreSpelled}

-- the bytes aren't the body of any effects
abbrev pub IsNoBody : List ℕ → Type 0
IsNoBody bytes =
    (effects : List Effect) → 1 ≤ length effects → length effects ≤ effects_limit → AreSpelled effects → bytes ≡ effects_body effects → ⊥

pub no_count : (bytes : List ℕ) → length bytes < 2 → IsNoBody bytes
unfolding effects_body
no_count bytes short effects some within spelled e =
    omega (arith, ap length e, length-append (number_body 2 (length effects)) (flat_map effect_body effects), number_length 2 (length effects))

count_of : (bytes rest : List ℕ) (count : ℕ) → count < 256 ^ 2 → bytes ≡ number_body 2 count ++ rest
    → (effects : List Effect) → length effects ≤ effects_limit → bytes ≡ effects_body effects → (count ≡ length effects) × (rest ≡ flat_map effect_body effects)
unfolding effects_body
count_of bytes rest count fits e effects within f =
    number_once 2 count (length effects) rest (flat_map effect_body effects) fits (omega (arith, within)) (sym e ∙ f)

pub wrong_count : (bytes rest : List ℕ) (count : ℕ) → count < 256 ^ 2 → bytes ≡ number_body 2 count ++ rest → ((1 ≤ count) × (count ≤ effects_limit) → ⊥) → IsNoBody bytes
wrong_count bytes rest count fits e wrong effects some within spelled f =
    let parts = count_of bytes rest count fits e effects within f in
    wrong (omega (arith, parts.0, some), omega (arith, parts.0, within))

pub no_items : (bytes rest : List ℕ) (count : ℕ) → count < 256 ^ 2 → bytes ≡ number_body 2 count ++ rest
    → Refuses (λ items. (length items ≡ count) × Each IsSpelledEffect items) (flat_map effect_body) rest → IsNoBody bytes
no_items bytes rest count fits e refused effects some within spelled f =
    let parts = count_of bytes rest count fits e effects within f in
    refused.none effects [] (sym parts.0, spelled) (parts.1 ∙ sym (append-nil (flat_map effect_body effects)))

pub bytes_behind : Once IsSpelledEffect effect_body → (bytes rest last : List ℕ) (count : ℕ) (items : List Effect) → count < 256 ^ 2 → bytes ≡ number_body 2 count ++ rest
    → length items ≡ count → Each IsSpelledEffect items → rest ≡ flat_map effect_body items ++ last → (length last ≡ 0 → ⊥) → IsNoBody bytes
bytes_behind once bytes rest last count items fits e counted each g more effects some within spelled f =
    let parts = count_of bytes rest count fits e effects within f in
    let ends = items_once IsSpelledEffect effect_body once items effects last [] (counted ∙ parts.0) each spelled
    (sym g ∙ parts.1 ∙ sym (append-nil (flat_map effect_body effects))) in
    more (ap length ends.1)

no_bytes : (bytes : List ℕ) → length bytes ≡ 0 → bytes ≡ []
no_bytes [] e = refl
no_bytes (b ∷ bytes) e = absurd (omega (arith, e))

pub whole_body : (bytes rest last : List ℕ) (count : ℕ) (items : List Effect) → bytes ≡ number_body 2 count ++ rest
    → length items ≡ count → rest ≡ flat_map effect_body items ++ last → length last ≡ 0 → bytes ≡ effects_body items
unfolding effects_body
whole_body bytes rest last count items e counted g done =
    rw (e, g, no_bytes last done, append-nil, counted) refl

pub one_body : Once IsSpelledEffect effect_body → (e f : List Effect) → length e ≤ effects_limit → length f ≤ effects_limit → AreSpelled e → AreSpelled f → effects_body e ≡ effects_body f → e ≡ f
unfolding effects_body
one_body once e f within_e within_f spelled_e spelled_f same =
    let parts = number_once 2 (length e) (length f) (flat_map effect_body e) (flat_map effect_body f) (omega (arith, within_e)) (omega (arith, within_f)) same in
    let ends = items_once IsSpelledEffect effect_body once e f [] [] parts.0 spelled_e spelled_f
    (append-nil (flat_map effect_body e) ∙ parts.1 ∙ sym (append-nil (flat_map effect_body f))) in
    ends.0

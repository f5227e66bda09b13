-- Bytes that begin with neither a pulled route nor a refusal, because of the bytes after the first.
use Rattle.std.proofs.Common.{◌≡◌, ℕ, ◌<◌, ◌^◌, List, ◌∷◌, ◌++◌, drop, refl, ap, sym, ◌∙◌}
use Rattle.byte_forms.proofs.OnceLemmas.{first_byte, apart}
use Rattle.byte_forms.specs.Bytes.{number_body, text_body, pair_body}
use Rattle.byte_forms.specs.Forms.{IsPair, Refuses}
use Rattle.as4_effects.specs.Bodies.{route_body}
use Rattle.as4_effects.specs.Effects.{effect_body}
use Rattle.as4_effects.specs.declared.effect.Effect.{Effect}
use Rattle.as4_effects.specs.declared.effect.Effect.TheVariants.{Refused}
use Rattle.as4_values.specs.Texts.{IsText}
use Rattle.as4_values.specs.Word.{IsWord}
use Rattle.as4_values.specs.declared.route.Route.{Route}
use Rattle.as4_values.specs.declared.route.Route.TheVariants.{Pull}
use Rattle.as4_values.specs.declared.word.Word.TheVariants.{ErrorCode}
use Rattle.event_code.specs.Spelled.{IsSpelledRoute, IsSpelledEffect}

no_pull : (rest : List ℕ) → Refuses (IsPair IsText IsText) (pair_body text_body text_body) rest
    → (x : Route) (r : List ℕ) → IsSpelledRoute x → 1 ∷ rest ≡ route_body x ++ r → ⊥
unfolding IsSpelledRoute route_body
no_pull rest refused (Pull mpc x) r a e = refused.none (mpc, x) r a (ap (drop 1) e)
no_pull rest refused x r a e = apart (first_byte e) refl

pub pull_refused : (bytes rest : List ℕ) → bytes ≡ 1 ∷ rest → Refuses (IsPair IsText IsText) (pair_body text_body text_body) rest
    → Refuses IsSpelledRoute route_body bytes
pull_refused bytes rest is refused = record { none = λ x r a e. no_pull rest refused x r a (sym is ∙ e) }

no_code : (rest : List ℕ) → Refuses (IsPair (λ n. n < 256 ^ 8) (IsWord ErrorCode)) (pair_body (number_body 8) text_body) rest
    → (x : Effect) (r : List ℕ) → IsSpelledEffect x → 6 ∷ rest ≡ effect_body x ++ r → ⊥
unfolding IsSpelledEffect effect_body
no_code rest refused (Refused number code) r a e = refused.none (number, code) r a (ap (drop 1) e)
no_code rest refused x r a e = apart (first_byte e) refl

pub code_refused : (rest : List ℕ) → Refuses (IsPair (λ n. n < 256 ^ 8) (IsWord ErrorCode)) (pair_body (number_body 8) text_body) rest
    → Refuses IsSpelledEffect effect_body (6 ∷ rest)
code_refused rest refused = record { none = no_code rest refused }

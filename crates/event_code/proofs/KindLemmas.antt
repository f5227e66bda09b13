-- No bytes begin with two routes, two marks or two effects: the first byte determines the kind.
use Rattle.std.specs.Prelude.{ℕ, List, ◌++◌, drop}
use Rattle.std.proofs.Common.{refl, ap}
use Rattle.byte_forms.specs.Forms.{Once}
use Rattle.byte_forms.proofs.NumberLemmas.{number_once}
use Rattle.byte_forms.proofs.OnceLemmas.{first_byte, apart, pair_once}
use Rattle.as4_effects.proofs.CountLemmas.{texts_once, words_once}
use Rattle.as4_effects.specs.Bodies.{number_body, list_body, header_body, payload_body, route_body}
use Rattle.as4_effects.specs.Effects.{fields_body, standing_body, effect_body}
use Rattle.as4_effects.specs.Marks.{mark_body}
use Rattle.as4_effects.specs.declared.effect.Effect.{Effect}
use Rattle.as4_effects.specs.declared.effect.Effect.TheVariants.{Submitted, Ticked, Tried, Delivered, Receipted, Refused, Confirmed, Carried, Kept}
use Rattle.as4_effects.specs.declared.effect.Tick.{Tick}
use Rattle.as4_effects.specs.declared.kept.Kept.{Kept as KeptValue}
use Rattle.as4_effects.specs.declared.mark.Mark.{Mark}
use Rattle.as4_effects.specs.declared.mark.Mark.TheVariants.{Pending, Receipted as WasReceipted, Failed, Refused as WasRefused}
use Rattle.as4_values.specs.declared.route.Route.{Route}
use Rattle.as4_values.specs.declared.route.Route.TheVariants.{Push, Pull}
use Rattle.as4_values.specs.declared.word.Word.TheVariants.{ErrorCode}
use Rattle.event_code.specs.Spelled.{IsSpelledHeader, IsSpelledRoute, IsSpelledMark, IsSpelledSubmission, IsSpelledDelivery, IsSpelledCarried, IsSpelledEffect}

pull_of : List ℕ × List ℕ → Route
pull_of t = Pull t.0 t.1

pub route_once : Once IsSpelledRoute route_body
unfolding IsSpelledRoute route_body pull_of
route_once (Push x) (Push y) r s a b e = let parts = texts_once x y r s a b (ap (drop 1) e) in (ap Push parts.0, parts.1)
route_once (Pull m x) (Pull n y) r s a b e =
    let parts = pair_once _ _ _ _ texts_once texts_once (m, x) (n, y) r s a b (ap (drop 1) e) in (ap pull_of parts.0, parts.1)
route_once x y r s a b e = absurd (apart (first_byte e) refl)

was_refused : List ℕ → Mark
was_refused code = WasRefused code

pub mark_once : Once IsSpelledMark mark_body
unfolding IsSpelledMark mark_body was_refused
mark_once Pending Pending r s a b e = (refl, ap (drop 1) e)
mark_once WasReceipted WasReceipted r s a b e = (refl, ap (drop 1) e)
mark_once Failed Failed r s a b e = (refl, ap (drop 1) e)
mark_once (WasRefused x) (WasRefused y) r s a b e =
    let parts = words_once ErrorCode x y r s a b (ap (drop 1) e) in (ap was_refused parts.0, parts.1)
mark_once x y r s a b e = absurd (apart (first_byte e) refl)

abbrev pub tick_body : Tick → List ℕ
tick_body t = number_body 8 t.moment

refused_of : ℕ × List ℕ → Effect
refused_of t = Refused t.0 t.1

-- the same for effects, given the same for the bytes after the first
pub effect_once : Once IsSpelledSubmission fields_body → Once (λ t. Unit {0}) tick_body
    → Once IsSpelledDelivery (λ d. header_body d.header ++ list_body payload_body d.payloads) → Once IsSpelledCarried standing_body
    → Once (λ k. IsSpelledHeader k.header) (λ (k : KeptValue). header_body k.header) → Once IsSpelledEffect effect_body
unfolding IsSpelledEffect effect_body refused_of
effect_once sent ticked came carried kept (Submitted x) (Submitted y) r s a b e = let parts = sent x y r s a b (ap (drop 1) e) in (ap Submitted parts.0, parts.1)
effect_once sent ticked came carried kept (Ticked x) (Ticked y) r s a b e = let parts = ticked x y r s a b (ap (drop 1) e) in (ap Ticked parts.0, parts.1)
effect_once sent ticked came carried kept (Tried x) (Tried y) r s a b e = let parts = number_once 8 x y r s a b (ap (drop 1) e) in (ap Tried parts.0, parts.1)
effect_once sent ticked came carried kept (Delivered x) (Delivered y) r s a b e = let parts = came x y r s a b (ap (drop 1) e) in (ap Delivered parts.0, parts.1)
effect_once sent ticked came carried kept (Receipted x) (Receipted y) r s a b e = let parts = number_once 8 x y r s a b (ap (drop 1) e) in (ap Receipted parts.0, parts.1)
effect_once sent ticked came carried kept (Refused x code) (Refused y other) r s a b e =
    let parts = pair_once _ _ _ _ (number_once 8) (words_once ErrorCode) (x, code) (y, other) r s a b (ap (drop 1) e) in (ap refused_of parts.0, parts.1)
effect_once sent ticked came carried kept (Confirmed x) (Confirmed y) r s a b e = let parts = number_once 8 x y r s a b (ap (drop 1) e) in (ap Confirmed parts.0, parts.1)
effect_once sent ticked came carried kept (Carried x) (Carried y) r s a b e = let parts = carried x y r s a b (ap (drop 1) e) in (ap Carried parts.0, parts.1)
effect_once sent ticked came carried kept (Kept x) (Kept y) r s a b e = let parts = kept x y r s a b (ap (drop 1) e) in (ap Kept parts.0, parts.1)
effect_once sent ticked came carried kept x y r s a b e = absurd (apart (first_byte e) refl)

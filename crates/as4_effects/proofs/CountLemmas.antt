-- The parts of an effect fit their counts.
use Rattle.std.proofs.Common.{◌≡◌, ℕ, ◌+◌, ◌<◌, ◌≤◌, ◌^◌, List, [], ◌∷◌, ◌++◌, length, length-append, append_assoc, ap, arith, zero, suc, get_or}
use Rattle.std.specs.Prelude.{IsTrue, codes}
use Rattle.std.specs.List.{flat_map}
use Rattle.std.proofs.lemmas.Bool.Decides.{nat_tests}
use Rattle.std.proofs.lemmas.List.{length-replicate}
use Rattle.byte_forms.specs.Forms.{IsCounted, IsList, Each, Once}
use Rattle.byte_forms.proofs.NumberLemmas.{number_length}
use Rattle.byte_forms.proofs.OnceLemmas.{text_once, once_within}
use Rattle.as4_values.specs.Stamp.{IsStamp, IsForm, fraction_form, zone_forms}
use Rattle.as4_values.specs.Texts.{IsText}
use Rattle.as4_values.specs.Word.{IsWord, limit_of}
use Rattle.as4_values.specs.declared.payload.Payload.{Payload}
use Rattle.as4_values.specs.declared.word.Word.{Word}
use Rattle.as4_values.specs.declared.word.Word.TheVariants.{Identifier, ErrorCode}
use Rattle.as4_effects.specs.Bodies.{number_body, text_body, list_body, header_body, payload_body, route_body}
use Rattle.as4_effects.specs.Effects.{submission_body, delivery_body}
use Rattle.as4_effects.specs.Sound.{fits_an_effect, effect_limit}
use Rattle.as4_effects.specs.declared.delivery.Delivery.{Delivery}
use Rattle.as4_effects.specs.declared.submission.Submission.{Submission}

pub fits_within : (body : List ℕ) → IsTrue (fits_an_effect body) → length body ≤ effect_limit
unfolding fits_an_effect
fits_within body fits = grind (arith, nat_tests)

text_length : (x : List ℕ) → length (text_body x) ≡ 4 + length x
unfolding text_body
text_length x = omega (arith, length-append (number_body 4 (length x)) x, number_length 4 (length x))

payload_length : (p : Payload) → length p.content + 1 ≤ length (payload_body p)
unfolding payload_body
payload_length p =
    omega (arith, length-append (text_body p.cid ++ text_body p.media) (text_body p.content), length-append (text_body p.cid) (text_body p.media), text_length p.cid, text_length p.media, text_length p.content)

items_counted : (ps : List Payload) → length (flat_map payload_body ps) < 2 ^ 32 → Each (λ p. IsCounted p.content) ps × (length ps ≤ length (flat_map payload_body ps))
items_counted [] within = (tt, omega arith)
items_counted (p ∷ ps) within =
    let len = length-append (payload_body p) (flat_map payload_body ps) in
    let content = payload_length p in
    let others = items_counted ps (omega (arith, within, len)) in
    ((omega (arith, within, len, content), others.0), omega (arith, len, content, others.1))

list_counted : (ps : List Payload) → length (list_body payload_body ps) < 2 ^ 32 → IsList (λ p. IsCounted p.content) ps
list_counted ps within =
    let len = length-append (number_body 4 (length ps)) (flat_map payload_body ps) in
    let items = items_counted ps (omega (arith, within, len)) in
    (omega (arith, within, len, items.1), items.0)

-- the fields of a submission, by pairs
pub seven : (a b c d e f g : List ℕ) → a ++ b ++ c ++ d ++ e ++ f ++ g ≡ ((a ++ b) ++ (c ++ d)) ++ (e ++ (f ++ g))
seven a b c d e f g = simp append_assoc

within_seven : (a b c d e f g : List ℕ) → length c ≤ length (1 ∷ a ++ b ++ c ++ d ++ e ++ f ++ g)
within_seven a b c d e f g =
    omega (arith, ap length (seven a b c d e f g), length-append ((a ++ b) ++ (c ++ d)) (e ++ (f ++ g)), length-append (a ++ b) (c ++ d), length-append c d)

pub sent_counted : (s : Submission) → IsList (λ p. IsCounted p.content) s.payloads
sent_counted s =
    let fits = fits_within (submission_body s) s.fits in
    let part = within_seven (number_body 8 s.number) (header_body s.header) (list_body payload_body s.payloads) (route_body s.route) (number_body 4 s.retries) (number_body 8 s.period) (number_body 8 s.moment) in
    list_counted s.payloads (omega (arith, fits, part))

within_two : (a b : List ℕ) → length b ≤ length (4 ∷ a ++ b)
within_two a b = omega (arith, length-append a b)

pub came_counted : (d : Delivery) → IsList (λ p. IsCounted p.content) d.payloads
came_counted d =
    let fits = fits_within (delivery_body d) d.fits in
    let part = within_two (header_body d.header) (list_body payload_body d.payloads) in
    list_counted d.payloads (omega (arith, fits, part))

pub text_counted : (x : List ℕ) → IsText x → IsCounted x
text_counted x is = let h = is.limited in omega arith

word_limit : (word : Word) → limit_of word ≤ 255
word_limit Identifier = omega arith
word_limit ErrorCode = omega arith

pub word_counted : (word : Word) (x : List ℕ) → IsWord word x → IsCounted x
word_counted word x is = let h = is.limited in omega (arith, h, word_limit word)

zone_short : (zone : List ℕ) (k : ℕ) → k < 4 → get_or zone_forms k zone ≡ zone → length zone ≤ 6
zone_short zone zero below e = omega (arith, ap length e)
zone_short zone (suc zero) below e = omega (arith, ap length e)
zone_short zone (suc (suc zero)) below e = omega (arith, ap length e)
zone_short zone (suc (suc (suc zero))) below e = omega (arith, ap length e)
zone_short zone (suc (suc (suc (suc k)))) below e = absurd (omega (arith, below))

fraction_short : (places : ℕ) → places ≤ 9 → length (fraction_form places) ≤ 10
fraction_short zero within = omega arith
fraction_short (suc places) within = omega (arith, within, length-replicate {A = ℕ} places 48)

form_short : (form : List ℕ) → IsForm form → length form ≤ 35
form_short form (places, zone, within, listed, e) =
    omega (arith, ap length e, length-append (codes "0000-00-00T00:00:00" ++ fraction_form places) zone, length-append (codes "0000-00-00T00:00:00") (fraction_form places), fraction_short places within, zone_short zone listed.0 listed.1 listed.2)

pub stamp_counted : (x : List ℕ) → IsStamp x → IsCounted x
stamp_counted x is = let same = is.0.2 in omega (arith, same, form_short is.0.0 is.0.1)

pub texts_once : Once IsText text_body
texts_once = once_within _ IsText text_body text_once text_counted

pub words_once : (word : Word) → Once (IsWord word) text_body
words_once word = once_within _ (IsWord word) text_body text_once (word_counted word)

pub stamps_once : Once IsStamp text_body
stamps_once = once_within _ IsStamp text_body text_once stamp_counted

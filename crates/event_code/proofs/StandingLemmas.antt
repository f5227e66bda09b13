-- A submission with its state, by its parts: no bytes begin with two of these.
use Rattle.std.specs.Prelude.{◌≡◌, ℕ, ◌<◌, ◌^◌, List, ◌++◌, ◌↔◌}
use Rattle.std.proofs.Common.{◌∙◌, append_assoc, ap, sym}
use Rattle.byte_forms.specs.Bytes.{number_body, pair_body}
use Rattle.byte_forms.specs.Forms.{IsPair, Once, Refuses}
use Rattle.byte_forms.proofs.NumberLemmas.{number_once}
use Rattle.byte_forms.proofs.OnceLemmas.{pair_once, once_by}
use Rattle.byte_forms.proofs.RefusalLemmas.{found_both, refused_by, pair_refused, pair_refused_behind}
use Rattle.as4_effects.proofs.PartLemmas.{carried_told}
use Rattle.as4_effects.specs.Effects.{fields_body, standing_body}
use Rattle.as4_effects.specs.Marks.{mark_body}
use Rattle.as4_effects.specs.Parts.{carried_parts}
use Rattle.as4_effects.specs.declared.carried.Carried.{Carried}
use Rattle.as4_effects.specs.declared.effect.Tick.{Tick}
use Rattle.as4_effects.specs.declared.mark.Mark.{Mark}
use Rattle.as4_effects.specs.declared.submission.Submission.{Submission}
use Rattle.event_code.proofs.KindLemmas.{tick_body, mark_once}
use Rattle.event_code.specs.Spelled.{IsSpelledSubmission, IsSpelledMark, IsSpelledCarried}

abbrev pub IsTries : ℕ → Type 0
IsTries n = n < 256 ^ 4

abbrev pub IsLast : Tick × Mark → Type 0
IsLast = IsPair (λ t. Unit {0}) IsSpelledMark

abbrev pub last_body : Tick × Mark → List ℕ
last_body = pair_body tick_body mark_body

abbrev pub IsTerms : ℕ × (Tick × Mark) → Type 0
IsTerms = IsPair IsTries IsLast

abbrev pub terms_body : ℕ × (Tick × Mark) → List ℕ
terms_body = pair_body (number_body 4) last_body

abbrev pub IsStanding : Submission × (ℕ × (Tick × Mark)) → Type 0
IsStanding = IsPair IsSpelledSubmission IsTerms

abbrev pub standing_parts_body : Submission × (ℕ × (Tick × Mark)) → List ℕ
standing_parts_body = pair_body fields_body terms_body

pub standing_kept : (c : Carried) → IsSpelledCarried c ↔ IsStanding (carried_parts c)
unfolding IsSpelledCarried
standing_kept c = (λ is. (is.0, (is.1, (tt, is.2))), λ h. (h.0, h.1.0, h.1.1.1))

pub standing_same : (c : Carried) → standing_body c ≡ standing_parts_body (carried_parts c)
standing_same c =
    let fields = fields_body c.submission in
    let tries = number_body 4 c.tries in
    let last = number_body 8 c.last in
    append_assoc (fields ++ tries) last (mark_body c.standing) ∙ append_assoc fields tries (last ++ mark_body c.standing)

pub carried_once : Once IsSpelledSubmission fields_body → Once (λ t. Unit {0}) tick_body → Once IsSpelledCarried standing_body
carried_once sent ticked =
    once_by IsStanding standing_parts_body IsSpelledCarried standing_body carried_parts
    (pair_once IsSpelledSubmission fields_body IsTerms terms_body sent
    (pair_once IsTries (number_body 4) IsLast last_body (number_once 4) (pair_once (λ t. Unit {0}) tick_body IsSpelledMark mark_body ticked mark_once)))
    carried_told standing_kept standing_same

pub carried_found : (bytes rest last : List ℕ) (c : Carried) → IsSpelledSubmission c.submission → bytes ≡ fields_body c.submission ++ rest
    → IsTerms (carried_parts c).1 → rest ≡ terms_body (carried_parts c).1 ++ last → IsSpelledCarried c × (bytes ≡ standing_body c ++ last)
carried_found bytes rest last c sent e terms f = (
  (standing_kept c).1 (sent, terms),
  found_both bytes (fields_body c.submission) (terms_body (carried_parts c).1) rest last e f ∙ ap (λ l. l ++ last) (sym (standing_same c)),
)

-- bytes that don't begin with a submission, or whose rest is wrong

pub carried_refused : (bytes : List ℕ) → Refuses IsSpelledSubmission fields_body bytes → Refuses IsSpelledCarried standing_body bytes
carried_refused bytes refused =
    refused_by IsStanding standing_parts_body IsSpelledCarried standing_body carried_parts bytes (λ c. (standing_kept c).0) standing_same
    (pair_refused IsSpelledSubmission fields_body IsTerms terms_body bytes refused)

pub carried_refused_behind : (bytes rest : List ℕ) (s : Submission) → Once IsSpelledSubmission fields_body → IsSpelledSubmission s → bytes ≡ fields_body s ++ rest
    → Refuses IsTerms terms_body rest → Refuses IsSpelledCarried standing_body bytes
carried_refused_behind bytes rest s once is e refused =
    refused_by IsStanding standing_parts_body IsSpelledCarried standing_body carried_parts bytes (λ c. (standing_kept c).0) standing_same
    (pair_refused_behind IsSpelledSubmission fields_body IsTerms terms_body bytes rest s once is e refused)

-- A message file is cut where it was joined: no media text that is written has a line end.
use Rattle.std.proofs.Common.{◌≡◌, ℕ, Bool, true, nat_eq, List, [], ◌∷◌, ◌++◌, Some, length, drop, get_or, arith, refl, ap, sym, subst, ◌∙◌, append_assoc, inl, inr}
use Rattle.std.specs.Prelude.{◌==◌, not, codes, option_map}
use Rattle.byte_forms.specs.Cuts.{strip_prefix}
use Rattle.std.specs.List.{list_all, starts_with}
use Rattle.std.proofs.lemmas.Bool.{cases_Bool, and_parts}
use Rattle.std.proofs.lemmas.Bool.Decides.{Decides-eqb}
use Rattle.std.proofs.lemmas.List.{drop_at}
use Rattle.std.proofs.lemmas.List.Folds.{list_all-append}
use Rattle.std.proofs.lemmas.Slice.Eq.{starts_is}
use Rattle.as4_values.specs.declared.message.Message.{Message}
use Rattle.as4_values.specs.declared.message.Message.TheVariants as message
use Rattle.byte_forms.proofs.CutLemmas.{cases_option, bind_some, strip_prefix_again, strip_prefix_takes}
use Rattle.message_laws.specs.Files.{is_no_cr, HasNoCr}
use Rattle.message_model.specs.Package.{crlf, envelope_media, package_media}
use Rattle.message_model.specs.Wire.{media_of, message_file, IsWire, IsFile, cut_at, file_at, media_and_body}
use Rattle.package_laws.proofs.DigitLemmas.{digits_pass}

cr_is_none : (b : ℕ) → is_no_cr b ≡ true → b ≡ 13 → ⊥
cr_is_none b none is = grind (arith)

-- a needle that begins with CR is found after bytes without CR
cut_behind : (tail part after : List ℕ) → HasNoCr part → cut_at (13 ∷ tail) (part ++ 13 ∷ (tail ++ after)) ≡ Some (part, after)
unfolding cut_at
cut_behind tail [] after none =
    let hay : List ℕ = 13 ∷ (tail ++ after) in
    let begins : starts_with nat_eq hay (13 ∷ tail) ≡ true = (starts_is Decides-eqb hay (13 ∷ tail) (starts_with nat_eq hay (13 ∷ tail)) refl).1 after refl in
    rw (begins, drop_at (13 ∷ tail) after (length (13 ∷ tail)) refl) refl
cut_behind tail (x ∷ part) after none =
    let hay : List ℕ = x ∷ (part ++ 13 ∷ (tail ++ after)) in
    let parts = and_parts (is_no_cr x) (list_all is_no_cr part) none in
    elim (cases_Bool (starts_with nat_eq hay (13 ∷ tail))) [
      | inl starts ↦
          let front = (starts_is Decides-eqb hay (13 ∷ tail) (starts_with nat_eq hay (13 ∷ tail)) refl).0 starts in
          absurd (cr_is_none x parts.0 (ap (λ (xs : List ℕ). get_or xs 0 0) front))
      | inr other ↦ rw (other, cut_behind tail part after parts.1) refl
    ]

-- the media texts that are written have no CR
package_has_none : (n : ℕ) → HasNoCr (package_media n)
unfolding package_media
package_has_none n = simp list_all-append (rw (digits_pass is_no_cr refl 16 n) refl)

envelope_has_none : HasNoCr envelope_media
unfolding envelope_media
envelope_has_none = refl

media_has_none : (n : ℕ) (m : Message) → HasNoCr (media_of n m)
media_has_none n (message.User header payloads) = package_has_none n
media_has_none n (message.Signal s) = envelope_has_none
media_has_none n (message.Pair p) = envelope_has_none

regrouped : (field media body : List ℕ) → field ++ media ++ crlf ++ crlf ++ body ≡ field ++ (media ++ 13 ∷ ((10 ∷ 13 ∷ 10 ∷ []) ++ body))
regrouped field media body =
    ap (λ (xs : List ℕ). xs ++ body) (append_assoc (field ++ media) crlf crlf)
    ∙ append_assoc (field ++ media) (crlf ++ crlf) body
    ∙ append_assoc field media ((crlf ++ crlf) ++ body)

pub file_again : (media body : List ℕ) → HasNoCr media → media_and_body (message_file media body) ≡ (media, body)
unfolding file_at
file_again media body none =
    rw (
      regrouped (codes "Content-Type: ") media body,
      strip_prefix_again (codes "Content-Type: ") (media ++ 13 ∷ ((10 ∷ 13 ∷ 10 ∷ []) ++ body)),
      cut_behind (10 ∷ 13 ∷ 10 ∷ []) media body none,
    )
    refl

pub file_is_cut : (m : Message) (file : List ℕ) → IsFile m file → IsWire m (media_and_body file).0 (media_and_body file).1
file_is_cut m file is =
    let none : HasNoCr is.media = subst HasNoCr (sym is.wire.media_is) (media_has_none is.wire.number m) in
    let parts : media_and_body file ≡ (is.media, is.body) = ap media_and_body is.file_is ∙ file_again is.media is.body none in
    rw parts is.wire

-- the cut parts and the needle make up the bytes
cut_takes : (needle bytes : List ℕ) (x : List ℕ × List ℕ) → cut_at needle bytes ≡ Some x → bytes ≡ x.0 ++ needle ++ x.1
unfolding cut_at
cut_takes needle [] x e = absurd cc
cut_takes needle (b ∷ bytes) x e =
    elim (cases_Bool (starts_with nat_eq (b ∷ bytes) needle)) [
      | inl starts ↦
          let rest = drop (length needle) (b ∷ bytes) in
          let front : b ∷ bytes ≡ needle ++ rest = (starts_is Decides-eqb (b ∷ bytes) needle (starts_with nat_eq (b ∷ bytes) needle) refl).0 starts in
          let found : Some ([], rest) ≡ Some x = rw starts at e in
          subst (λ (y : List ℕ × List ℕ). b ∷ bytes ≡ y.0 ++ needle ++ y.1) (some_same found) front
      | inr other ↦
          let tail : option_map (λ (cut : List ℕ × List ℕ). (b ∷ cut.0, cut.1)) (cut_at needle bytes) ≡ Some x = rw other at e in
          elim (cases_option (cut_at needle bytes)) [
            | inl none ↦ let nothing = rw none at tail in absurd cc
            | inr some ↦
                let found : Some (b ∷ some.0.0, some.0.1) ≡ Some x = rw some.1 at tail in
                subst (λ (y : List ℕ × List ℕ). b ∷ bytes ≡ y.0 ++ needle ++ y.1) (some_same found) (ap (λ (l : List ℕ). b ∷ l) (cut_takes needle bytes some.0 some.1))
          ]
    ]
  where
    some_same : {x y : List ℕ × List ℕ} → Some x ≡ Some y → x ≡ y
    some_same e = cc

pub file_is_joined : (file media body : List ℕ) → file_at file ≡ Some (media, body) → file ≡ message_file media body
unfolding file_at
file_is_joined file media body e =
    bind_some (strip_prefix (codes "Content-Type: ") file) (cut_at (crlf ++ crlf)) (media, body) e λ rest field cut.
    let front = strip_prefix_takes (codes "Content-Type: ") file rest field in
    let parts = cut_takes (crlf ++ crlf) rest (media, body) cut in
    front ∙ (ap (λ (l : List ℕ). codes "Content-Type: " ++ l) (parts ∙ append_assoc media (crlf ++ crlf) body) ∙ sym (regrouped (codes "Content-Type: ") media body))

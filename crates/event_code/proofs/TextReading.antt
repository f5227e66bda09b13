-- Texts in bodies: a text is read from exactly its bytes.
use Rattle.std.proofs.Common.{◌≡◌, ℕ, ◌++◌, List, [], append-nil, refl, sym, ◌∙◌, arith, Bool, false, eqb}
use Rattle.as4_effects.specs.Bodies.{text_body}
use Rattle.as4_values.specs.Texts.{IsText, Spells}
use Rattle.as4_values.proofs.TextLemmas.{one_text_of}
use Rattle.as4_values.specs.declared.text.TextRefusal.{TextRefusal}
use Rattle.as4_values.specs.declared.text.TextRefusal.TheVariants.{BadText, NoMemory}
use Rattle.std.proofs.lemmas.Slice.Eq.{slice_eq-Decides}
use Rattle.std.proofs.lemmas.Bool.{false≢true}
use Rattle.std.proofs.lemmas.Bool.Decides.{Decides-eqb}
use Rattle.std.specs.Cmp.Lexicographic.{pointwise}

pub read_as : (is : List ℕ → Type 0) (value octets bytes rest : List ℕ) → value ≡ octets → is octets → bytes ≡ text_body octets ++ rest
    → is value × (bytes ≡ text_body value ++ rest)
read_as is value octets bytes rest same held e = rw same (held, e)

-- a text is read unchanged
pub text_spells : (bytes : List ℕ) → IsText bytes → Spells bytes bytes
text_spells bytes text =
    (text, (0, ([], [], λ k d above below. absurd (omega arith), λ k d above below. absurd (omega arith), text.trimmed, sym (append-nil bytes), refl)))

pub text_reads : (octets text : List ℕ) → Spells octets text → IsText octets → text ≡ octets
text_reads octets text spells is = one_text_of octets text octets spells (text_spells octets is)

pub bad_not_memory : (at : ℕ) (e : TextRefusal) → e ≡ BadText at → e ≡ NoMemory → ⊥
bad_not_memory at e a b = cc

pub bytes_differ : (a b : List ℕ) (r : Bool) → r ≡ pointwise eqb a b → r ≡ false → a ≡ b → ⊥
bytes_differ a b r e other same = false≢true (sym other ∙ (slice_eq-Decides Decides-eqb a b r e).1 same)

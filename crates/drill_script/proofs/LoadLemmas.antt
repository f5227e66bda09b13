-- Lemmas on the word of a load.
use Rattle.std.proofs.Common.{◌≡◌, ℕ, List, get_or, IsTrue, codes, refl, sym, ◌∙◌, ap, arith}
use Rattle.std.specs.Fmt.{decimal}
use Rattle.std.proofs.lemmas.Bool.{leb-true, le-leb}
use Rattle.byte_forms.specs.Parted.{Lacks, parted}
use Rattle.drill_script.specs.LineText.{load_text, is_load, hex_text}
use Rattle.drill_script.specs.LineParts.{IsKeyed}
use Rattle.drill_script.specs.declared.line.ScriptLoad.{ScriptLoad}
use Rattle.drill_script.specs.declared.line.ScriptLoad.TheVariants.{Nothing, Hex, Size}
use Rattle.byte_forms.proofs.PartedLemmas.{Lacks_tested, Lacks_unparted, one_cut}

pub none_text : load_text Nothing ≡ codes "none"
unfolding load_text
none_text = refl

pub hex_load_text : (bytes : List ℕ) → load_text (Hex bytes) ≡ parted 61 (codes "hex") (hex_text bytes)
unfolding load_text
hex_load_text bytes = refl

pub size_load_text : (size : ℕ) → load_text (Size size) ≡ parted 61 (codes "size") (decimal size)
unfolding load_text
size_load_text size = refl

-- a load with this key and value has this text
pub keyed_text : (word key value : List ℕ) (load : ScriptLoad) → word ≡ parted 61 key value → IsKeyed key value load → (word ≡ load_text load) × IsTrue (is_load load)
keyed_text word key value Nothing parts keyed = absurd keyed
keyed_text word key value (Hex bytes) parts keyed = (cc (parts, keyed.0, keyed.1, hex_load_text bytes), keyed.2)
keyed_text word key value (Size size) parts keyed = (cc (parts, keyed.0, keyed.1, size_load_text size), le-leb size 16777216 keyed.2)

-- conversely, a load with this text has this key and value
pub text_keyed : (word key value : List ℕ) (load : ScriptLoad) → word ≡ parted 61 key value → Lacks 61 key → (word ≡ codes "none" → ⊥) → word ≡ load_text load → IsTrue (is_load load) → IsKeyed key value load
text_keyed word key value Nothing parts lacks other is small = other (is ∙ none_text)
text_keyed word key value (Hex bytes) parts lacks other is small =
    let same = one_cut 61 key value (codes "hex") (hex_text bytes) (sym parts ∙ is ∙ hex_load_text bytes) lacks (Lacks_tested 61 _ refl) in
    (same.0, same.1, small)
text_keyed word key value (Size size) parts lacks other is small =
    let same = one_cut 61 key value (codes "size") (decimal size) (sym parts ∙ is ∙ size_load_text size) lacks (Lacks_tested 61 _ refl) in
    (same.0, same.1, leb-true size 16777216 small)

-- a word without a `=` is neither
pub uncut_load : (word : List ℕ) (load : ScriptLoad) → Lacks 61 word → (word ≡ codes "none" → ⊥) → word ≡ load_text load → ⊥
uncut_load word Nothing lacks other is = other (is ∙ none_text)
uncut_load word (Hex bytes) lacks other is = Lacks_unparted 61 word (codes "hex") (hex_text bytes) lacks (is ∙ hex_load_text bytes)
uncut_load word (Size size) lacks other is = Lacks_unparted 61 word (codes "size") (decimal size) lacks (is ∙ size_load_text size)

-- only the empty load has this text
pub none_only : (word : List ℕ) (load : ScriptLoad) → word ≡ codes "none" → word ≡ load_text load → Nothing ≡ load
none_only word Nothing none is = refl
none_only word (Hex bytes) none is = let clash : codes "none" ≡ parted 61 (codes "hex") (hex_text bytes) = sym none ∙ is ∙ hex_load_text bytes in absurd (omega (arith, ap (λ (l : List ℕ). get_or l 0 0) clash))
none_only word (Size size) none is = let clash : codes "none" ≡ parted 61 (codes "size") (decimal size) = sym none ∙ is ∙ size_load_text size in absurd (omega (arith, ap (λ (l : List ℕ). get_or l 0 0) clash))

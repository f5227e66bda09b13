-- The unfolded lines of a field are a media text, unless they are too long.
use Rattle.std.proofs.Common.{◌≡◌, ℕ, ◌-◌, ◌<◌, ◌≤◌, Bool, true, false, not, List, [], ◌∷◌, ◌++◌, length, get_or, Some, refl, sym, ap, subst, ◌∙◌, arith, inl, inr, length-append, ltb, leb, ◌==◌}
use Rattle.std.specs.Prelude.{IsTrue, ◌&&◌, ◌||◌, reverse}
use Rattle.std.specs.List.{list_all, filter, take_while}
use Rattle.std.proofs.lemmas.Bool.{cases_Bool, ltb-true, le-leb, leb-true}
use Rattle.std.proofs.lemmas.Option.{cond_some}
use Rattle.std.proofs.lemmas.List.{reverse-append, reverse-reverse, length-reverse, get_or-reverse, get_or_append_left}
use Rattle.as4_values.specs.Payload.{is_media_text}
use Rattle.byte_forms.specs.Classes.{is_blank, is_space}
use Rattle.byte_forms.specs.Cuts.{skip}
use Rattle.byte_forms.proofs.CutLemmas.{Stops, run_whole, run_stops}
use Rattle.mime_fields.specs.Fields.{is_line_byte, trimmed, unfolded, media_of}
use Rattle.mime_fields.specs.Loops.{end_trimmed}
use Rattle.mime_fields.proofs.TrimLemmas.{unfolded_is}

-- ---- on one line

abbrev no_end : ℕ → Bool
no_end b = not ((b == 10) || (b == 13))

other_way : (cr lf : Bool) → (not cr && not lf) ≡ true → not (lf || cr) ≡ true
other_way false false e = refl
other_way true lf e = absurd cc
other_way false true e = absurd cc

one_line : (bytes : List ℕ) → list_all no_end (filter is_line_byte bytes) ≡ true
one_line [] = refl
one_line (b ∷ bytes) = elim (cases_Bool (is_line_byte b)) [
  | inl is ↦ rw (is, other_way (b == 13) (b == 10) is) (one_line bytes)
  | inr other ↦ rw other (one_line bytes)
]

-- ---- without spaces at the ends

first_out : (class : ℕ → Bool) (bytes : List ℕ) → Stops class bytes → 0 < length bytes → class (get_or bytes 0 0) ≡ false
first_out class [] stops some = absurd (omega arith)
first_out class (b ∷ bytes) stops some = stops

-- bytes trimmed at the end are a prefix
front_of : (bytes : List ℕ) → bytes ≡ reverse (skip is_space (reverse bytes)) ++ reverse (take_while is_space (reverse bytes))
front_of bytes =
    sym (reverse-reverse bytes) ∙ ap reverse (run_whole is_space (reverse bytes)) ∙ reverse-append (take_while is_space (reverse bytes)) (skip is_space (reverse bytes))

first_is : (bytes : List ℕ) → Stops is_space bytes → 0 < length (reverse (skip is_space (reverse bytes))) → is_space (get_or (reverse (skip is_space (reverse bytes))) 0 0) ≡ false
first_is bytes stops some =
    let front : List ℕ = reverse (skip is_space (reverse bytes)) in
    let back : List ℕ = reverse (take_while is_space (reverse bytes)) in
    let whole : bytes ≡ front ++ back = front_of bytes in
    let at : get_or bytes 0 0 ≡ get_or front 0 0 = ap (λ (l : List ℕ). get_or l 0 0) whole ∙ get_or_append_left front back 0 0 some in
    rw at at (first_out is_space bytes stops (omega (arith, ap length whole, length-append front back)))

last_is : (back : List ℕ) → Stops is_space back → 0 < length (reverse back) → is_space (get_or (reverse back) (length (reverse back) - 1) 0) ≡ false
last_is back stops some =
    let len = length-reverse back in
    let at : get_or (reverse back) (length (reverse back) - 1) 0 ≡ get_or back (length back - 1 - (length (reverse back) - 1)) 0 = get_or-reverse back (length (reverse back) - 1) 0 (omega arith) in
    let here : length back - 1 - (length (reverse back) - 1) ≡ 0 = omega arith in
    rw (at, here) (first_out is_space back stops (omega arith))

-- ---- both

media_by : (text : List ℕ) → length text ≤ 1024 → list_all no_end text ≡ true → (0 < length text → is_space (get_or text 0 0) ≡ false) → (0 < length text → is_space (get_or text (length text - 1) 0) ≡ false) → IsTrue (is_media_text text)
unfolding is_media_text
media_by text short line first last = elim (cases_Bool (ltb 0 (length text))) [
  | inl some ↦ let more = ltb-true 0 (length text) some in rw (le-leb (length text) 1024 short, line, first more, last more, some) refl
  | inr none ↦ rw (le-leb (length text) 1024 short, line, none) refl
]

unfolded_media : (lines : List ℕ) → length (unfolded lines) ≤ 1024 → IsTrue (is_media_text (unfolded lines))
unfolding unfolded trimmed
unfolded_media lines short =
    let bytes : List ℕ = skip is_space (filter is_line_byte lines) in
    media_by (unfolded lines) short (ap (list_all no_end) (unfolded_is lines) ∙ one_line (end_trimmed (skip is_blank lines))) (first_is bytes (run_stops is_space (filter is_line_byte lines))) (last_is (skip is_space (reverse bytes)) (run_stops is_space (reverse bytes)))

short_media : (text media : List ℕ) → Some media ≡ media_of (Some text) → (length text ≤ 1024) × (media ≡ text)
short_media text media is =
    let cut = cond_some (leb (length text) 1024) text media (sym is) in
    (leb-true (length text) 1024 cut.0, sym cut.1)

pub is_media : (lines media : List ℕ) → Some media ≡ media_of (Some (unfolded lines)) → IsTrue (is_media_text media)
is_media lines media is =
    let short = short_media (unfolded lines) media is in
    subst (λ (m : List ℕ). IsTrue (is_media_text m)) (sym short.1) (unfolded_media lines short.0)

pub no_media : (media : List ℕ) → media ≡ [] → IsTrue (is_media_text media)
unfolding is_media_text
no_media media none = rw none refl

-- A line that begins before a CRLF also ends before it, since only its first byte is a CR.
use Rattle.std.proofs.Common.{◌≡◌, ℕ, ◌<◌, ◌≤◌, List, [], ◌∷◌, ◌++◌, ◌⊎◌, Option, Some, None, length, drop, refl, sym, ap, subst, ◌∙◌, arith, append_assoc, length-append, inl, inr}
use Rattle.std.specs.Prelude.{unwrap_or}
use Rattle.byte_forms.proofs.OnceLemmas.{first_byte, apart}
use Rattle.mime_fields.specs.Fields.{crlf}
use Rattle.mime_package.specs.Reading.{up_to}
use Rattle.mime_package.specs.Pieces.{Holds, GoesOn}
use Rattle.byte_forms.proofs.CutLemmas.{cases_option}
use Rattle.mime_package.proofs.LineLemmas.{NoCr, IsLine, LineEnds}
use Rattle.mime_package.proofs.UpToLemmas.{behind_front, up_to_here, up_to_behind}

-- bytes before a CRLF are empty or begin with a CRLF, if the whole does
pub front_begins : (front more left : List ℕ) → front ++ (crlf ++ more) ≡ crlf ++ left → (front ≡ []) ⊎ GoesOn front
front_begins [] more left e = inl refl
front_begins (c ∷ []) more left e = absurd (apart (first_byte (ap (drop 1) e)) refl)
front_begins (c ∷ d ∷ front) more left e =
    let cr : c ≡ 13 = first_byte e in
    let lf : d ≡ 10 = first_byte (ap (drop 1) e) in
    inr (front, cc)

-- a line end followed by a CRLF begins with a CRLF
pub end_with_crlf : (rest : List ℕ) → LineEnds rest → (back : List ℕ) × (rest ++ crlf ≡ crlf ++ back)
end_with_crlf rest (inl none) = ([], ap (λ (l : List ℕ). l ++ crlf) none)
end_with_crlf rest (inr goes) = (goes.0 ++ crlf, ap (λ (l : List ℕ). l ++ crlf) goes.1)

-- so do the bytes before it, once a CRLF is appended to them
both_ends : (b more left : List ℕ) → b ++ (crlf ++ more) ≡ crlf ++ left → (back : List ℕ) × (b ++ crlf ≡ crlf ++ back)
both_ends b more left e = end_with_crlf b (front_begins b more left e)

-- bytes that contain a CRLF aren't empty
no_end : (b more : List ℕ) → b ++ (crlf ++ more) ≡ [] → ⊥
no_end b more e = omega (arith, ap length e, length-append b (crlf ++ more))

-- a line after its CRLF
tail_within : (tail b more rest : List ℕ) → NoCr tail → b ++ (crlf ++ more) ≡ tail ++ rest → LineEnds rest → (back : List ℕ) × (b ++ crlf ≡ tail ++ (crlf ++ back))
tail_within [] b more rest none e (inl end) = absurd (no_end b more (e ∙ end))
tail_within [] b more rest none e (inr goes) = both_ends b more goes.0 (e ∙ goes.1)
tail_within (t ∷ tail) [] more rest none e ends = absurd (none.0 (sym (first_byte e)))
tail_within (t ∷ tail) (c ∷ b) more rest none e ends =
    let further = tail_within tail b more rest none.1 (ap (drop 1) e) ends in
    let same : c ≡ t = first_byte e in
    (further.0, ap (λ (l : List ℕ). c ∷ l) further.1 ∙ ap (λ x. x ∷ (tail ++ (crlf ++ further.0))) same)

-- a whole line
line_within : (line b more rest : List ℕ) → IsLine line → 0 < length b → b ++ (crlf ++ more) ≡ line ++ rest → LineEnds rest → (back : List ℕ) × (b ++ crlf ≡ line ++ (crlf ++ back))
line_within line [] more rest is some e ends = absurd (omega arith)
line_within line (c ∷ []) more rest is some e ends = absurd (apart (first_byte (ap (drop 1) (e ∙ ap (λ (l : List ℕ). l ++ rest) is.is))) refl)
line_within line (c ∷ d ∷ b) more rest is some e ends =
    let whole : c ∷ d ∷ (b ++ (crlf ++ more)) ≡ 13 ∷ 10 ∷ (is.tail ++ rest) = e ∙ ap (λ (l : List ℕ). l ++ rest) is.is in
    let further = tail_within is.tail b more rest is.no_cr (ap (drop 2) whole) ends in
    let cr : c ≡ 13 = first_byte whole in
    let lf : d ≡ 10 = first_byte (ap (drop 1) whole) in
    let same : c ∷ d ∷ (b ++ crlf) ≡ 13 ∷ 10 ∷ (is.tail ++ (crlf ++ further.0)) = cc (further.1) in
    (further.0, same ∙ ap (λ (l : List ℕ). l ++ (crlf ++ further.0)) (sym is.is))

-- ---- lines that are found

-- each such line is found, and what is found is such a line
pub record Finds {X : Type 0} (is : List ℕ → Type 0) (found : List ℕ → Option X) : Type 0 where
  pub lines : (line : List ℕ) → is line → IsLine line
  pub taken : (bytes : List ℕ) (x : X) → found bytes ≡ Some x → (line : List ℕ) × (rest : List ℕ) × is line × LineEnds rest × (bytes ≡ line ++ rest)
  pub again : (line rest : List ℕ) → is line → GoesOn rest → found (line ++ rest) ≡ None → ⊥

-- nothing is found within the prefix
pub record NoneIn {X : Type 0} (found : List ℕ → Option X) (front rest : List ℕ) : Type 0 where
  pub none : (a b : List ℕ) → front ≡ a ++ b → 0 < length b → found (b ++ rest) ≡ None

-- splits the prefix, if the second part is at least as long as what was appended
pub split_front : (front end a z : List ℕ) → front ++ end ≡ a ++ z → length end ≤ length z → (b : List ℕ) × (front ≡ a ++ b) × (b ++ end ≡ z)
split_front front end [] z e long = (front, refl, e)
split_front [] end (x ∷ a) z e long = absurd (omega (arith, ap length e, length-append a z))
split_front (y ∷ front) end (x ∷ a) z e long =
    let further = split_front front end a z (ap (drop 1) e) long in
    let same : y ≡ x = first_byte e in
    (further.0, ap (λ (l : List ℕ). y ∷ l) further.1 ∙ ap (λ c. c ∷ (a ++ further.0)) same, further.2)

-- if nothing is found, there is no such line
pub free_from_none : {X : Type 0} (is : List ℕ → Type 0) (found : List ℕ → Option X) → Finds is found → (front more : List ℕ) → NoneIn found front (crlf ++ more) → Holds is (front ++ crlf) → ⊥
free_from_none is found finds front more none holds =
    let line = finds.lines holds.line holds.is_line in
    let long : 2 < length (holds.line ++ (crlf ++ holds.back)) = omega (arith, length-append holds.line (crlf ++ holds.back), ap length line.is) in
    let split = split_front front crlf holds.front (holds.line ++ (crlf ++ holds.back)) holds.bytes_are (omega (arith, long)) in
    let some : 0 < length split.0 = omega (arith, long, ap length split.2, length-append split.0 crlf) in
    let here : split.0 ++ (crlf ++ more) ≡ holds.line ++ (crlf ++ (holds.back ++ more)) =
    sym (append_assoc split.0 crlf more) ∙ ap (λ (l : List ℕ). l ++ more) split.2 ∙ append_assoc holds.line (crlf ++ holds.back) more in
    finds.again holds.line (crlf ++ (holds.back ++ more)) holds.is_line (holds.back ++ more, refl) (sym (ap found here) ∙ none.none holds.front split.0 split.1 some)

-- if there is no such line, nothing is found
pub none_from_free : {X : Type 0} (is : List ℕ → Type 0) (found : List ℕ → Option X) → Finds is found → (front more : List ℕ) → (Holds is (front ++ crlf) → ⊥) → NoneIn found front (crlf ++ more)
none_from_free is found finds front more free = record {
  none = λ a b e some. elim (cases_option (found (b ++ (crlf ++ more)))) [
    | inl none ↦ none
    | inr hit ↦
        let taken = finds.taken (b ++ (crlf ++ more)) hit.0 hit.1 in
        let within = line_within taken.0 b more taken.1 (finds.lines taken.0 taken.2) some taken.4 taken.3 in
        absurd (free (record {
          front = a;
          line = taken.0;
          back = within.0;
          is_line = taken.2;
          bytes_are = ap (λ (l : List ℕ). l ++ crlf) e ∙ append_assoc a b crlf ∙ ap (λ (l : List ℕ). a ++ l) within.1;
        }))
  ];
}

-- ---- the first of them

-- a cut at the first place
abbrev pub Taken : {X : Type 0} → (List ℕ → Option X) → List ℕ → List ℕ × X → Type 0
Taken found bytes cut = (rest : List ℕ) × (bytes ≡ cut.0 ++ rest) × (found rest ≡ Some cut.1) × NoneIn found cut.0 rest

-- two such cuts are the same
one_cut : {X : Type 0} (found : List ℕ → Option X) (bytes : List ℕ) (cut other : List ℕ × X) → Taken found bytes cut → Some cut ≡ Some other → Taken found bytes other
one_cut {X} found bytes cut other taken e =
    let same : cut ≡ other = ap (λ o. unwrap_or o cut) e in
    subst (λ (c : List ℕ × X). Taken found bytes c) same taken

-- also with one more byte at the start
none_in_longer : {X : Type 0} (found : List ℕ → Option X) (b : ℕ) (front rest : List ℕ) → found (b ∷ (front ++ rest)) ≡ None → NoneIn found front rest → NoneIn found (b ∷ front) rest
none_in_longer found b front rest none further = record { none = by_split }
  where
    by_split : (a c : List ℕ) → b ∷ front ≡ a ++ c → 0 < length c → found (c ++ rest) ≡ None
    by_split [] c e some = ap (λ (l : List ℕ). found (l ++ rest)) (sym e) ∙ none
    by_split (y ∷ a) c e some = further.none a c (ap (drop 1) e) some

-- at the first byte
taken_here : {X : Type 0} (found : List ℕ → Option X) (bytes : List ℕ) (x : X) → found bytes ≡ Some x → Taken found bytes ([], x)
taken_here found bytes x is = (bytes, refl, is, record { none = λ a b e some. absurd (omega (arith, ap length e, length-append a b)) })

-- what is found first
pub up_to_taken : {X : Type 0} (found : List ℕ → Option X) (bytes : List ℕ) (cut : List ℕ × X) → up_to found bytes ≡ Some cut → Taken found bytes cut
unfolding up_to
up_to_taken found [] cut e = elim (cases_option (found [])) [
  | inl none ↦ let no : up_to found [] ≡ None = rw none refl in absurd cc
  | inr some ↦ one_cut found [] ([], some.0) cut (taken_here found [] some.0 some.1) (sym (up_to_here found [] some.0 some.1) ∙ e)
]
up_to_taken found (b ∷ bytes) cut e = elim (cases_option (found (b ∷ bytes))) [
  | inr some ↦ one_cut found (b ∷ bytes) ([], some.0) cut (taken_here found (b ∷ bytes) some.0 some.1) (sym (up_to_here found (b ∷ bytes) some.0 some.1) ∙ e)
  | inl none ↦ elim (cases_option (up_to found bytes)) [
    | inl nowhere ↦ let no = up_to_behind found b bytes none ∙ ap (behind_front (b ∷ [])) nowhere in absurd cc
    | inr some ↦
        let further = up_to_taken found bytes some.0 some.1 in
        let whole : b ∷ bytes ≡ b ∷ (some.0.0 ++ further.0) = ap (λ (l : List ℕ). b ∷ l) further.1 in
        let taken : Taken found (b ∷ bytes) (b ∷ some.0.0, some.0.1) = (further.0, whole, further.2, none_in_longer found b some.0.0 further.0 (sym (ap found whole) ∙ none) further.3) in
        one_cut found (b ∷ bytes) (b ∷ some.0.0, some.0.1) cut taken (sym (up_to_behind found b bytes none ∙ ap (behind_front (b ∷ [])) some.1) ∙ e)
  ]
]

-- the first one is found
pub up_to_again : {X : Type 0} (found : List ℕ → Option X) (front rest : List ℕ) (x : X) → found rest ≡ Some x → NoneIn found front rest → up_to found (front ++ rest) ≡ Some (front, x)
up_to_again found [] rest x is none = up_to_here found rest x is
up_to_again found (b ∷ front) rest x is none =
    let further = up_to_again found front rest x is (record { none = λ a c e some. none.none (b ∷ a) c (ap (λ (l : List ℕ). b ∷ l) e) some }) in
    up_to_behind found b (front ++ rest) (none.none [] (b ∷ front) refl (omega arith)) ∙ ap (behind_front (b ∷ [])) further

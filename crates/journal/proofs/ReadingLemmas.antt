-- What was read at a gate, as what stands there.
use Rattle.std.proofs.Common.{◌≡◌, ◌^◌, ◌⊎◌, inl, inr, ⊎_elim, ℕ, suc, ◌+◌, ◌-◌, ◌<◌, ◌≤◌, List, [], ◌∷◌, ◌++◌, length, take, drop, get_or, min, refl, sym, ◌∙◌, ap, arith, append_assoc, length-append, length-take, length-drop, take-append-drop}
use Rattle.std.proofs.lemmas.List.{drop_at, drop-drop, drop-take, take_all}
use Rattle.std.proofs.lemmas.Bool.{cases_lt}
use Rattle.journal.specs.declared.version.Version.{Version}
use Rattle.journal.specs.declared.version.Version.TheVariants.{One, Two}
use Rattle.journal.specs.Leaf.{width_of, limit_of, length_bytes}
use Rattle.journal.specs.Reading.{IsLength, IsHead, IsBodyAt, HasNoBody}
use Rattle.journal.proofs.LeafLemmas.{length-length_bytes, length_head, limit_fits}

-- the bytes begin with this length
abbrev pub HasLength : Version → ℕ → List ℕ → Type 0
HasLength version len bytes = (len < 256 ^ width_of version) × (rest : List ℕ) × (bytes ≡ length_bytes version len ++ rest)

pub has_length : (version : Version) (len at : ℕ) (leaf bytes : List ℕ) → bytes ≡ take (width_of version) (drop at leaf) → IsLength version len bytes → HasLength version len (drop at leaf)
has_length version len at leaf bytes is length_is =
    (length_is.fits, drop (width_of version) (drop at leaf), sym (take-append-drop (width_of version) (drop at leaf)) ∙ ap (λ (l : List ℕ). l ++ drop (width_of version) (drop at leaf)) (sym is ∙ length_is.bytes_are))

-- no room for a length
pub no_length : (version : Version) (gate : ℕ) (behind : List ℕ) → length behind < width_of version → HasNoBody version gate behind
no_length version gate behind short body after next is =
    absurd (omega (arith, short, ap length is, length-append (length_bytes version (length body) ++ body) (next ∷ after), length-append (length_bytes version (length body)) body, length-length_bytes version (length body)))

module _ (version : Version) (gate len : ℕ) (behind : List ℕ) (has : HasLength version len behind) where
  -- the record's length is what was read
  one_length : (body after : List ℕ) (next : ℕ) → behind ≡ length_bytes version (length body) ++ body ++ next ∷ after → (length body ≡ len) ⊎ (limit_of version ≤ length body)
  one_length body after next is =
      ⊎_elim
      (λ (small : length body < limit_of version).
      inl (length_head version (length body) len (body ++ next ∷ after) has.1 (limit_fits version _ small) has.0 (sym (append_assoc (length_bytes version (length body)) body (next ∷ after)) ∙ sym is ∙ has.2)).0)
      (λ (large : limit_of version ≤ length body). inr large)
      (cases_lt (length body) (limit_of version))

  -- it would pass the limit
  pub too_long : limit_of version - (gate + 1 + width_of version) ≤ len → HasNoBody version gate behind
  too_long large body after next is =
      ⊎_elim (λ (same : length body ≡ len). omega arith) (λ (long : limit_of version ≤ length body). omega arith) (one_length body after next is)

  -- the leaf ends before it
  pub too_short : length behind < width_of version + (len + 1) → HasNoBody version gate behind
  too_short short body after next is =
      ⊎_elim
      (λ (same : length body ≡ len).
      absurd (omega (arith, same, short, ap length is, length-append (length_bytes version (length body) ++ body) (next ∷ after), length-append (length_bytes version (length body)) body, length-length_bytes version (length body))))
      (λ (long : limit_of version ≤ length body). omega arith)
      (one_length body after next is)

  -- it is there
  pub whole_body : width_of version + len < length behind → len < limit_of version - (gate + 1 + width_of version) → IsBodyAt version gate behind (take len (drop (width_of version) behind))
  whole_body fits small =
      let rest = has.1 in
      let body = take len (drop (width_of version) behind) in
      let is_rest : drop (width_of version) behind ≡ rest =
      ap (λ (l : List ℕ). drop (width_of version) l) has.2 ∙ drop_at (length_bytes version len) rest (width_of version) (length-length_bytes version len) in
      let same_front : body ≡ take len rest = ap (λ (l : List ℕ). take len l) is_rest in
      let long : len < length rest = omega (arith, fits, ap length has.2, length-append (length_bytes version len) rest, length-length_bytes version len) in
      let body_len : length body ≡ len = omega (arith, long, ap length same_front, length-take len rest) in
      let more = split (drop len rest) (omega (arith, long, length-drop len rest)) in (
        omega (arith, body_len, small),
        more.0,
        more.1,
        has.2
            ∙ ap (λ (l : List ℕ). length_bytes version len ++ l) (sym (take-append-drop len rest) ∙ ap (λ (l : List ℕ). l ++ drop len rest) (sym same_front) ∙ ap (λ (l : List ℕ). body ++ l) more.2)
            ∙ sym (append_assoc (length_bytes version len) body (more.0 ∷ more.1))
            ∙ ap (λ (n : ℕ). length_bytes version n ++ body ++ more.0 ∷ more.1) (sym body_len),
      )
    where
      split : (l : List ℕ) → 0 < length l → (next : ℕ) × (after : List ℕ) × (l ≡ next ∷ after)
      split [] empty = absurd (omega arith)
      split (next ∷ after) some = (next, after, refl)

-- as many elements as there are
pub take_least : (n most : ℕ) (l : List ℕ) → n ≡ min most (length l) → take n l ≡ take most l
take_least n most l is =
    ⊎_elim
    (λ (whole : length l < most). take_all n l (omega (arith, is, whole)) ∙ sym (take_all most l (omega (arith, whole))))
    (λ (more : most ≤ length l). ap (λ (k : ℕ). take k l) (omega (arith, is, more)))
    (cases_lt (length l) most)

-- what is read first at a gate is its byte, and then the front that a length takes
pub at_gate : (version : Version) (gate size least : ℕ) (leaf room bytes : List ℕ) → size ≡ length leaf → gate < size → least ≡ min (size - gate) (1 + width_of version) → length room ≡ 9 → bytes ≡ take (length (take least room)) (drop gate leaf)
    → (drop gate leaf ≡ get_or bytes 0 0 ∷ drop (gate + 1) leaf) × IsHead version (size - gate - 1) (take (length bytes - 1) (drop 1 bytes)) (drop (gate + 1) leaf)
at_gate version gate size least leaf room bytes size_is inside least_is nine are =
    split (drop gate leaf) (omega (arith, size_is, inside, length-drop gate leaf))
    (omega (arith, size_is, least_is, nine, length-take least room, length-drop gate leaf, small_width version)) are (drop-drop 1 gate leaf)
  where
    small_width : (v : Version) → width_of v ≤ 8
    small_width One = omega arith
    small_width Two = omega arith

    split : (l : List ℕ) → 0 < length l → length (take least room) ≡ min (1 + width_of version) (length l) → bytes ≡ take (length (take least room)) l → drop 1 l ≡ drop (gate + 1) leaf
        → (l ≡ get_or bytes 0 0 ∷ drop (gate + 1) leaf) × IsHead version (size - gate - 1) (take (length bytes - 1) (drop 1 bytes)) (drop (gate + 1) leaf)
    split [] some many are others = absurd (omega arith)
    split (byte ∷ behind) some many are others =
        let width = width_of version in
        let bytes_are : bytes ≡ byte ∷ take width behind = are ∙ take_least (length (take least room)) (suc width) (byte ∷ behind) (omega (arith, many)) in (
          ap (λ (b : ℕ). b ∷ behind) (sym (ap (λ (l : List ℕ). get_or l 0 0) bytes_are)) ∙ ap (λ (l : List ℕ). get_or bytes 0 0 ∷ l) others,
          (
            omega (arith, size_is, length-drop (gate + 1) leaf),
            take_all (length bytes - 1) (drop 1 bytes) (omega (arith, length-drop 1 bytes)) ∙ ap (λ (l : List ℕ). drop 1 l) bytes_are ∙ ap (λ (l : List ℕ). take width l) others,
          ),
        )

-- what was read behind a body is what stands there
pub read_ahead : (version : Version) (at len count : ℕ) (leaf bytes head : List ℕ) → bytes ≡ take count (drop at leaf) → count ≤ len + (1 + width_of version) → length bytes ≡ len + (1 + width_of version) → drop len bytes ≡ take (1 + width_of version) head
    → take (1 + width_of version) (drop (at + len) leaf) ≡ take (1 + width_of version) head
read_ahead version at len count leaf bytes head are most many is =
    let whole : count ≡ len + (1 + width_of version) = omega (arith, most, many, ap length are, length-take count (drop at leaf)) in
    sym (ap (λ (l : List ℕ). drop len l) (are ∙ ap (λ (n : ℕ). take n (drop at leaf)) whole) ∙ drop-take len (1 + width_of version) (drop at leaf) ∙ ap (λ (l : List ℕ). take (1 + width_of version) l) (drop-drop len at leaf)) ∙ is

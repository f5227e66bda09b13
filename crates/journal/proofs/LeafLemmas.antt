-- Leaves: their fronts, and that a leaf has one list of records.
use Rattle.std.proofs.Common.{◌≡◌, ◌≢◌, ◌⊎◌, inl, inr, ⊎_elim, ℕ, ◌+◌, ◌^◌, ◌<◌, List, [], ◌∷◌, ◌++◌, length, take, drop, get_or, refl, sym, ◌∙◌, ap, subst, arith, append_assoc, length-append}
use Rattle.std.specs.Prelude.{flat_map}
use Rattle.std.specs.Int.{w32, w64, from_be_bytes}
use Rattle.std.proofs.lemmas.Nat.{from_be_bytes-to_be_bytes_4, from_be_bytes-to_be_bytes_8}
use Rattle.std.proofs.lemmas.List.{append-nil, take_at, drop_at}
use Rattle.std.proofs.lemmas.List.Concat.{flat_map-append}
use Rattle.journal.specs.declared.version.Version.{Version}
use Rattle.journal.specs.declared.version.Version.TheVariants.{One, Two}
use Rattle.journal.specs.Leaf.{magic_of, width_of, limit_of, length_bytes, record_of, front_of}

pub length-length_bytes : (version : Version) (n : ℕ) → length (length_bytes version n) ≡ width_of version
unfolding length_bytes
length-length_bytes One n = refl
length-length_bytes Two n = refl

pub length_injective : (version : Version) (m n : ℕ) → m < 256 ^ width_of version → n < 256 ^ width_of version → length_bytes version m ≡ length_bytes version n → m ≡ n
unfolding length_bytes
length_injective One m n small_m small_n same =
    sym (from_be_bytes-to_be_bytes_4 m (omega arith)) ∙ ap (λ (l : List ℕ). from_be_bytes w32 l) same ∙ from_be_bytes-to_be_bytes_4 n (omega arith)
length_injective Two m n small_m small_n same =
    sym (from_be_bytes-to_be_bytes_8 m (omega arith)) ∙ ap (λ (l : List ℕ). from_be_bytes w64 l) same ∙ from_be_bytes-to_be_bytes_8 n (omega arith)

pub limit_fits : (version : Version) (n : ℕ) → n < limit_of version → n < 256 ^ width_of version
limit_fits One n small = omega arith
limit_fits Two n small = omega arith

-- two fronts of one length
pub split_same : (xs ys x y : List ℕ) → length xs ≡ length ys → xs ++ x ≡ ys ++ y → (xs ≡ ys) × (x ≡ y)
split_same xs ys x y len same = (
  sym (take_at xs x (length xs) refl) ∙ ap (λ (l : List ℕ). take (length xs) l) same ∙ take_at ys y (length xs) (sym len),
  sym (drop_at xs x (length xs) refl) ∙ ap (λ (l : List ℕ). drop (length xs) l) same ∙ drop_at ys y (length xs) (sym len),
)

-- what stands behind a length
pub length_head : (version : Version) (m n : ℕ) (x y : List ℕ) → m < 256 ^ width_of version → n < 256 ^ width_of version → length_bytes version m ++ x ≡ length_bytes version n ++ y → (m ≡ n) × (x ≡ y)
length_head version m n x y small_m small_n same =
    let both = split_same (length_bytes version m) (length_bytes version n) x y (length-length_bytes version m ∙ sym (length-length_bytes version n)) same in
    (length_injective version m n small_m small_n both.0, both.1)

pub length-record : (version : Version) (body : List ℕ) → length (record_of version body) ≡ 1 + width_of version + length body
unfolding record_of
length-record version body = omega (arith, length-append (length_bytes version (length body)) body, length-length_bytes version (length body))

-- what stands at a record's start
pub record_at : (version : Version) (body x : List ℕ) → record_of version body ++ x ≡ 1 ∷ (length_bytes version (length body) ++ body ++ x)
unfolding record_of
record_at version body x = ap (λ (l : List ℕ). 1 ∷ l) refl

-- two records and what stands behind them
pub record_head : (version : Version) (a b x y : List ℕ) → length a < limit_of version → length b < limit_of version → record_of version a ++ x ≡ record_of version b ++ y → (a ≡ b) × (x ≡ y)
record_head version a b x y small_a small_b same =
    let tails : length_bytes version (length a) ++ (a ++ x) ≡ length_bytes version (length b) ++ (b ++ y) =
    sym (append_assoc (length_bytes version (length a)) a x)
    ∙ ap (λ (l : List ℕ). drop 1 l) (sym (record_at version a x) ∙ same ∙ record_at version b y)
    ∙ append_assoc (length_bytes version (length b)) b y in
    let lengths = length_head version (length a) (length b) (a ++ x) (b ++ y) (limit_fits version _ small_a) (limit_fits version _ small_b) tails in
    split_same a b x y lengths.0 lengths.1

-- these records are the first of those, and what is behind them is the others and what is behind those
abbrev pub AreFirst : Version → List (List ℕ) → List (List ℕ) → List ℕ → List ℕ → Type 0
AreFirst version first all x y = (more : List (List ℕ)) × (all ≡ first ++ more) × (x ≡ flat_map (record_of version) more ++ y)

-- of two lists of records that the same bytes begin with, one is the first of the other
compared_in : (version : Version) (some others : List (List ℕ)) (x y : List ℕ) → length (flat_map (record_of version) some) < limit_of version → length (flat_map (record_of version) others) < limit_of version
    → flat_map (record_of version) some ++ x ≡ flat_map (record_of version) others ++ y → AreFirst version some others x y ⊎ AreFirst version others some y x
compared_in version [] others x y small_some small_others same = inl (others, refl, same)
compared_in version (a ∷ some) [] x y small_some small_others same = inr (a ∷ some, refl, sym same)
compared_in version (a ∷ some) (b ∷ others) x y small_some small_others same =
    let front_a = flat_map (record_of version) some in
    let front_b = flat_map (record_of version) others in
    let len_a : length (record_of version a) + length front_a < limit_of version = omega (arith, small_some, length-append (record_of version a) front_a) in
    let len_b : length (record_of version b) + length front_b < limit_of version = omega (arith, small_others, length-append (record_of version b) front_b) in
    let heads = record_head version a b (front_a ++ x) (front_b ++ y)
    (omega (arith, len_a, length-record version a)) (omega (arith, len_b, length-record version b))
    (sym (append_assoc (record_of version a) front_a x) ∙ same ∙ append_assoc (record_of version b) front_b y) in
    ⊎_elim
    (λ (first : AreFirst version some others x y). inl (first.0, ap (λ (c : List ℕ). c ∷ others) (sym heads.0) ∙ ap (λ (l : List (List ℕ)). a ∷ l) first.1, first.2))
    (λ (first : AreFirst version others some y x). inr (first.0, ap (λ (c : List ℕ). c ∷ some) heads.0 ∙ ap (λ (l : List (List ℕ)). b ∷ l) first.1, first.2))
    (compared_in version some others x y (omega (arith, len_a)) (omega (arith, len_b)) heads.1)

differ : (m n : ℕ) → m ≡ n → m < n → ⊥
differ m n same less = omega arith

magic_same : (v w : Version) (x y : List ℕ) → magic_of v ++ x ≡ magic_of w ++ y → (v ≡ w) × (x ≡ y)
unfolding magic_of
magic_same One One x y same = (refl, ap (λ (l : List ℕ). drop 8 l) same)
magic_same One Two x y same = absurd (differ 49 50 (ap (λ (l : List ℕ). get_or l 6 0) same) (omega arith))
magic_same Two One x y same = absurd (differ 49 50 (sym (ap (λ (l : List ℕ). get_or l 6 0) same)) (omega arith))
magic_same Two Two x y same = (refl, ap (λ (l : List ℕ). drop 8 l) same)

pub magics_differ : magic_of Two ≡ magic_of One → ⊥
magics_differ same = let no : Two ≡ One = (magic_same Two One [] [] (ap (λ (l : List ℕ). l ++ []) same)).0 in absurd cc

pub length-magic : (version : Version) → length (magic_of version) ≡ 8
unfolding magic_of
length-magic One = refl
length-magic Two = refl

pub length-front : (version : Version) (bodies : List (List ℕ)) → length (front_of version bodies) ≡ 8 + length (flat_map (record_of version) bodies)
unfolding front_of
length-front version bodies = omega (arith, length-append (magic_of version) (flat_map (record_of version) bodies), length-magic version)

pub front_none : (version : Version) → front_of version [] ≡ magic_of version
unfolding front_of
front_none version = append-nil (magic_of version)

-- one more record
pub front_more : (version : Version) (bodies : List (List ℕ)) (body : List ℕ) → front_of version (bodies ++ body ∷ []) ≡ front_of version bodies ++ record_of version body
unfolding front_of
front_more version bodies body =
    ap (λ (l : List ℕ). magic_of version ++ l) (flat_map-append (record_of version) bodies (body ∷ []) ∙ ap (λ (l : List ℕ). flat_map (record_of version) bodies ++ l) (append-nil (record_of version body)))
    ∙ sym (append_assoc (magic_of version) (flat_map (record_of version) bodies) (record_of version body))

pub length-front_more : (version : Version) (bodies : List (List ℕ)) (body : List ℕ) → length (front_of version (bodies ++ body ∷ [])) ≡ length (front_of version bodies) + 1 + width_of version + length body
length-front_more version bodies body =
    ap length (front_more version bodies body) ∙ length-append (front_of version bodies) (record_of version body) ∙ omega (arith, length-record version body)

-- a front begins with its version's magic
pub front_magic : (version : Version) (bodies : List (List ℕ)) (rest : List ℕ) → take 8 (front_of version bodies ++ rest) ≡ magic_of version
unfolding front_of
front_magic version bodies rest =
    ap (λ (l : List ℕ). take 8 l) (append_assoc (magic_of version) (flat_map (record_of version) bodies) rest)
    ∙ take_at (magic_of version) (flat_map (record_of version) bodies ++ rest) 8 (length-magic version)

-- of two lists of records that a leaf begins with, one is the first of the other
pub compared : (v w : Version) (some others : List (List ℕ)) (x y : List ℕ) → length (front_of v some) < limit_of v → length (front_of w others) < limit_of w
    → front_of v some ++ x ≡ front_of w others ++ y → (v ≡ w) × (AreFirst v some others x y ⊎ AreFirst v others some y x)
unfolding front_of
compared v w some others x y small_some small_others same =
    let both = magic_same v w (flat_map (record_of v) some ++ x) (flat_map (record_of w) others ++ y)
    (sym (append_assoc (magic_of v) (flat_map (record_of v) some) x) ∙ same ∙ append_assoc (magic_of w) (flat_map (record_of w) others) y) in
    let P : Version → Type 0 = λ u. flat_map (record_of v) some ++ x ≡ flat_map (record_of u) others ++ y in
    let Q : Version → Type 0 = λ u. length (front_of u others) < limit_of u in
    let small : length (front_of v others) < limit_of v = subst Q (sym both.0) small_others in
    (both.0, compared_in v some others x y (omega (arith, small_some, length-front v some)) (omega (arith, small, length-front v others)) (subst P (sym both.0) both.1))

-- Bodies that were read of a leaf are the first of all its bodies, and what is behind them is the others and the gate.
pub reached : (v w : Version) (read all : List (List ℕ)) (x : List ℕ) (gate : ℕ) (rest : List ℕ) → length (front_of v read) < limit_of v → length (front_of w all) < limit_of w → gate ≢ 1
    → front_of v read ++ x ≡ front_of w all ++ gate ∷ rest → (v ≡ w) × AreFirst v read all x (gate ∷ rest)
reached v w read all x gate rest small_read small_all closed same =
    let found = compared v w read all x (gate ∷ rest) small_read small_all same in
    (found.0, ⊎_elim (λ (first : AreFirst v read all x (gate ∷ rest)). first) (λ (first : AreFirst v all read (gate ∷ rest) x). whole first.0 first.1 first.2) found.1)
  where
    whole : (more : List (List ℕ)) → read ≡ all ++ more → gate ∷ rest ≡ flat_map (record_of v) more ++ x → AreFirst v read all x (gate ∷ rest)
    whole [] bodies behind = ([], sym (append-nil read ∙ bodies ∙ append-nil all), sym behind)
    whole (body ∷ more) bodies behind =
        absurd (closed (ap (λ (l : List ℕ). get_or l 0 0) (behind ∙ append_assoc (record_of v body) (flat_map (record_of v) more) x ∙ record_at v body (flat_map (record_of v) more ++ x))))

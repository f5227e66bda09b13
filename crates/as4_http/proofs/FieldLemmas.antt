-- Lemmas on the fields of a head.
use Rattle.std.proofs.Common.{◌≡◌, ℕ, ◌+◌, ◌<◌, ◌≤◌, Bool, true, false, cond, List, [], ◌∷◌, ◌++◌, length, get_or, take, drop, map, refl, sym, ◌∙◌, ap, arith, length-append, ◌↔◌, IsTrue, Option, None, Some, is_some, append-nil, Bor}
use Rattle.std.specs.Option.{option_to_list, option_copied}
use Rattle.std.proofs.lemmas.Bool.{false≢true}
use Rattle.std.proofs.lemmas.Bool.Decides.{same_from_decides}
use Rattle.std.proofs.lemmas.Slice.Eq.{bytes_eq-Decides}
use Rattle.std.specs.Str.{bytes_eq}
use Rattle.std.proofs.lemmas.List.{take_more, map-append, take-append-drop}
use Rattle.httparse.specs.declared.spans.HeaderSpan.{HeaderSpan}
use Rattle.httparse.specs.Spans.{header_bytes, span_bytes}
use Rattle.as4_http.specs.Fields.{is_name, values_in}

-- a test that tells whether two texts are the same is the one that compares them
pub same_test : (r : Bool) (a b : List ℕ) → IsTrue r ↔ (a ≡ b) → r ≡ bytes_eq a b
same_test r a b tells = same_from_decides {P = a ≡ b} r (bytes_eq a b) tells (bytes_eq-Decides a b)

put_first : (b : Bool) (value : List ℕ) (all front back : List (List ℕ)) → all ≡ front ++ back → cond b (value ∷ all) all ≡ cond b (value ∷ front) front ++ back
put_first true value all front back same = ap (λ (l : List (List ℕ)). value ∷ l) same
put_first false value all front back same = same

pub values_in-append : (name : List ℕ) (fs gs : List (List ℕ × List ℕ)) → values_in name (fs ++ gs) ≡ values_in name fs ++ values_in name gs
values_in-append name [] gs = refl
values_in-append name (f ∷ fs) gs = put_first (is_name f.0 name) f.1 _ _ _ (values_in-append name fs gs)

-- one more field
values_more : (name buf : List ℕ) (headers : List HeaderSpan) (i : ℕ) (d : HeaderSpan) → i < length headers → values_in name (map (header_bytes buf) (take (i + 1) headers)) ≡ values_in name (map (header_bytes buf) (take i headers)) ++ cond (is_name (span_bytes buf (get_or headers i d).name) name) (span_bytes buf (get_or headers i d).value ∷ []) []
values_more name buf headers i d within =
    ap (λ (l : List HeaderSpan). values_in name (map (header_bytes buf) l)) (take_more headers i d within)
    ∙ ap (λ (l : List (List ℕ × List ℕ)). values_in name l) (map-append (header_bytes buf) (take i headers) (get_or headers i d ∷ []))
    ∙ values_in-append name (map (header_bytes buf) (take i headers)) (header_bytes buf (get_or headers i d) ∷ [])

-- a front of the fields has no more values than all
pub values_front : (name buf : List ℕ) (headers : List HeaderSpan) (n : ℕ) → length (values_in name (map (header_bytes buf) (take n headers))) ≤ length (values_in name (map (header_bytes buf) headers))
values_front name buf headers n =
    let parts : values_in name (map (header_bytes buf) headers) ≡ values_in name (map (header_bytes buf) (take n headers)) ++ values_in name (map (header_bytes buf) (drop n headers)) =
    ap (λ (l : List HeaderSpan). values_in name (map (header_bytes buf) l)) (sym (take-append-drop n headers))
    ∙ ap (λ (l : List (List ℕ × List ℕ)). values_in name l) (map-append (header_bytes buf) (take n headers) (drop n headers))
    ∙ values_in-append name (map (header_bytes buf) (take n headers)) (map (header_bytes buf) (drop n headers)) in
    omega (arith, ap length parts, length-append (values_in name (map (header_bytes buf) (take n headers))) (values_in name (map (header_bytes buf) (drop n headers))))

no_value : (value : Option (Bor (List ℕ))) → is_some value ≡ false → option_to_list (option_copied value) ≡ []
no_value None none = refl
no_value (Some value) none = absurd (false≢true (sym none))

one_value : (value : Option (Bor (List ℕ))) → is_some value ≡ true → length (option_to_list (option_copied value)) ≡ 1
one_value None some = absurd (false≢true some)
one_value (Some value) some = refl

-- the next field has the name, or has another
pub next_found : (name buf : List ℕ) (headers : List HeaderSpan) (i : ℕ) (d : HeaderSpan) (value : Option (Bor (List ℕ))) → i < length headers → values_in name (map (header_bytes buf) (take i headers)) ≡ option_to_list (option_copied value) → is_some value ≡ false → is_name (span_bytes buf (get_or headers i d).name) name ≡ true → values_in name (map (header_bytes buf) (take (i + 1) headers)) ≡ span_bytes buf (get_or headers i d).value ∷ []
next_found name buf headers i d value within before none same =
    values_more name buf headers i d within
    ∙ ap (λ (b : Bool). values_in name (map (header_bytes buf) (take i headers)) ++ cond b (span_bytes buf (get_or headers i d).value ∷ []) []) same
    ∙ ap (λ (l : List (List ℕ)). l ++ span_bytes buf (get_or headers i d).value ∷ []) (before ∙ no_value value none)

pub next_other : (name buf : List ℕ) (headers : List HeaderSpan) (i : ℕ) (d : HeaderSpan) → i < length headers → is_name (span_bytes buf (get_or headers i d).name) name ≡ false → values_in name (map (header_bytes buf) (take (i + 1) headers)) ≡ values_in name (map (header_bytes buf) (take i headers))
next_other name buf headers i d within other =
    values_more name buf headers i d within
    ∙ ap (λ (b : Bool). values_in name (map (header_bytes buf) (take i headers)) ++ cond b (span_bytes buf (get_or headers i d).value ∷ []) []) other
    ∙ append-nil (values_in name (map (header_bytes buf) (take i headers)))

-- a second field of the name
pub next_twice : (name buf : List ℕ) (headers : List HeaderSpan) (i : ℕ) (d : HeaderSpan) (value : Option (Bor (List ℕ))) → i < length headers → values_in name (map (header_bytes buf) (take i headers)) ≡ option_to_list (option_copied value) → is_some value ≡ true → is_name (span_bytes buf (get_or headers i d).name) name ≡ true → 2 ≤ length (values_in name (map (header_bytes buf) headers))
next_twice name buf headers i d value within before some same =
    let value_bytes = span_bytes buf (get_or headers i d).value in
    let more : values_in name (map (header_bytes buf) (take (i + 1) headers)) ≡ option_to_list (option_copied value) ++ value_bytes ∷ [] =
    values_more name buf headers i d within
    ∙ ap (λ (b : Bool). values_in name (map (header_bytes buf) (take i headers)) ++ cond b (value_bytes ∷ []) []) same
    ∙ ap (λ (l : List (List ℕ)). l ++ value_bytes ∷ []) before in
    omega (arith, values_front name buf headers (i + 1), ap length more, length-append (option_to_list (option_copied value)) (value_bytes ∷ []), one_value value some)

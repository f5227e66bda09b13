-- Lemmas on fields that close a connection.
use Rattle.std.proofs.Common.{◌≡◌, ℕ, ◌+◌, ◌<◌, Bool, true, false, ◌||◌, List, [], ◌∷◌, length, get_or, take, drop, map, refl, sym, ◌∙◌, ap}
use Rattle.std.specs.List.{list_any}
use Rattle.std.proofs.lemmas.List.{map_more, map-append, take-append-drop}
use Rattle.std.proofs.lemmas.List.Folds.{list_any-append}
use Rattle.httparse.specs.declared.spans.HeaderSpan.{HeaderSpan}
use Rattle.httparse.specs.Spans.{header_bytes, span_bytes}
use Rattle.as4_http.specs.Connection.{is_closing, closes}

or_false : (b : Bool) → (b || false) ≡ b
or_false true = refl
or_false false = refl

pub closes_none : closes [] ≡ false
unfolding closes
closes_none = refl

-- one more field
pub closes_more : (buf : List ℕ) (headers : List HeaderSpan) (i : ℕ) (d : HeaderSpan) → i < length headers → closes (map (header_bytes buf) (take (i + 1) headers)) ≡ (closes (map (header_bytes buf) (take i headers)) || is_closing (header_bytes buf (get_or headers i d)))
unfolding closes
closes_more buf headers i d within =
    ap (λ (l : List (List ℕ × List ℕ)). list_any is_closing l) (map_more (header_bytes buf) headers i d within)
    ∙ list_any-append is_closing (map (header_bytes buf) (take i headers)) (header_bytes buf (get_or headers i d) ∷ [])
    ∙ ap (λ (b : Bool). list_any is_closing (map (header_bytes buf) (take i headers)) || b) (or_false (is_closing (header_bytes buf (get_or headers i d))))

or_true_left : (a b : Bool) → a ≡ true → (a || b) ≡ true
or_true_left a b is = ap (λ (x : Bool). x || b) is

-- a front of the fields closes it, hence all do
pub closes_front : (buf : List ℕ) (headers : List HeaderSpan) (n : ℕ) → closes (map (header_bytes buf) (take n headers)) ≡ true → closes (map (header_bytes buf) headers) ≡ true
unfolding closes
closes_front buf headers n front =
    ap (λ (l : List HeaderSpan). list_any is_closing (map (header_bytes buf) l)) (sym (take-append-drop n headers))
    ∙ ap (λ (l : List (List ℕ × List ℕ)). list_any is_closing l) (map-append (header_bytes buf) (take n headers) (drop n headers))
    ∙ list_any-append is_closing (map (header_bytes buf) (take n headers)) (map (header_bytes buf) (drop n headers))
    ∙ or_true_left (list_any is_closing (map (header_bytes buf) (take n headers))) _ front

-- and where the next field closes it or doesn't
pub closes_at : (buf : List ℕ) (headers : List HeaderSpan) (i : ℕ) (d : HeaderSpan) (name value : List ℕ) (r b : Bool) → i < length headers → closes (map (header_bytes buf) (take i headers)) ≡ false → name ≡ span_bytes buf (get_or headers i d).name → value ≡ span_bytes buf (get_or headers i d).value → r ≡ is_closing (name, value) → r ≡ b → closes (map (header_bytes buf) (take (i + 1) headers)) ≡ b
closes_at buf headers i d name value r b within before name_is value_is tested is =
    let same : is_closing (header_bytes buf (get_or headers i d)) ≡ b = ap (λ (l : List ℕ). is_closing (l, span_bytes buf (get_or headers i d).value)) (sym name_is) ∙ ap (λ (l : List ℕ). is_closing (name, l)) (sym value_is) ∙ sym tested ∙ is in
    closes_more buf headers i d within ∙ ap (λ (x : Bool). x || is_closing (header_bytes buf (get_or headers i d))) before ∙ same

-- When bytes begin with the body of no value.
use Rattle.std.proofs.Common.{◌≡◌, ℕ, ◌+◌, ◌<◌, ◌^◌, List, [], ◌∷◌, ◌++◌, length, append_assoc, length-append, ap, sym, ◌∙◌, arith}
use Rattle.std.specs.List.{flat_map}
use Rattle.byte_forms.specs.Bytes.{number_body, text_body, list_body, pair_body}
use Rattle.byte_forms.specs.Forms.{IsCounted, IsList, IsPair, Each, Once, Refuses}
use Rattle.byte_forms.proofs.NumberLemmas.{number_length, number_once, regroup}
use Rattle.byte_forms.proofs.OnceLemmas.{text_once}

-- too few bytes
pub number_refused : (places : ℕ) (bytes : List ℕ) → length bytes < places → Refuses (λ n. n < 256 ^ places) (number_body places) bytes
number_refused places bytes short =
    record { none = λ n r is e. omega (arith, ap length e, length-append (number_body places n) r, number_length places n) }

pub found_both : (bytes a b rest last : List ℕ) → bytes ≡ a ++ rest → rest ≡ b ++ last → bytes ≡ (a ++ b) ++ last
found_both bytes a b rest last e f = e ∙ ap (λ l. a ++ l) f ∙ sym (append_assoc a b last)

pub text_refused_count : (bytes : List ℕ) → length bytes < 4 → Refuses (IsCounted {X = ℕ}) text_body bytes
unfolding text_body
text_refused_count bytes short = record {
  none = λ x r is e. (number_refused 4 bytes short).none (length x) (x ++ r) is (e ∙ append_assoc (number_body 4 (length x)) x r);
}

pub text_refused : (bytes rest : List ℕ) (len : ℕ) → len < 256 ^ 4 → bytes ≡ number_body 4 len ++ rest → length rest < len → Refuses (IsCounted {X = ℕ}) text_body bytes
unfolding text_body
text_refused bytes rest len fits e short = record {
  none = λ x r is f.
      let parts = number_once 4 len (length x) rest (x ++ r) fits is (sym e ∙ (f ∙ append_assoc (number_body 4 (length x)) x r)) in
      omega (arith, parts.0, ap length parts.1, length-append x r);
}

pub text_found : (bytes rest last text : List ℕ) (len : ℕ) → len < 256 ^ 4 → bytes ≡ number_body 4 len ++ rest → length text ≡ len → rest ≡ text ++ last
    → IsCounted text × (bytes ≡ text_body text ++ last)
unfolding text_body
text_found bytes rest last text len fits e same f =
    let counted : IsCounted text = omega (arith, same, fits) in
    (counted, rw same (found_both bytes (number_body 4 len) text rest last e f))

-- octets that are none of these
pub octets_refused : (is : List ℕ → Type 0) (octets bytes rest : List ℕ) → ((x : List ℕ) → is x → IsCounted x) → IsCounted octets
    → bytes ≡ text_body octets ++ rest → (is octets → ⊥) → Refuses is text_body bytes
octets_refused is octets bytes rest counted fits e unfit = record {
  none = λ x r held f. unfit (rw ((text_once octets x rest r fits (counted x held) (sym e ∙ f)).0) held);
}

pub refused_within : {X : Type 0} (is within : X → Type 0) (body : X → List ℕ) (bytes : List ℕ) → ((x : X) → within x → is x)
    → Refuses is body bytes → Refuses within body bytes
refused_within is within body bytes kept refused = record { none = λ x r held f. refused.none x r (kept x held) f }

-- what is written of a value doesn't stand there
pub refused_by : {X Y : Type 0} (is : X → Type 0) (body : X → List ℕ) (other : Y → Type 0) (also : Y → List ℕ) (f : Y → X) (bytes : List ℕ)
    → ((y : Y) → other y → is (f y)) → ((y : Y) → also y ≡ body (f y)) → Refuses is body bytes → Refuses other also bytes
refused_by is body other also f bytes kept same refused =
    record { none = λ y r a e. refused.none (f y) r (kept y a) (e ∙ ap (λ l. l ++ r) (same y)) }

-- a pair whose first value doesn't stand there, and one whose second doesn't stand behind it
pub pair_refused : {X Y : Type 0} (is : X → Type 0) (body : X → List ℕ) (also : Y → Type 0) (behind : Y → List ℕ) (bytes : List ℕ)
    → Refuses is body bytes → Refuses (IsPair is also) (pair_body body behind) bytes
pair_refused is body also behind bytes refused =
    record { none = λ p r a e. refused.none p.0 (behind p.1 ++ r) a.0 (e ∙ append_assoc (body p.0) (behind p.1) r) }

pub pair_refused_behind : {X Y : Type 0} (is : X → Type 0) (body : X → List ℕ) (also : Y → Type 0) (behind : Y → List ℕ) (bytes rest : List ℕ) (x : X)
    → Once is body → is x → bytes ≡ body x ++ rest → Refuses also behind rest → Refuses (IsPair is also) (pair_body body behind) bytes
pair_refused_behind is body also behind bytes rest x once held f refused = record {
  none = λ p r a e. refused.none p.1 r a.1 (once x p.0 rest (behind p.1 ++ r) held a.0 (sym f ∙ (e ∙ append_assoc (body p.0) (behind p.1) r))).1;
}

-- so many items, where one is missing
items_refused : {X : Type 0} (is : X → Type 0) (body : X → List ℕ) → Once is body
    → (xs : List X) (rest : List ℕ) → Each is xs → Refuses is body rest
    → (ys : List X) (r : List ℕ) → length xs < length ys → Each is ys → flat_map body xs ++ rest ≡ flat_map body ys ++ r → ⊥
items_refused is body once [] rest a refused [] r n b e = omega (arith, n)
items_refused is body once [] rest a refused (y ∷ ys) r n b e =
    refused.none y (flat_map body ys ++ r) b.0 (e ∙ append_assoc (body y) (flat_map body ys) r)
items_refused is body once (x ∷ xs) rest a refused [] r n b e = omega (arith, n)
items_refused is body once (x ∷ xs) rest a refused (y ∷ ys) r n b e =
    let first = once x y _ _ a.0 b.0 (regroup (body x) (flat_map body xs) _ (body y) (flat_map body ys) _ e) in
    items_refused is body once xs rest a.1 refused ys r (omega (arith, n)) b.1 first.1

-- one item more
pub each_more : {X : Type 0} (is : X → Type 0) (xs : List X) (x : X) → Each is xs → is x → Each is (xs ++ x ∷ [])
each_more is [] x a held = (held, tt)
each_more is (y ∷ xs) x a held = (a.0, each_more is xs x a.1 held)

-- so many items in all, where one is missing
pub list_refused : {X : Type 0} (is : X → Type 0) (body : X → List ℕ) → Once is body
    → (bytes rest : List ℕ) (xs : List X) (count : ℕ) → bytes ≡ flat_map body xs ++ rest → Each is xs → length xs < count → Refuses is body rest
    → Refuses (λ items. (length items ≡ count) × Each is items) (flat_map body) bytes
list_refused is body once bytes rest xs count e a below refused = record {
  none = λ ys r b f. items_refused is body once xs rest a refused ys r (omega (arith, below, b.0)) b.1 (sym e ∙ f);
}

pub list_refused_count : {X : Type 0} (is : X → Type 0) (body : X → List ℕ) (bytes : List ℕ) → length bytes < 4
    → Refuses (IsList is) (list_body body) bytes
list_refused_count is body bytes short = record {
  none = λ xs r a e.
      (number_refused 4 bytes short).none (length xs) (flat_map body xs ++ r) a.0 (e ∙ append_assoc (number_body 4 (length xs)) (flat_map body xs) r);
}

pub list_refused_items : {X : Type 0} (is : X → Type 0) (body : X → List ℕ) (bytes rest : List ℕ) (count : ℕ) → count < 256 ^ 4 → bytes ≡ number_body 4 count ++ rest
    → Refuses (λ items. (length items ≡ count) × Each is items) (flat_map body) rest
    → Refuses (IsList is) (list_body body) bytes
list_refused_items is body bytes rest count fits e refused = record {
  none = λ xs r a f.
      let parts = number_once 4 count (length xs) rest (flat_map body xs ++ r) fits a.0 (sym e ∙ (f ∙ append_assoc (number_body 4 (length xs)) (flat_map body xs) r)) in
      refused.none xs r (sym parts.0, a.1) parts.1;
}

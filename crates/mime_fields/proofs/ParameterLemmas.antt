-- Parameters, one after another, as a loop cuts them.
use Rattle.std.proofs.Common.{◌≡◌, ℕ, zero, suc, ◌<◌, ◌≤◌, true, false, List, [], ◌∷◌, ◌++◌, length, Option, Some, None, option_map, refl, sym, ap, ◌∙◌, arith, inl, inr, append_assoc, append-nil, length-append}
use Rattle.std.proofs.lemmas.Bool.{cases_Bool}
use Rattle.std.specs.List.{list_all}
use Rattle.std.specs.Prelude.{codes}
use Rattle.byte_forms.specs.Classes.{is_space}
use Rattle.byte_forms.specs.Cuts.{◌>>=◌, skip, run_at, strip_prefix}
use Rattle.byte_forms.proofs.CutLemmas.{cases_option, length-skip, run_shortens, strip_prefix_takes}
use Rattle.mime_fields.proofs.TypeTakes.{parameter_takes, length-parameter_text}
use Rattle.mime_fields.specs.WrittenTypes.{parameter_text}
use Rattle.mime_fields.specs.MediaTypes.{Parameter, MediaType, media_type_of, is_token_byte, parameter_at, parameters_within}

behind_shortens : (word bytes rest : List ℕ) → strip_prefix word bytes ≡ Some rest → length rest ≤ length bytes
behind_shortens word bytes rest e = omega (arith, ap length (strip_prefix_takes word bytes rest e), length-append word rest)

-- no parameter is empty
pub parameter_shortens : (bytes : List ℕ) (x : Parameter × List ℕ) → parameter_at bytes ≡ Some x → length x.1 < length bytes
parameter_shortens bytes x cut =
    let taken = parameter_takes bytes x cut in
    omega (arith, ap length taken.whole, length-append (parameter_text taken.written) x.1, length-parameter_text taken.written)

-- ---- a limited number of parameters

ended : (n : ℕ) (bytes : List ℕ) → list_all is_space bytes ≡ true → parameters_within n bytes ≡ Some []
unfolding parameters_within
ended zero bytes spaces = rw spaces refl
ended (suc n) bytes spaces = rw spaces refl

none_within : (n : ℕ) (bytes : List ℕ) → list_all is_space bytes ≡ false → parameter_at bytes ≡ None → parameters_within n bytes ≡ None
unfolding parameters_within
none_within zero bytes more none = rw more refl
none_within (suc n) bytes more none = rw (more, none) refl

one_within : (n : ℕ) (bytes : List ℕ) (x : Parameter × List ℕ) → list_all is_space bytes ≡ false → parameter_at bytes ≡ Some x → parameters_within (suc n) bytes ≡ option_map (λ others. x.0 ∷ others) (parameters_within n x.1)
unfolding parameters_within
one_within n bytes x more cut = rw (more, cut) refl

-- a larger limit changes nothing
pub enough : (n m : ℕ) (bytes : List ℕ) → length bytes ≤ n → length bytes ≤ m → parameters_within n bytes ≡ parameters_within m bytes
enough zero m bytes few_n few_m = elim (cases_Bool (list_all is_space bytes)) [
  | inl spaces ↦ ended zero bytes spaces ∙ sym (ended m bytes spaces)
  | inr more ↦ elim (cases_option (parameter_at bytes)) [
    | inl none ↦ none_within zero bytes more none ∙ sym (none_within m bytes more none)
    | inr some ↦ absurd (omega (arith, parameter_shortens bytes some.0 some.1))
  ]
]
enough (suc n) zero bytes few_n few_m = elim (cases_Bool (list_all is_space bytes)) [
  | inl spaces ↦ ended (suc n) bytes spaces ∙ sym (ended zero bytes spaces)
  | inr more ↦ elim (cases_option (parameter_at bytes)) [
    | inl none ↦ none_within (suc n) bytes more none ∙ sym (none_within zero bytes more none)
    | inr some ↦ absurd (omega (arith, parameter_shortens bytes some.0 some.1))
  ]
]
enough (suc n) (suc m) bytes few_n few_m = elim (cases_Bool (list_all is_space bytes)) [
  | inl spaces ↦ ended (suc n) bytes spaces ∙ sym (ended (suc m) bytes spaces)
  | inr more ↦ elim (cases_option (parameter_at bytes)) [
    | inl none ↦ none_within (suc n) bytes more none ∙ sym (none_within (suc m) bytes more none)
    | inr some ↦
        let shorter = parameter_shortens bytes some.0 some.1 in
        one_within n bytes some.0 more some.1 ∙ ap (λ (o : Option (List Parameter)). option_map (λ others. some.0.0 ∷ others) o) (enough n m some.0.1 (omega arith) (omega arith)) ∙ sym (one_within m bytes some.0 more some.1)
  ]
]

-- these parameters come first, followed by those of the rest
abbrev pub GoOn : List ℕ → List Parameter → List ℕ → Type 0
GoOn bytes front rest =
    parameters_within (length bytes) bytes ≡ option_map (λ others. front ++ others) (parameters_within (length rest) rest)

some_in : (bytes : List ℕ) (x : Parameter × List ℕ) → list_all is_space bytes ≡ false → parameter_at bytes ≡ Some x → parameters_within (length bytes) bytes ≡ option_map (λ others. x.0 ∷ others) (parameters_within (length x.1) x.1)
some_in [] x more cut = absurd (omega (arith, parameter_shortens [] x cut))
some_in (b ∷ bytes) x more cut =
    let shorter = parameter_shortens (b ∷ bytes) x cut in
    one_within (length bytes) (b ∷ bytes) x more cut ∙ ap (λ (o : Option (List Parameter)). option_map (λ others. x.0 ∷ others) o) (enough (length bytes) (length x.1) x.1 (omega arith) (omega arith))

one_more : (front : List Parameter) (p : Parameter) (o : Option (List Parameter)) → option_map (λ others. front ++ others) (option_map (λ others. p ∷ others) o) ≡ option_map (λ others. (front ++ p ∷ []) ++ others) o
one_more front p None = refl
one_more front p (Some others) = rw (append_assoc front (p ∷ []) others) refl

pub one_on : (bytes rest : List ℕ) (front : List Parameter) (x : Parameter × List ℕ) → list_all is_space rest ≡ false → parameter_at rest ≡ Some x → GoOn bytes front rest → GoOn bytes (front ++ x.0 ∷ []) x.1
one_on bytes rest front x more cut so_far =
    so_far ∙ ap (λ (o : Option (List Parameter)). option_map (λ others. front ++ others) o) (some_in rest x more cut) ∙ one_more front x.0 (parameters_within (length x.1) x.1)

pub all_of : (bytes rest : List ℕ) (front : List Parameter) → list_all is_space rest ≡ true → GoOn bytes front rest → Some front ≡ parameters_within (length bytes) bytes
all_of bytes rest front spaces so_far =
    sym (so_far ∙ ap (λ (o : Option (List Parameter)). option_map (λ others. front ++ others) o) (ended (length rest) rest spaces) ∙ rw (append-nil front) refl)

pub none_of : (bytes rest : List ℕ) (front : List Parameter) → list_all is_space rest ≡ false → parameter_at rest ≡ None → GoOn bytes front rest → None ≡ parameters_within (length bytes) bytes
none_of bytes rest front more none so_far =
    sym (so_far ∙ ap (λ (o : Option (List Parameter)). option_map (λ others. front ++ others) o) (none_within (length rest) rest more none))

-- a media type, from its type, its subtype and the parameters found after them
pub type_told : (text rest : List ℕ) (kind subkind : List ℕ × List ℕ) (found : Option (List Parameter)) → run_at is_token_byte (skip is_space text) ≡ Some kind → strip_prefix (codes "/") kind.1 ≡ Some rest → run_at is_token_byte rest ≡ Some subkind
    → found ≡ parameters_within (length subkind.1) subkind.1 → option_map (λ (all : List Parameter). record { kind = kind.0; subkind = subkind.0; parameters = all }) found ≡ media_type_of text
unfolding media_type_of
type_told text rest kind subkind found e0 e1 e2 e3 =
    let s0 = run_shortens is_token_byte (skip is_space text) kind e0 in
    let s1 = behind_shortens (codes "/") kind.1 rest e1 in
    let s2 = run_shortens is_token_byte rest subkind e2 in
    let same : parameters_within (length text) subkind.1 ≡ found = enough (length text) (length subkind.1) subkind.1 (omega (arith, length-skip is_space text)) (omega arith) ∙ sym e3 in
    rw (e0, e1, e2, same) (with_all found)
  where
    type_with : List Parameter → MediaType
    type_with all = record { kind = kind.0; subkind = subkind.0; parameters = all }

    with_all : (o : Option (List Parameter)) → option_map type_with o ≡ (o >>= λ all. Some (type_with all))
    with_all None = refl
    with_all (Some all) = refl

-- Identifiers at the places of their numbers.
use Rattle.std.proofs.Common.{◌≡◌, ℕ, suc, ◌+◌, ◌≤◌, ◌||◌, inl, inr, List, [], ◌∷◌, ◌++◌, Bool, true, false, cond, not, nat_lt, Option, Some, None, length, map, take, refl, sym, ap, ◌∙◌, arith}
use Rattle.std.specs.Prelude.{option_map}
use Rattle.std.specs.Option.{option_and_then}
use Rattle.std.specs.List.{list_any, prefix_len, position}
use Rattle.std.specs.Str.{bytes_eq}
use Rattle.std.specs.Cmp.Lexicographic.{nat_list_eq_equiv}
use Rattle.std.proofs.lemmas.Bool.{cases_Bool, cond-true, cond-false, false≢true}
use Rattle.std.proofs.lemmas.Bool.Decides.{nat_tests}
use Rattle.std.proofs.lemmas.List.{length-map, length-take, map-append, take_all}
use Rattle.std.proofs.lemmas.Slice.Eq.{bytes_eq-Decides}
use Rattle.exchange_model.specs.Numbered.{AreNumberedFrom}
use Rattle.exchange_model.specs.Questions.{sent_of}
use Rattle.exchange_model.specs.declared.sent.Sent.{Sent}
use Rattle.outbox.specs.Numbering.{AreNumbers, id_of}
use Rattle.outbox.specs.declared.numbers.Numbers.{Numbers}
use Rattle.exchange_model.specs.Apply.{changed}
use Rattle.outbox.proofs.PartsLemmas.{Parts, length_changed, remapped}

-- the first items of two equal lists
head_is : {X : Type 0} (x y : X) (xs ys : List X) → x ∷ xs ≡ y ∷ ys → x ≡ y
head_is x y xs ys e = cc

tail_is : {X : Type 0} (x y : X) (xs ys : List X) → x ∷ xs ≡ y ∷ ys → xs ≡ ys
tail_is x y xs ys e = cc

-- a submission with another identifier is skipped
passed : (id : List ℕ) (s : Sent) (sent : List Sent) → sent_of id (s ∷ sent) ≡ None → (bytes_eq (id_of s) id ≡ false) × (sent_of id sent ≡ None)
passed id s sent none = elim (cases_Bool (bytes_eq (id_of s) id)) [
  | inl same ↦
      let found : sent_of id (s ∷ sent) ≡ Some s = cond-true _ _ _ same in
      absurd (cc)
  | inr other ↦ (other, sym (cond-false _ _ _ other) ∙ none)
]

-- the first of some identifiers, or one of the others
only_one : (id k : List ℕ) → list_any (bytes_eq id) (k ∷ []) ≡ true → k ≡ id
only_one id k there = elim (cases_Bool (bytes_eq id k)) [
  | inl same ↦ sym ((bytes_eq-Decides id k).0 same)
  | inr other ↦ absurd (false≢true (sym (ap (λ b. b || false) other) ∙ there))
]

among_others : (id k : List ℕ) (keys : List (List ℕ)) → bytes_eq id k ≡ false → list_any (bytes_eq id) (k ∷ keys) ≡ true
    → list_any (bytes_eq id) keys ≡ true
among_others id k keys other there = sym (ap (λ b. b || list_any (bytes_eq id) keys) other) ∙ there

-- the first item of equal lists
turned : (id k : List ℕ) (s : Sent) (b : Bool) → k ≡ id_of s → bytes_eq (id_of s) id ≡ b → bytes_eq id k ≡ b
turned id k s b front is = ap (bytes_eq id) front ∙ (nat_list_eq_equiv.symm id (id_of s) ∙ is)

-- an identifier that none of these submissions has, and that is among theirs and one more, is that one
pub last_one : (keys : List (List ℕ)) (sent : List Sent) (id : List ℕ) → take (length sent) keys ≡ map id_of sent
    → length keys ≤ length sent + 1 → list_any (bytes_eq id) keys ≡ true → sent_of id sent ≡ None → keys ≡ map id_of sent ++ id ∷ []
last_one [] [] id ids few there new = absurd (false≢true there)
last_one (k ∷ []) [] id ids few there new = ap (λ x. x ∷ []) (only_one id k there)
last_one (k ∷ l ∷ keys) [] id ids few there new = absurd (omega arith)
last_one [] (s ∷ sent) id ids few there new = absurd (cc)
last_one (k ∷ keys) (s ∷ sent) id ids few there new =
    let front : k ≡ id_of s = head_is _ _ _ _ ids in
    let past = passed id s sent new in
    let rest : keys ≡ map id_of sent ++ id ∷ [] =
    last_one keys sent id (tail_is _ _ _ _ ids) (omega arith) (among_others id k keys (turned id k s false front past.0) there) past.1 in
    ap (λ x. x ∷ keys) front ∙ ap (λ xs. id_of s ∷ xs) rest

-- the place of an identifier, where it is that of one of `count` submissions from a number on
abbrev place_in : ℕ → ℕ → ℕ → Option ℕ
place_in from count place = cond (nat_lt place count) (Some (from + place)) None

place_past : (n place : ℕ) → None ≡ place_in n 0 place
place_past n place =
    let past : nat_lt place 0 ≡ false = grind (arith, nat_tests) in
    sym (cond-false _ _ _ past)

place_first : (n count : ℕ) → Some n ≡ place_in n (suc count) 0
place_first n count =
    let within : nat_lt 0 (suc count) ≡ true = grind (arith, nat_tests) in
    let same : n + 0 ≡ n = omega arith in
    sym (cond-true (nat_lt 0 (suc count)) (Some (n + 0)) None within ∙ ap Some same)

place_next : (n count place : ℕ) → place_in (suc n) count place ≡ place_in n (suc count) (1 + place)
place_next n count place =
    let same : nat_lt place count ≡ nat_lt (1 + place) (suc count) = grind (arith, nat_tests) in
    let sum : suc n + place ≡ n + (1 + place) = omega arith in
    ap (λ b. cond b (Some (suc n + place)) None) same ∙ ap (λ m. cond (nat_lt (1 + place) (suc count)) (Some m) None) sum

pub number_at : (id : List ℕ) (keys : List (List ℕ)) (n : ℕ) (sent : List Sent) → take (length sent) keys ≡ map id_of sent → AreNumberedFrom n sent
    → option_map (λ (s : Sent). s.submission.number) (sent_of id sent) ≡ place_in n (length sent) (prefix_len (λ k. not (bytes_eq id k)) keys)
unfolding AreNumberedFrom
number_at id keys n [] ids numbered = place_past n _
number_at id [] n (s ∷ sent) ids numbered = absurd (cc)
number_at id (k ∷ keys) n (s ∷ sent) ids numbered =
    let front : k ≡ id_of s = head_is _ _ _ _ ids in
    elim (cases_Bool (bytes_eq (id_of s) id)) [
      | inl same ↦ rw (same, turned id k s true front same) (ap Some numbered.0 ∙ place_first n (length sent))
      | inr other ↦
          rw (other, turned id k s false front other)
          (number_at id keys (suc n) sent (tail_is _ _ _ _ ids) numbered.1 ∙ place_next n (length sent) (prefix_len (λ k. not (bytes_eq id k)) keys))
    ]

-- the place of an identifier among all is that of a submission where it is below their count
among_first : (len place count : ℕ) → count ≤ len
    → place_in 0 count place ≡ option_and_then (λ n. cond (nat_lt n count) (Some n) None) (cond (nat_lt place len) (Some place) None)
among_first len place count within = elim (cases_Bool (nat_lt place len)) [
  | inl there ↦
      let same : 0 + place ≡ place = omega arith in
      rw there (ap (λ n. cond (nat_lt place count) (Some n) None) same)
  | inr past ↦
      let none : nat_lt place count ≡ false = grind (arith, nat_tests) in
      rw (past, none) refl
]

pub number_found : (id : List ℕ) (keys : List (List ℕ)) (sent : List Sent) (place : Option ℕ) → take (length sent) keys ≡ map id_of sent
    → AreNumberedFrom 0 sent → place ≡ position (bytes_eq id) keys
    → option_map (λ (s : Sent). s.submission.number) (sent_of id sent) ≡ option_and_then (λ n. cond (nat_lt n (length sent)) (Some n) None) place
number_found id keys sent place ids numbered is =
    let long : length (take (length sent) keys) ≡ length sent = ap length ids ∙ length-map sent id_of in
    let within : length sent ≤ length keys = omega (arith, long, length-take (length sent) keys) in
    number_at id keys 0 sent ids numbered
    ∙ among_first (length keys) _ (length sent) within
    ∙ ap (option_and_then (λ n. cond (nat_lt n (length sent)) (Some n) None)) (sym is)

-- one more submission, which gets the identifier after the others
pub numbered_too : (keys : List (List ℕ)) (sent : List Sent) (s : Sent) → take (length sent) keys ≡ map id_of sent
    → length keys ≤ length sent + 1 → list_any (bytes_eq (id_of s)) keys ≡ true → sent_of (id_of s) sent ≡ None
    → (take (length (sent ++ s ∷ [])) keys ≡ map id_of (sent ++ s ∷ [])) × (length keys ≤ length (sent ++ s ∷ []) + 1)
numbered_too keys sent s ids few there new =
    let all : keys ≡ map id_of (sent ++ s ∷ []) = last_one keys sent (id_of s) ids few there new ∙ sym (map-append id_of sent (s ∷ [])) in
    let long : length keys ≡ length (sent ++ s ∷ []) = ap length all ∙ length-map (sent ++ s ∷ []) id_of in
    (take_all (length (sent ++ s ∷ [])) keys (omega (arith, long)) ∙ all, omega (arith, long))

-- changes leave the identifiers
pub numbers_changed : (numbers : Numbers) (number : ℕ) (f : Sent → Sent) (sent : List Sent) (parts : Parts number sent)
    → id_of (f parts.one) ≡ id_of parts.one → AreNumbers numbers sent → AreNumbers numbers (changed number f sent)
numbers_changed numbers number f sent parts same are =
    let ids : map id_of (changed number f sent) ≡ map id_of sent = remapped id_of number f sent parts same in
    let long : length (changed number f sent) ≡ length sent = length_changed number f sent in
    record {
      ids = rw (long, ids) are.ids;
      few = rw long are.few;
      place = are.place;
    }

-- The first repeat of a list, as the modes are read one by one.
use Rattle.std.proofs.Common.{Bor, ◌≡◌, ℕ, zero, suc, ◌+◌, ◌<◌, ◌≤◌, List, [], ◌∷◌, ◌++◌, Bool, true, false, Option, Some, None, length, take, drop, get_or, option_map, map, cond, inl, inr, length-append, append_assoc, refl, sym, ap, arith}
use Rattle.std.proofs.lemmas.List.{drop_more, take_more, length-map, get_or_append_left}
use Rattle.std.proofs.Math.Seq.{get_or-append_seam}
use Rattle.std.specs.Prelude.{IfSome, IfNone, option_copied}
use Rattle.std.specs.List.{find, AllWithin}
use Rattle.std.specs.Option.{option_or}
use Rattle.std.specs.Str.{bytes_eq}
use Rattle.std.proofs.lemmas.Bool.{both_ways, cases_order, lt-ltb, le-ltb}
use Rattle.std.proofs.lemmas.Slice.Eq.{bytes_eq-Decides}
use Rattle.mode_values.specs.ModeFields.{mode_fields}
use Rattle.mode_values.specs.ModeMatch.{Matches, mode_of, mode_terms, header_terms, are_same_terms}
use Rattle.as4_values.specs.declared.header.UserHeader.{UserHeader}
use Rattle.mode_values.proofs.MatchLemmas.{decides_terms}
use Rattle.mode_values.specs.declared.mode.Mode.{Mode}
use Rattle.pmodes.specs.declared.refusal.Key.TheVariants as key
use Rattle.pmodes.specs.declared.refusal.ModeRefusal.TheVariants.{Range, Twice, Ambiguous}
use Rattle.pmodes.specs.ModeList.{first_repeat, has_same_name, has_same_terms, twice_among, ambiguous_among, list_refusal, AreModes}

-- one step, where nothing is repeated
pub no_repeat_here : {X : Type 0} (repeats : X → X → Bool) (xs : List X) (i : ℕ) (x : X) → i < length xs → x ≡ get_or xs i x
    → find (λ a. repeats a x) (take i xs) ≡ None
    → first_repeat repeats (take (i + 1) xs) (drop (i + 1) xs) ≡ first_repeat repeats (take i xs) (drop i xs)
no_repeat_here repeats xs i x short is none =
    rw (take_more xs i x short, drop_more xs i x short, ← is, none)

-- the step that ends it
pub repeat_here : {X : Type 0} (repeats : X → X → Bool) (xs : List X) (i : ℕ) (a x : X) → i < length xs → x ≡ get_or xs i x
    → find (λ b. repeats b x) (take i xs) ≡ Some a
    → first_repeat repeats (take i xs) (drop i xs) ≡ Some (a, x)
repeat_here repeats xs i a x short is found =
    rw (drop_more xs i x short, ← is, found)

by_test : {X Y : Type 0} (f : X → Y) (x : X) (t : Bool) (found : Option Y) (rest : Option X) → found ≡ option_map f rest
    → cond t (Some (f x)) found ≡ option_map f (cond t (Some x) rest)
by_test f x true found rest same = refl
by_test f x false found rest same = same

map-append-one : {X Y : Type 0} (f : X → Y) (xs : List X) (x : X) → map f xs ++ f x ∷ [] ≡ map f (xs ++ x ∷ [])
map-append-one f [] x = refl
map-append-one {Y = Y} f (y ∷ xs) x = ap (λ (ys : List Y). f y ∷ ys) (map-append-one f xs x)

abbrev pub pair : {A B : Type 0} → A → B → A × B
pair a b = (a, b)

both_mapped : {X Y : Type 0} (f : X → Y) (x : X) (found : Option X) (rest : Option (X × X))
    → option_or {T = Y × Y} (option_map (λ (a : Y). pair a (f x)) (option_map f found)) (option_map (λ (p : X × X). pair (f p.0) (f p.1)) rest)
    ≡ option_map (λ (p : X × X). pair (f p.0) (f p.1)) (option_or (option_map (λ (a : X). pair a x) found) rest)
both_mapped f x None rest = refl
both_mapped f x (Some a) rest = refl

-- a search in the fields of modes is a search in the modes
find-fields : {X Y : Type 0} (f : X → Y) (test : Y → Bool) (xs : List X) → find test (map f xs) ≡ option_map f (find (λ x. test (f x)) xs)
find-fields f test [] = refl
find-fields f test (x ∷ xs) = by_test f x (test (f x)) _ _ (find-fields f test xs)

repeat-fields_from : {X Y : Type 0} (f : X → Y) (repeats : Y → Y → Bool) (earlier later : List X)
    → first_repeat repeats (map f earlier) (map f later) ≡ option_map (λ (p : X × X). pair (f p.0) (f p.1)) (first_repeat (λ a b. repeats (f a) (f b)) earlier later)
repeat-fields_from f repeats earlier [] = refl
repeat-fields_from f repeats earlier (x ∷ later) =
    rw (find-fields f (λ a. repeats a (f x)) earlier, map-append-one f earlier x, repeat-fields_from f repeats (earlier ++ x ∷ []) later)
    (both_mapped f x (find (λ a. repeats (f a) (f x)) earlier) _)

-- an item that isn't found isn't there
none_first : {X : Type 0} (t : Bool) (x : X) (rest : Option X) → cond t (Some x) rest ≡ None → (t ≡ false) × (rest ≡ None)
none_first true x rest none = cc
none_first false x rest none = (refl, none)

find_none : {X : Type 0} (p : X → Bool) (xs : List X) (i : ℕ) (d : X) → find p xs ≡ None → i < length xs → p (get_or xs i d) ≡ false
find_none p [] i d none short = absurd (omega arith)
find_none p (x ∷ xs) zero d none short = (none_first (p x) x (find p xs) none).0
find_none p (x ∷ xs) (suc i) d none short = find_none p xs i d (none_first (p x) x (find p xs) none).1 (omega arith)

neither : {T U : Type 0} (f : T → U) (a : Option T) (b : Option U) → option_or (option_map f a) b ≡ None → (a ≡ None) × (b ≡ None)
neither f None b none = (refl, none)
neither f (Some x) b none = cc

-- no repeat: none repeats an earlier one
no_repeats_from : {X : Type 0} (repeats : X → X → Bool) (earlier later : List X) → first_repeat repeats earlier later ≡ None
    → (i j : ℕ) (d : X) → i < j → length earlier ≤ j → j < length (earlier ++ later)
    → repeats (get_or (earlier ++ later) i d) (get_or (earlier ++ later) j d) ≡ false
no_repeats_from repeats earlier [] none i j d before from short = absurd (omega (arith, length-append earlier []))
no_repeats_from {X} repeats earlier (x ∷ later) none i j d before from short =
    let parts : (find (λ a. repeats a x) earlier ≡ None) × (first_repeat repeats (earlier ++ x ∷ []) later ≡ None) = neither (λ (a : X). pair a x) _ _ none in
    elim (cases_order j (length earlier)) [
      | inl here ↦ let first : i < length earlier = omega arith in rw (here, get_or-append_seam earlier x later d, get_or_append_left earlier (x ∷ later) d i first) (find_none (λ (a : X). repeats a x) earlier i d parts.0 first)
      | inr other ↦ elim other [
        | inl below ↦ absurd (omega arith)
        | inr behind ↦
            let longer : length (earlier ++ x ∷ []) ≤ j = rw length-append (omega arith) in
            let shorter : j < length ((earlier ++ x ∷ []) ++ later) = rw append_assoc short in
            rw append_assoc at (no_repeats_from repeats (earlier ++ x ∷ []) later parts.1 i j d before longer shorter)
      ]
    ]

pub no_repeats : {X : Type 0} (repeats : X → X → Bool) (xs : List X) → first_repeat repeats [] xs ≡ None
    → (i j : ℕ) (d : X) → i < j → j < length xs → repeats (get_or xs i d) (get_or xs j d) ≡ false
no_repeats repeats xs none i j d before short = no_repeats_from repeats [] xs none i j d before (omega arith) short

-- the refusals of a list of modes
pub past_limit : (modes : List Mode) → 1024 < length modes → list_refusal (map mode_fields modes) ≡ Some (Range 0 key.Mode)
unfolding list_refusal
past_limit modes past = rw (length-map modes mode_fields, lt-ltb 1024 (length modes) past)

pub refused_twice : (modes : List Mode) (a b : Mode) → length modes ≤ 1024
    → Some (pair a b) ≡ first_repeat (λ (x y : Mode). bytes_eq x.name y.name) [] modes
    → list_refusal (map mode_fields modes) ≡ Some (Twice b.name)
unfolding list_refusal twice_among
refused_twice modes a b short twice =
    rw (length-map modes mode_fields, le-ltb 1024 (length modes) short, repeat-fields_from mode_fields has_same_name [] modes, ← twice)

pub refused_ambiguous : (modes : List Mode) (a b : Mode) → length modes ≤ 1024
    → None ≡ first_repeat (λ (x y : Mode). bytes_eq x.name y.name) [] modes
    → Some (pair a b) ≡ first_repeat (λ (x y : Mode). are_same_terms (mode_terms x) (mode_terms y)) [] modes
    → list_refusal (map mode_fields modes) ≡ Some (Ambiguous a.name b.name)
unfolding list_refusal twice_among ambiguous_among
refused_ambiguous modes a b short once twice =
    rw (length-map modes mode_fields, le-ltb 1024 (length modes) short, repeat-fields_from mode_fields has_same_name [] modes, ← once, repeat-fields_from mode_fields has_same_terms [] modes, ← twice)

pub not_refused : (modes : List Mode) → length modes ≤ 1024
    → None ≡ first_repeat (λ (x y : Mode). bytes_eq x.name y.name) [] modes
    → None ≡ first_repeat (λ (x y : Mode). are_same_terms (mode_terms x) (mode_terms y)) [] modes
    → list_refusal (map mode_fields modes) ≡ None
unfolding list_refusal twice_among ambiguous_among
not_refused modes short once apart =
    rw (length-map modes mode_fields, le-ltb 1024 (length modes) short, repeat-fields_from mode_fields has_same_name [] modes, ← once, repeat-fields_from mode_fields has_same_terms [] modes, ← apart)

pub are_modes : (modes : List Mode) → length modes ≤ 1024
    → None ≡ first_repeat (λ (x y : Mode). bytes_eq x.name y.name) [] modes
    → None ≡ first_repeat (λ (x y : Mode). are_same_terms (mode_terms x) (mode_terms y)) [] modes
    → AreModes modes
are_modes modes short once apart = record {
  counted = short;
  named = λ i j d before within e. both_ways _ (no_repeats (λ (x y : Mode). bytes_eq x.name y.name) modes (sym once) i j d before within) ((bytes_eq-Decides _ _).1 e);
  apart = λ i j d before within e. both_ways _ (no_repeats (λ (x y : Mode). are_same_terms (mode_terms x) (mode_terms y)) modes (sym apart) i j d before within) ((decides_terms _ _).1 e);
}

-- the item that is found passes
pass_head : {X : Type 0} (p : X → Bool) (t : Bool) (y x : X) (rest : Option X) → p y ≡ t → (rest ≡ Some x → p x ≡ true) → cond t (Some y) rest ≡ Some x → p x ≡ true
pass_head p true y x rest is more found = let same : y ≡ x = cc in rw (← same) is
pass_head p false y x rest is more found = more found

found_passes : {X : Type 0} (p : X → Bool) (xs : List X) (x : X) → find p xs ≡ Some x → p x ≡ true
found_passes p [] x found = cc
found_passes p (y ∷ xs) x found = pass_head p (p y) y x (find p xs) refl (found_passes p xs x) found

pub found_matches : (r : Option (Bor Mode)) (modes : List Mode) (header : UserHeader) → option_copied r ≡ mode_of modes header → IfSome r (λ mode. Matches mode.now header)
unfolding mode_of
found_matches None modes header is = tt
found_matches (Some mode) modes header is =
    (decides_terms (mode_terms mode.now) (header_terms header)).0 (found_passes (λ (m : Mode). are_same_terms (mode_terms m) (header_terms header)) modes mode.now (sym is))

pub none_matches : (r : Option (Bor Mode)) (modes : List Mode) (header : UserHeader) → option_copied r ≡ mode_of modes header
    → IfNone r (AllWithin (λ (mode : Mode). ¬ Matches mode header) modes 0 (length modes))
unfolding mode_of
none_matches (Some mode) modes header is = tt
none_matches None modes header is =
    λ k d _ short same. both_ways _ (find_none (λ (m : Mode). are_same_terms (mode_terms m) (header_terms header)) modes k d (sym is) short) ((decides_terms _ _).1 same)

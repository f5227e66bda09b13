-- Lemmas on rows of values by name, over plain lists.
use Rattle.std.proofs.Common.{◌≡◌, ◌≢◌, ℕ, ◌<◌, ◌≤◌, nat_lt, Bool, true, false, List, [], ◌∷◌, ◌++◌, length, get_or, set, Option, None, Some, refl, sym, ◌∙◌, ap, inl, inr, arith, Bor}
use Rattle.std.specs.Prelude.{option_map, option_copied, is_some, IsSome, position, bytes_eq}
use Rattle.std.specs.List.{find, position_or_len, slice_get}
use Rattle.std.specs.Option.{option_or}
use Rattle.std.proofs.lemmas.Bool.{cases_Bool}
use Rattle.std.proofs.lemmas.Bool.Decides.{nat_tests}
use Rattle.std.proofs.lemmas.List.Folds.{find-set, find_past, find_at, find-append}
use Rattle.std.proofs.lemmas.List.Sums.{passes_at_first}
use Rattle.std.proofs.lemmas.Option.{slice_get_past, slice_get-get_or}
use Rattle.std.proofs.lemmas.Slice.Eq.{bytes_eq-Decides}
use Rattle.as4_host.specs.declared.table.Row.{Row}
use Rattle.as4_host.specs.Rows.{value_at, GetsRow}

abbrev has_name : {T : Type 0} → List ℕ → Row T → Bool
has_name name row = bytes_eq row.name name

abbrev value : {T : Type 0} → Row T → T
value row = row.value

-- ---- the row of a name

-- the place of the first that passes
position_is : {X : Type 0} (p : X → Bool) (xs : List X) (i : ℕ) → position p xs ≡ Some i → (i ≡ position_or_len p xs) × (i < length xs)
position_is p xs i is = elim (cases_Bool (nat_lt (position_or_len p xs) (length xs))) [
  | inl below ↦
      let found : Some (position_or_len p xs) ≡ Some i = rw below at is in
      (cc, grind (arith, nat_tests))
  | inr past ↦
      let none : None ≡ Some i = rw past at is in
      absurd (cc)
]

not_both : (b : Bool) → b ≡ true → b ≡ false → ⊥
not_both b is is_not = cc

-- names that differ are told apart
differ : (name n : List ℕ) → n ≢ name → bytes_eq name n ≡ false
differ name n other = elim (cases_Bool (bytes_eq name n)) [
  | inl same ↦ absurd (other (sym ((bytes_eq-Decides name n).0 same)))
  | inr not_same ↦ not_same
]

-- the row at the first place of a name has that name
first_name : {T : Type 0} (rows : List (Row T)) (name : List ℕ) (at : ℕ) (d : Row T) → position (has_name name) rows ≡ Some at → (get_or rows at d).name ≡ name
first_name rows name at d is =
    let place = position_is (has_name name) rows at is in
    let within : position_or_len (has_name name) rows < length rows = rw (sym place.0) place.1 in
    let passes : bytes_eq (get_or rows at d).name name ≡ true = rw place.0 (passes_at_first (has_name name) rows d within) in
    (bytes_eq-Decides (get_or rows at d).name name).0 passes

-- the value at the first place of a name is the name's
pub value_there : {T : Type 0} (rows : List (Row T)) (name : List ℕ) (at : ℕ) (d : Row T) → position (has_name name) rows ≡ Some at → value_at rows name ≡ Some (get_or rows at d).value
value_there rows name at d is =
    let place = position_is (has_name name) rows at is in
    let here : slice_get rows (position_or_len (has_name name) rows) ≡ Some (get_or rows at d) = rw (sym place.0) (slice_get-get_or rows at d place.1) in
    ap (option_map value) (find_at (has_name name) rows ∙ here)

-- a name without a place has no value
pub value_nowhere : {T : Type 0} (rows : List (Row T)) (name : List ℕ) → position (has_name name) rows ≡ None → value_at rows name ≡ None
value_nowhere rows name is = elim (cases_Bool (nat_lt (position_or_len (has_name name) rows) (length rows))) [
  | inl below ↦
      let found : Some (position_or_len (has_name name) rows) ≡ None = rw below at is in
      absurd (cc)
  | inr past ↦
      let end : length rows ≤ position_or_len (has_name name) rows = grind (arith, nat_tests) in
      ap (option_map value) (find_at (has_name name) rows ∙ slice_get_past rows (position_or_len (has_name name) rows) end)
]

-- ---- another value in its place

-- the name has it
pub replaced_there : {T : Type 0} (rows : List (Row T)) (name : List ℕ) (at : ℕ) (row d : Row T) → position (has_name name) rows ≡ Some at → row.name ≡ (get_or rows at d).name → value_at (set rows at row) name ≡ Some row.value
replaced_there rows name at row d is same =
    let place = position_is (has_name name) rows at is in
    let passes = (bytes_eq-Decides row.name name).1 (same ∙ first_name rows name at d is) in
    ap (option_map value) (find-set (has_name name) rows at row place.0 place.1 passes)

-- the other names keep theirs
pub replaced_elsewhere : {T : Type 0} (rows : List (Row T)) (name n : List ℕ) (at : ℕ) (row d : Row T) → position (has_name name) rows ≡ Some at → row.name ≡ (get_or rows at d).name → n ≢ name → value_at (set rows at row) n ≡ value_at rows n
replaced_elsewhere rows name n at row d is same other =
    let named = first_name rows name at d is in
    let fails_there : bytes_eq (get_or rows at d).name n ≡ false = rw named (differ name n other) in
    let fails : bytes_eq row.name n ≡ false = rw (same ∙ named) (differ name n other) in
    ap (option_map value) (find_past (has_name n) rows at row d fails_there fails)

-- and no name loses its row
pub replaced_rows : {T : Type 0} (rows : List (Row T)) (name : List ℕ) (at : ℕ) (row d : Row T) → position (has_name name) rows ≡ Some at → row.name ≡ (get_or rows at d).name → (n : List ℕ) → is_some (value_at (set rows at row) n) ≡ is_some (value_at rows n)
replaced_rows rows name at row d is same n = elim (cases_Bool (bytes_eq n name)) [
  | inl equal ↦
      let named = (bytes_eq-Decides n name).0 equal in
      rw named (ap is_some (replaced_there rows name at row d is same) ∙ sym (ap is_some (value_there rows name at d is)))
  | inr other ↦
      let differs : n ≢ name = λ equal. not_both (bytes_eq n name) ((bytes_eq-Decides n name).1 equal) other in
      ap is_some (replaced_elsewhere rows name n at row d is same differs)
]

-- ---- another row

-- a look-up that finds nothing
pub finds_none : {T : Type 0} (found : Option (Bor T)) (value : Option T) → is_some found ≡ false → option_copied found ≡ value → value ≡ None
finds_none None value none is = sym is
finds_none (Some found) value none is = absurd (cc)

or_none : {X : Type 0} (o : Option X) → option_or o None ≡ o
or_none None = refl
or_none (Some x) = refl

no_row : {X Y : Type 0} (f : X → Y) (row : Option X) → option_map f row ≡ None → row ≡ None
no_row f None is = refl
no_row f (Some row) is = absurd (cc)

-- a row that is added gives its name its value, and changes nothing else
pushed : {T : Type 0} (rows : List (Row T)) (row : Row T) → value_at rows row.name ≡ None → GetsRow row.value (value_at rows) (value_at (rows ++ row ∷ []))
pushed rows row none n = elim (cases_Bool (bytes_eq row.name n)) [
  | inl same ↦
      let named = (bytes_eq-Decides row.name n).0 same in
      let without : value_at rows n ≡ None = rw named at none in
      let nowhere = no_row value (find (has_name n) rows) without in
      let added : option_or (find (has_name n) rows) (find (has_name n) (row ∷ [])) ≡ Some row = rw (nowhere, same) refl in
      inr (without, ap (option_map value) (find-append (has_name n) rows (row ∷ []) ∙ added))
  | inr other ↦
      let kept : option_or (find (has_name n) rows) (find (has_name n) (row ∷ [])) ≡ find (has_name n) rows = rw other (or_none (find (has_name n) rows)) in
      inl (ap (option_map value) (find-append (has_name n) rows (row ∷ []) ∙ kept))
]

-- the name of an added row has a value
pushed_there : {T : Type 0} (rows : List (Row T)) (row : Row T) → value_at rows row.name ≡ None → IsSome (value_at (rows ++ row ∷ []) row.name)
pushed_there rows row none =
    let passes = (bytes_eq-Decides row.name row.name).1 refl in
    let nowhere = no_row value (find (has_name row.name) rows) none in
    let added : option_or (find (has_name row.name) rows) (find (has_name row.name) (row ∷ [])) ≡ Some row = rw (nowhere, passes) refl in
    ap is_some (ap (option_map value) (find-append (has_name row.name) rows (row ∷ []) ∙ added))

-- rows with one more, of a name that has had none
pub added : {T : Type 0} (rows new : List (Row T)) (row : Row T) (name : List ℕ) → new ≡ rows ++ row ∷ [] → row.name ≡ name → value_at rows name ≡ None → IsSome (value_at new name) × GetsRow row.value (value_at rows) (value_at new)
added rows new row name is named none =
    let without : value_at rows row.name ≡ None = rw named none in
    let there : IsSome (value_at new name) = rw (is, sym named) (pushed_there rows row without) in
    (there, rw is (pushed rows row without))

-- ---- rows that names get

absurd_some : {T : Type 0} (o : Option T) (value : T) → o ≡ None → o ≡ Some value → ⊥
absurd_some o value none some = cc

-- names that get their row in two steps
pub gets_then : {T : Type 0} (value : T) (old mid new : List ℕ → Option T) → GetsRow value old mid → GetsRow value mid new → GetsRow value old new
gets_then value old mid new first next n = elim (first n) [
  | inl same ↦ elim (next n) [
    | inl still ↦ inl (still ∙ same)
    | inr got ↦ inr (sym same ∙ got.0, got.1)
  ]
  | inr got ↦ elim (next n) [
    | inl still ↦ inr (got.0, still ∙ got.1)
    | inr again ↦ absurd (absurd_some (mid n) value again.0 got.1)
  ]
]

-- a name that has a row keeps it
pub gets_keeps : {T : Type 0} (value : T) (old new : List ℕ → Option T) → GetsRow value old new → (n : List ℕ) → IsSome (old n) → IsSome (new n)
gets_keeps value old new gets n some = elim (gets n) [
  | inl same ↦ ap is_some same ∙ some
  | inr got ↦ ap is_some got.1
]

-- the same with an equal value
pub gets_as : {T : Type 0} (value other : T) (old new : List ℕ → Option T) → value ≡ other → GetsRow value old new → GetsRow other old new
gets_as value other old new same gets n = elim (gets n) [
  | inl kept ↦ inl kept
  | inr got ↦ inr (got.0, got.1 ∙ ap Some same)
]

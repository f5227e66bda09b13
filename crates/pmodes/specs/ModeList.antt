-- Which modes may be in one list: this handler's own rule.
use Rattle.std.specs.Prelude.{◌≢◌, ◌≤◌, List, [], ◌∷◌, ◌++◌, Bool, nat_lt, if◌then◌else◌, Option, Some, None, option_map, length}
use Rattle.std.specs.List.{AllPairs, find}
use Rattle.std.specs.Option.{option_or}
use Rattle.std.specs.Str.{bytes_eq}
use Rattle.mode_values.specs.ModeFields.{ModeFields}
use Rattle.mode_values.specs.ModeMatch.{terms_of, mode_terms, are_same_terms}
use Rattle.mode_values.specs.declared.mode.Mode.{Mode}
use Rattle.pmodes.specs.declared.refusal.Key.TheVariants as key
use Rattle.pmodes.specs.declared.refusal.ModeRefusal.{ModeRefusal}
use Rattle.pmodes.specs.declared.refusal.ModeRefusal.TheVariants.{Range, Twice, Ambiguous}

-- the first of `later` that repeats an earlier one, with the first one that it repeats; `earlier` precedes `later`
abbrev pub first_repeat : {X : Type 0} → (X → X → Bool) → List X → List X → Option (X × X)
first_repeat repeats earlier [] = None
first_repeat repeats earlier (x ∷ later) =
    option_or (option_map (λ a. (a, x)) (find (λ a. repeats a x) earlier)) (first_repeat repeats (earlier ++ x ∷ []) later)

abbrev pub has_same_name : ModeFields → ModeFields → Bool
has_same_name a b = bytes_eq a.name b.name

abbrev pub has_same_terms : ModeFields → ModeFields → Bool
has_same_terms a b = are_same_terms (terms_of a) (terms_of b)

-- two modes with the same name, if there are any
unfoldable pub twice_among : List ModeFields → Option ModeRefusal
twice_among modes = option_map (λ (p : ModeFields × ModeFields). Twice p.1.name) (first_repeat has_same_name [] modes)

-- two modes that the same messages belong to, if there are any
unfoldable pub ambiguous_among : List ModeFields → Option ModeRefusal
ambiguous_among modes =
    option_map (λ (p : ModeFields × ModeFields). Ambiguous p.0.name p.1.name) (first_repeat has_same_terms [] modes)

-- why these are refused as one list
unfoldable pub list_refusal : List ModeFields → Option ModeRefusal
list_refusal modes =
    if nat_lt 1024 (length modes) then Some (Range 0 key.Mode)
    else option_or (twice_among modes) (ambiguous_among modes)

-- the modes of one list: no two have the same name, and no message belongs to two
pub record AreModes (modes : List Mode) : Type 0 where
  pub counted : length modes ≤ 1024
  pub named : AllPairs (λ a b. a.name ≢ b.name) modes
  pub apart : AllPairs (λ a b. mode_terms a ≢ mode_terms b) modes

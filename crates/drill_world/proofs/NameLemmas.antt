-- The conversation of a drill is plain text, and a mode of a new name may join the others.
use Rattle.std.proofs.Common.{◌≡◌, ◌≢◌, inl, inr, ℕ, zero, suc, ◌<◌, ◌≤◌, List, [], ◌∷◌, ◌++◌, true, false, length, length-append, refl, sym, ◌∙◌, subst, arith}
use Rattle.std.specs.Prelude.{IsTrue, Option, codes}
use Rattle.std.specs.List.{All, AllPairs, list_any}
use Rattle.std.specs.Str.{bytes_eq}
use Rattle.std.proofs.Math.Nat.{eq-or-lt_of_le}
use Rattle.std.proofs.Math.Seq.{get_or-append_seam}
use Rattle.std.proofs.lemmas.Bool.{or_parts}
use Rattle.std.proofs.lemmas.List.{get_or_append_left}
use Rattle.std.proofs.lemmas.List.Elements.{All-append}
use Rattle.std.proofs.lemmas.Slice.Eq.{bytes_eq-Decides}
use Rattle.as4_values.specs.PlainTexts.{IsPlainText}
use Rattle.mode_values.specs.declared.mode.Mode.{Mode}
use Rattle.drill_script.specs.LineText.{is_name}
use Rattle.drill_script.specs.declared.line.LinkName.{LinkName}
use Rattle.drill_script.specs.declared.line.Way.{Way}
use Rattle.drill_texts.specs.Modes.{AreDrillModes, IsDrillMode, IsSomeDrillMode}
use Rattle.drill_texts.proofs.ModeLemmas.{name_is_plain}

c_is_name : IsTrue (is_name (codes "c"))
unfolding is_name
c_is_name = refl

-- the conversation of a drill
pub c_is_plain : IsPlainText (codes "c")
c_is_plain = name_is_plain (codes "c") c_is_name

-- none of the modes has this name
unnamed : (modes : List Mode) (name : List ℕ) → list_any (λ (mode : Mode). bytes_eq mode.name name) modes ≡ false
    → All (λ (mode : Mode). mode.name ≢ name) modes
unnamed [] name none k d within = absurd (omega arith)
unnamed (mode ∷ modes) name none zero d within =
    let parts = or_parts (bytes_eq mode.name name) (list_any (λ (m : Mode). bytes_eq m.name name) modes) none in
    λ same. (let yes : bytes_eq mode.name name ≡ true = (bytes_eq-Decides mode.name name).1 same in
    absurd (cc (yes, parts.0)))
unnamed (mode ∷ modes) name none (suc k) d within =
    let parts = or_parts (bytes_eq mode.name name) (list_any (λ (m : Mode). bytes_eq m.name name) modes) none in
    unnamed modes name parts.1 k d (omega arith)

one_made : (mode : Mode) → IsSomeDrillMode mode → All IsSomeDrillMode (mode ∷ [])
one_made mode is zero d short = is
one_made mode is (suc k) d short = absurd (omega arith)

within_more : (modes : List Mode) (mode : Mode) (j : ℕ) → j < length (modes ++ mode ∷ []) → j ≤ length modes
within_more modes mode j short = omega (arith, length-append modes (mode ∷ []))

more_named : (modes : List Mode) (mode : Mode) → AllPairs (λ (a b : Mode). a.name ≢ b.name) modes
    → All (λ (other : Mode). other.name ≢ mode.name) modes → AllPairs (λ (a b : Mode). a.name ≢ b.name) (modes ++ mode ∷ [])
more_named modes mode apart new i j d before short =
    elim (eq-or-lt_of_le (within_more modes mode j short)) [
      | inr low ↦ (let below : i < length modes = omega (arith, low) in
          rw (get_or_append_left modes (mode ∷ []) d i below, get_or_append_left modes (mode ∷ []) d j low) (apart i j d before low))
      | inl last ↦ (let below : i < length modes = omega (arith, last, before) in
          rw (last, get_or-append_seam modes mode [] d, get_or_append_left modes (mode ∷ []) d i below) (new i d below))
    ]

-- modes, and one of a new name
pub modes_more : (modes more : List Mode) (link : Option LinkName) (name : List ℕ) (way : Way) (retries period : ℕ) (mode : Mode) → AreDrillModes modes → length modes < 1024
    → list_any (λ (m : Mode). bytes_eq m.name name) modes ≡ false → IsDrillMode link name way retries period mode → more ≡ modes ++ mode ∷ []
    → AreDrillModes more
modes_more modes more link name way retries period mode are few new is whole =
    subst AreDrillModes (sym whole) (record {
      counted = omega (arith, length-append modes (mode ∷ []));
      made = All-append IsSomeDrillMode modes (mode ∷ []) are.made (one_made mode (link, name, way, retries, period, is));
      named = more_named modes mode are.named
          (λ k d within same. unnamed modes name new k d within (same ∙ is.named));
    })

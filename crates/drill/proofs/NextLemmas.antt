-- What stands next in a script.
use Rattle.std.proofs.Common.{◌≡◌, ◌≢◌, ℕ, ◌+◌, ◌<◌, ◌≤◌, List, ◌∷◌, ◌++◌, length, take, Option, None, Some, IsTrue, sym, ◌∙◌, ap, subst, arith, append_assoc, length-append}
use Rattle.as4_flow.specs.Flow.{Told, before}
use Rattle.drill.specs.Next.{HoldsNoLine}
use Rattle.byte_forms.specs.Parted.{Lacks, parted}
use Rattle.drill_script.specs.Lines.{BeginsLong}
use Rattle.drill_script.specs.LineText.{line_text, is_line, line_limit}
use Rattle.drill_script.specs.declared.line.Line.{Line}
use Rattle.drill_script.proofs.FrontLemmas.{lacking_front}
use Rattle.byte_forms.proofs.PartedLemmas.{Lacks_unparted, one_cut}
use Rattle.drill.proofs.UnbrokenLemmas.{line_unbroken}

-- bytes without an LF hold no line
pub unended_holds : (whole : Option (List ℕ)) → Told whole (λ bytes. (0 < length bytes) × Lacks 10 bytes) → Told whole HoldsNoLine
unended_holds whole unended bytes is =
    let u = unended bytes is in
    (u.0, λ line more parts small. absurd (Lacks_unparted 10 bytes (line_text line) more u.1 parts))

long_line : (bytes text more : List ℕ) → bytes ≡ text ++ 10 ∷ more → Lacks 10 (take (line_limit + 1) bytes) → line_limit < length text
long_line bytes text more parts lacks =
    let long : line_limit + 1 ≤ length text =
    lacking_front (line_limit + 1) text more (subst (λ (l : List ℕ). Lacks 10 (take (line_limit + 1) l)) parts lacks) in
    omega arith

-- bytes that are long before the first LF hold no line within the limit
pub too_long_holds : (whole : Option (List ℕ)) → Told whole BeginsLong → Told whole HoldsNoLine
unfolding BeginsLong
too_long_holds whole long bytes is =
    let l = long bytes is in
    (omega (arith, l.0), λ line more parts small. long_line bytes (line_text line) more parts l.1)

-- bytes up to an LF that spell no line hold none
unread_holds : (bytes front rest : List ℕ) → bytes ≡ parted 10 front rest → Lacks 10 front
    → ((line : Line) → IsTrue (is_line line) → front ≢ line_text line) → HoldsNoLine bytes
unread_holds bytes front rest parts lacks none = (
  omega (arith, ap length parts, length-append front (10 ∷ rest)),
  λ line more is small. absurd (none line small (one_cut 10 front rest (line_text line) more (sym parts ∙ is) lacks (line_unbroken line small)).0),
)

pub unread_told : (whole left : Option (List ℕ)) (front held : List ℕ) → whole ≡ before (parted 10 front held) left → Lacks 10 front
    → ((line : Line) → IsTrue (is_line line) → front ≢ line_text line) → Told whole HoldsNoLine
unread_told whole None front held came lacks none bytes is = absurd cc
unread_told whole (Some left) front held came lacks none bytes is =
    let parts : bytes ≡ parted 10 front held ++ left = cc in
    unread_holds bytes front (held ++ left) (parts ∙ append_assoc front (10 ∷ held) left) lacks none

-- A line has no LF.
use Rattle.std.proofs.Common.{◌≡◌, ◌≢◌, ℕ, ◌/◌, ◌%◌, ◌^◌, ◌<◌, ◌≤◌, ◌&&◌, true, nat_le, nat_lt, None, Some, List, [], ◌∷◌, length, IsTrue, codes, refl, sym, subst, arith}
use Rattle.std.specs.Char.{digit_value}
use Rattle.std.specs.Fmt.{decimal}
use Rattle.std.specs.List.{list_all}
use Rattle.std.specs.Str.Parse.{AllDigits}
use Rattle.std.proofs.lemmas.Bool.{and_parts, leb-true, lt-ltb, ltb-true}
use Rattle.std.proofs.lemmas.Bool.Decides.{nat_tests}
use Rattle.std.proofs.lemmas.Fmt.{decimal_is_IsNumeral}
use Rattle.as4_disk.specs.declared.change.Pick.{Pick}
use Rattle.as4_disk.specs.declared.change.Pick.TheVariants as pick
use Rattle.byte_forms.specs.Digits.{hex_digit}
use Rattle.drill_script.specs.Lacking.{spaced}
use Rattle.byte_forms.specs.Parted.{Lacks}
use Rattle.drill_script.specs.LineText.{line_text, is_line, is_drill_byte, is_name, is_load, is_stoppable, end_text, link_text, way_text, pick_text, load_text, hex_text, stoppable_text}
use Rattle.drill_script.specs.declared.line.EndName.{EndName}
use Rattle.drill_script.specs.declared.line.EndName.TheVariants.{A, B, First, Hub, Last}
use Rattle.drill_script.specs.declared.line.LinkName.{LinkName}
use Rattle.drill_script.specs.declared.line.LinkName.TheVariants.{Front, Rear}
use Rattle.drill_script.specs.declared.line.Line.{Line}
use Rattle.drill_script.specs.declared.line.Line.TheVariants as line
use Rattle.drill_script.specs.declared.line.ScriptLoad.{ScriptLoad}
use Rattle.drill_script.specs.declared.line.ScriptLoad.TheVariants.{Nothing, Hex, Size}
use Rattle.drill_script.specs.declared.line.Stoppable.{Stoppable}
use Rattle.drill_script.specs.declared.line.Stoppable.TheVariants as run
use Rattle.drill_script.specs.declared.line.Way.{Way}
use Rattle.drill_script.specs.declared.line.Way.TheVariants.{Push, Pull}
use Rattle.byte_forms.proofs.PartedLemmas.{Lacks_none, Lacks_more, Lacks_append, Lacks_tested}
use Rattle.drill_script.proofs.LineLemmas.{stop_tail}

-- words parted by a space
spaced_unbroken : (front rest : List ℕ) → Lacks 10 front → Lacks 10 rest → Lacks 10 (spaced front rest)
spaced_unbroken front rest first second = Lacks_append 10 front (32 ∷ rest) first (Lacks_more 10 32 rest (λ is. omega (arith, is)) second)

end_unbroken : (end : EndName) → Lacks 10 (end_text end)
end_unbroken A = Lacks_tested 10 _ refl
end_unbroken B = Lacks_tested 10 _ refl
end_unbroken First = Lacks_tested 10 _ refl
end_unbroken Hub = Lacks_tested 10 _ refl
end_unbroken Last = Lacks_tested 10 _ refl

way_unbroken : (way : Way) → Lacks 10 (way_text way)
way_unbroken Push = Lacks_tested 10 _ refl
way_unbroken Pull = Lacks_tested 10 _ refl

pick_unbroken : (pick : Pick) → Lacks 10 (pick_text pick)
pick_unbroken pick.Old = Lacks_tested 10 _ refl
pick_unbroken pick.New = Lacks_tested 10 _ refl
pick_unbroken pick.Other = Lacks_tested 10 _ refl

digits_unbroken : (digits : List ℕ) → AllDigits 10 digits → Lacks 10 digits
digits_unbroken [] each = Lacks_none 10
digits_unbroken (d ∷ digits) each =
    Lacks_more 10 d digits
    (λ (is : d ≡ 10). let low : digit_value 10 < 10 = subst (λ (d : ℕ). digit_value d < 10) is each.0 in omega arith)
    (digits_unbroken digits each.1)

decimal_unbroken : (n : ℕ) → n < 2 ^ 64 → Lacks 10 (decimal n)
decimal_unbroken n small = digits_unbroken (decimal n) (decimal_is_IsNumeral n small).0.1

name_bytes_unbroken : (bytes : List ℕ) → list_all is_drill_byte bytes ≡ true → Lacks 10 bytes
name_bytes_unbroken [] each = Lacks_none 10
name_bytes_unbroken (b ∷ bytes) each =
    let parts = and_parts (is_drill_byte b) (list_all is_drill_byte bytes) each in
    Lacks_more 10 b bytes
    (λ (is : b ≡ 10). let tested : is_drill_byte 10 ≡ true = subst (λ (b : ℕ). is_drill_byte b ≡ true) is parts.0 in cc)
    (name_bytes_unbroken bytes parts.1)

name_unbroken : (name : List ℕ) → IsTrue (is_name name) → Lacks 10 name
unfolding is_name
name_unbroken name named =
    let outer = and_parts (nat_le 1 (length name)) _ named in
    let inner = and_parts (nat_le (length name) 32) (list_all is_drill_byte name) outer.1 in
    name_bytes_unbroken name inner.1

hex_digit_unbroken : (n : ℕ) → hex_digit n ≢ 10
hex_digit_unbroken n is = grind (arith, nat_tests)

hex_unbroken : (bytes : List ℕ) → Lacks 10 (hex_text bytes)
unfolding hex_text
hex_unbroken [] = Lacks_none 10
hex_unbroken (b ∷ bytes) =
    Lacks_more 10 (hex_digit (b / 16)) (hex_digit (b % 16) ∷ hex_text bytes) (hex_digit_unbroken (b / 16))
    (Lacks_more 10 (hex_digit (b % 16)) (hex_text bytes) (hex_digit_unbroken (b % 16)) (hex_unbroken bytes))

load_unbroken : (load : ScriptLoad) → IsTrue (is_load load) → Lacks 10 (load_text load)
unfolding load_text
load_unbroken Nothing small = Lacks_tested 10 _ refl
load_unbroken (Hex bytes) small = Lacks_append 10 (codes "hex=") (hex_text bytes) (Lacks_tested 10 _ refl) (hex_unbroken bytes)
load_unbroken (Size size) small =
    let low : size ≤ 16777216 = leb-true size 16777216 small in
    Lacks_append 10 (codes "size=") (decimal size) (Lacks_tested 10 _ refl) (decimal_unbroken size (omega arith))

-- a word, an end and a number
counted_unbroken : (word : List ℕ) (end : EndName) (number : ℕ) → Lacks 10 word → IsTrue (nat_lt number (2 ^ 64))
    → Lacks 10 (spaced word (spaced (end_text end) (decimal number)))
counted_unbroken word end number first small =
    spaced_unbroken word (spaced (end_text end) (decimal number)) first
    (spaced_unbroken (end_text end) (decimal number) (end_unbroken end) (decimal_unbroken number (ltb-true number (2 ^ 64) small)))

-- a word, two ends and a number
arrival_unbroken : (word : List ℕ) (end from : EndName) (number : ℕ) → Lacks 10 word → IsTrue (nat_lt number (2 ^ 64))
    → Lacks 10 (spaced word (spaced (end_text end) (spaced (end_text from) (decimal number))))
arrival_unbroken word end from number first small =
    spaced_unbroken word (spaced (end_text end) (spaced (end_text from) (decimal number))) first
    (spaced_unbroken (end_text end) (spaced (end_text from) (decimal number)) (end_unbroken end)
    (spaced_unbroken (end_text from) (decimal number) (end_unbroken from) (decimal_unbroken number (ltb-true number (2 ^ 64) small))))

-- the way of a mode, and its numbers
settings_unbroken : (name : List ℕ) (way : Way) (retries period : ℕ)
    → IsTrue (is_name name && (nat_le retries 1000 && (nat_le 1 period && nat_le period 1000000000)))
    → IsTrue (is_name name) × Lacks 10 (spaced (way_text way) (spaced (decimal retries) (decimal period)))
settings_unbroken name way retries period right =
    let named = and_parts (is_name name) (nat_le retries 1000 && (nat_le 1 period && nat_le period 1000000000)) right in
    let few = and_parts (nat_le retries 1000) (nat_le 1 period && nat_le period 1000000000) named.1 in
    let some = and_parts (nat_le 1 period) (nat_le period 1000000000) few.1 in
    let low : retries ≤ 1000 = leb-true retries 1000 few.0 in
    let short : period ≤ 1000000000 = leb-true period 1000000000 some.1 in (
      named.0,
      spaced_unbroken _ _ (way_unbroken way)
          (spaced_unbroken _ _ (decimal_unbroken retries (omega arith)) (decimal_unbroken period (omega arith))),
    )

mode_unbroken : (name : List ℕ) (way : Way) (retries period : ℕ)
    → IsTrue (is_name name && (nat_le retries 1000 && (nat_le 1 period && nat_le period 1000000000)))
    → Lacks 10 (spaced (codes "mode") (spaced name (spaced (way_text way) (spaced (decimal retries) (decimal period)))))
mode_unbroken name way retries period right =
    let parts = settings_unbroken name way retries period right in
    spaced_unbroken _ _ (Lacks_tested 10 (codes "mode") refl) (spaced_unbroken _ _ (name_unbroken name parts.0) parts.1)

link_unbroken : (link : LinkName) → Lacks 10 (link_text link)
link_unbroken Front = Lacks_tested 10 _ refl
link_unbroken Rear = Lacks_tested 10 _ refl

linked_unbroken : (name : List ℕ) (link : LinkName) (way : Way) (retries period : ℕ)
    → IsTrue (is_name name && (nat_le retries 1000 && (nat_le 1 period && nat_le period 1000000000)))
    → Lacks 10 (spaced (codes "mode") (spaced name (spaced (link_text link) (spaced (way_text way) (spaced (decimal retries) (decimal period))))))
linked_unbroken name link way retries period right =
    let parts = settings_unbroken name way retries period right in
    spaced_unbroken _ _ (Lacks_tested 10 (codes "mode") refl)
    (spaced_unbroken _ _ (name_unbroken name parts.0) (spaced_unbroken _ _ (link_unbroken link) parts.1))

run_unbroken : (said : Stoppable) → IsTrue (is_stoppable said) → Lacks 10 (stoppable_text said)
unfolding is_stoppable
run_unbroken (run.Submit end mode load) right =
    let parts = and_parts (is_name mode) (is_load load) right in
    spaced_unbroken _ _ (Lacks_tested 10 (codes "submit") refl)
    (spaced_unbroken _ _ (end_unbroken end) (spaced_unbroken _ _ (name_unbroken mode parts.0) (load_unbroken load parts.1)))
run_unbroken (run.Tick end moment) right =
    let low : moment ≤ 253402300799999 = leb-true moment 253402300799999 right in
    counted_unbroken (codes "tick") end moment (Lacks_tested 10 _ refl) (lt-ltb moment (2 ^ 64) (omega arith))
run_unbroken (run.Take end) right = spaced_unbroken _ _ (Lacks_tested 10 (codes "take") refl) (end_unbroken end)
run_unbroken (run.Came end None number) right = counted_unbroken (codes "came") end number (Lacks_tested 10 _ refl) right
run_unbroken (run.Came end (Some from) number) right = arrival_unbroken (codes "came") end from number (Lacks_tested 10 _ refl) right
run_unbroken (run.Confirm end number) right = counted_unbroken (codes "confirm") end number (Lacks_tested 10 _ refl) right

pub line_unbroken : (said : Line) → IsTrue (is_line said) → Lacks 10 (line_text said)
unfolding is_line line_text
line_unbroken (line.Mode name None way retries period) right = mode_unbroken name way retries period right
line_unbroken (line.Mode name (Some link) way retries period) right = linked_unbroken name link way retries period right
line_unbroken (line.Run l) right = run_unbroken l right
line_unbroken (line.Ask end mode) right =
    spaced_unbroken _ _ (Lacks_tested 10 (codes "ask") refl) (spaced_unbroken _ _ (end_unbroken end) (name_unbroken mode right))
line_unbroken (line.Pair end mode number) right =
    let parts = and_parts (is_name mode) (nat_lt number (2 ^ 64)) right in
    spaced_unbroken _ _ (Lacks_tested 10 (codes "pair") refl)
    (spaced_unbroken _ _ (end_unbroken end)
    (spaced_unbroken _ _ (name_unbroken mode parts.0) (decimal_unbroken number (ltb-true number (2 ^ 64) parts.1))))
line_unbroken (line.Relay end mode) right =
    spaced_unbroken _ _ (Lacks_tested 10 (codes "relay") refl) (spaced_unbroken _ _ (end_unbroken end) (name_unbroken mode right))
line_unbroken (line.Lost end None number) right = counted_unbroken (codes "lost") end number (Lacks_tested 10 _ refl) right
line_unbroken (line.Lost end (Some from) number) right = arrival_unbroken (codes "lost") end from number (Lacks_tested 10 _ refl) right
line_unbroken (line.Read end number) right = counted_unbroken (codes "read") end number (Lacks_tested 10 _ refl) right
line_unbroken (line.Status end number) right = counted_unbroken (codes "status") end number (Lacks_tested 10 _ refl) right
line_unbroken (line.Crash end) right = spaced_unbroken _ _ (Lacks_tested 10 (codes "crash") refl) (end_unbroken end)
line_unbroken (line.Stop call pick l) right =
    let some = and_parts (nat_le 1 call) (nat_le call 4 && is_stoppable l) right in
    let few = and_parts (nat_le call 4) (is_stoppable l) some.1 in
    let low : call ≤ 4 = leb-true call 4 few.0 in
    spaced_unbroken _ _ (Lacks_tested 10 (codes "stop") refl)
    (subst (Lacks 10) (sym (stop_tail call pick l))
    (spaced_unbroken _ _ (decimal_unbroken call (omega arith)) (spaced_unbroken _ _ (pick_unbroken pick) (run_unbroken l few.1))))
line_unbroken (line.Fold end) right = spaced_unbroken _ _ (Lacks_tested 10 (codes "fold") refl) (end_unbroken end)

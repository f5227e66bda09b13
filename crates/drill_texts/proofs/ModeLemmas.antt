-- The texts of a drill's modes are in range.
use Rattle.std.proofs.Common.{◌≡◌, ℕ, ◌+◌, ◌≤◌, Option, Some, List, [], ◌∷◌, ◌++◌, Bool, true, false, not, ◌&&◌, nat_le, ◌==◌, length, length-append, refl, arith}
use Rattle.std.specs.Prelude.{IsTrue, None, codes, slice_index}
use Rattle.std.specs.List.{list_all}
use Rattle.std.proofs.lemmas.Bool.{and_parts, and_from, le-leb, leb-true}
use Rattle.std.proofs.lemmas.Bool.Decides.{nat_tests}
use Rattle.std.proofs.lemmas.List.Folds.{list_all-append}
use Rattle.std.proofs.lemmas.List.Sums.{AllPass-from_list_all}
use Rattle.as4_values.specs.Address.{is_address, has_address_form, is_behind_scheme, is_behind_host}
use Rattle.mode_values.specs.ModeRanges.{is_name_byte, is_mode_name, is_short, is_short_party, is_short_side, is_short_service, is_mode_agreement, is_mode_route, may_collect}
use Rattle.as4_values.specs.PlainTexts.{IsPlainText, is_plain, allows_at}
use Rattle.as4_values.specs.declared.header.Side.{Side}
use Rattle.as4_values.specs.declared.route.Route.{Route}
use Rattle.as4_values.specs.declared.route.Route.TheVariants as route
use Rattle.drill_script.specs.LineText.{is_drill_byte, is_name}
use Rattle.drill_script.specs.declared.line.LinkName.{LinkName}
use Rattle.drill_script.specs.declared.line.LinkName.TheVariants.{Front, Rear}
use Rattle.drill_script.specs.declared.line.Way.{Way}
use Rattle.drill_script.specs.declared.line.Way.TheVariants.{Push, Pull}
use Rattle.drill_texts.specs.Modes.{IsDrillSide, drill_address, receiver_of, route_of, sender_of}

-- a plain byte other than a space
abbrev pub is_word_byte : ℕ → Bool
is_word_byte b = is_plain b && not (b == 32)

-- 1 to 255 of these bytes
abbrev pub is_word : List ℕ → Bool
is_word bytes = (nat_le 1 (length bytes) && nat_le (length bytes) 255) && list_all is_word_byte bytes

allowed : (bytes : List ℕ) (at : ℕ) → is_word_byte (slice_index bytes at) ≡ true → IsTrue (allows_at bytes at)
allowed bytes at word = grind (arith, nat_tests)

pub word_is_plain : (bytes : List ℕ) → is_word bytes ≡ true → IsPlainText bytes
word_is_plain bytes word =
    let parts = and_parts (nat_le 1 (length bytes) && nat_le (length bytes) 255) (list_all is_word_byte bytes) word in
    let ends = and_parts (nat_le 1 (length bytes)) (nat_le (length bytes) 255) parts.0 in
    let some : 1 ≤ length bytes = leb-true 1 (length bytes) ends.0 in
    let short : length bytes ≤ 255 = leb-true (length bytes) 255 ends.1 in
    record {
      some = omega arith;
      limited = omega arith;
      each = λ at within. allowed bytes at (AllPass-from_list_all is_word_byte bytes parts.1 at 0 within);
    }

record Named (name : List ℕ) : Type 0 where
  some : 1 ≤ length name
  short : length name ≤ 32
  each : list_all is_drill_byte name ≡ true

named_of : (name : List ℕ) → IsTrue (is_name name) → Named name
unfolding is_name
named_of name named =
    let outer = and_parts (nat_le 1 (length name)) _ named in
    let inner = and_parts (nat_le (length name) 32) (list_all is_drill_byte name) outer.1 in
    record { some = leb-true 1 (length name) outer.0; short = leb-true (length name) 32 inner.0; each = inner.1 }

all_more : (p q : ℕ → Bool) → ((b : ℕ) → p b ≡ true → q b ≡ true) → (bytes : List ℕ) → list_all p bytes ≡ true → list_all q bytes ≡ true
all_more p q more [] each = refl
all_more p q more (b ∷ bytes) each =
    let parts = and_parts (p b) (list_all p bytes) each in
    and_from (q b) (list_all q bytes) (more b parts.0) (all_more p q more bytes parts.1)

drill_is_word : (b : ℕ) → is_drill_byte b ≡ true → is_word_byte b ≡ true
drill_is_word b drill = grind (arith, nat_tests)

drill_is_name : (b : ℕ) → is_drill_byte b ≡ true → is_name_byte b ≡ true
drill_is_name b drill = grind (arith, nat_tests)

word_of : (bytes : List ℕ) → 1 ≤ length bytes → length bytes ≤ 255 → list_all is_word_byte bytes ≡ true → is_word bytes ≡ true
word_of bytes some short each =
    and_from (nat_le 1 (length bytes) && nat_le (length bytes) 255) (list_all is_word_byte bytes)
    (and_from (nat_le 1 (length bytes)) (nat_le (length bytes) 255) (le-leb 1 (length bytes) some) (le-leb (length bytes) 255 short))
    each

name_bytes : (name : List ℕ) → IsTrue (is_name name) → list_all is_word_byte name ≡ true
name_bytes name named = all_more is_drill_byte is_word_byte drill_is_word name (named_of name named).each

pub name_is_plain : (name : List ℕ) → IsTrue (is_name name) → IsPlainText name
name_is_plain name named =
    let is = named_of name named in
    let short : length name ≤ 32 = is.short in
    word_is_plain name (word_of name is.some (omega arith) (name_bytes name named))

pub channel_is_plain : (name : List ℕ) → IsTrue (is_name name) → IsPlainText (codes "drill-" ++ name)
channel_is_plain name named =
    let short : length name ≤ 32 = (named_of name named).short in
    let long : length (codes "drill-" ++ name) ≡ 6 + length name = length-append (codes "drill-") name in
    word_is_plain (codes "drill-" ++ name)
    (word_of (codes "drill-" ++ name) (omega arith) (omega arith)
    (rw (list_all-append is_word_byte (codes "drill-") name) (name_bytes name named)))

pub name_is_mode_name : (name : List ℕ) → IsTrue (is_name name) → IsTrue (is_mode_name name)
unfolding is_mode_name
name_is_mode_name name named =
    let is = named_of name named in
    let short : length name ≤ 32 = is.short in
    and_from (nat_le 1 (length name) && nat_le (length name) 64) (list_all is_name_byte name)
    (and_from (nat_le 1 (length name)) (nat_le (length name) 64) (le-leb 1 (length name) is.some) (le-leb (length name) 64 (omega arith)))
    (all_more is_drill_byte is_name_byte drill_is_name name is.each)

pub name_is_short : (name : List ℕ) → IsTrue (is_name name) → IsTrue (is_short name)
unfolding is_short
name_is_short name named =
    let short : length name ≤ 32 = (named_of name named).short in
    le-leb (length name) 255 (omega arith)

pub sender_is_short : (link : Option LinkName) (side : Side) → IsDrillSide (sender_of link) (codes "sender") side → IsTrue (is_short_side side.parties side.role)
unfolding is_short_side is_short_party is_short
sender_is_short None side is = rw (is.party, is.plays) refl
sender_is_short (Some Front) side is = rw (is.party, is.plays) refl
sender_is_short (Some Rear) side is = rw (is.party, is.plays) refl

pub receiver_is_short : (link : Option LinkName) (side : Side) → IsDrillSide (receiver_of link) (codes "receiver") side → IsTrue (is_short_side side.parties side.role)
unfolding is_short_side is_short_party is_short
receiver_is_short None side is = rw (is.party, is.plays) refl
receiver_is_short (Some Front) side is = rw (is.party, is.plays) refl
receiver_is_short (Some Rear) side is = rw (is.party, is.plays) refl

pub service_is_short : (value : List ℕ) → value ≡ codes "drill" → IsTrue (is_short_service (record { value = value; kind = None }))
unfolding is_short_service is_short
service_is_short value is = rw is refl

pub no_agreement : IsTrue (is_mode_agreement None)
unfolding is_mode_agreement
no_agreement = refl

address_is_right : IsTrue (is_address drill_address)
unfolding is_address has_address_form is_behind_scheme is_behind_host
address_is_right = refl

right_route : (name : List ℕ) (way : Way) → IsTrue (is_name name) → IsTrue (is_mode_route (route_of name way))
unfolding is_mode_route is_short
right_route name Push named = address_is_right
right_route name Pull named =
    let short : length name ≤ 32 = (named_of name named).short in
    let long : length (codes "drill-" ++ name) ≡ 6 + length name = length-append (codes "drill-") name in
    and_from (nat_le (length (codes "drill-" ++ name)) 255) (is_address drill_address)
    (le-leb (length (codes "drill-" ++ name)) 255 (omega arith)) address_is_right

pub route_is_right : (name : List ℕ) (way : Way) (over : Route) → IsTrue (is_name name) → over ≡ route_of name way → IsTrue (is_mode_route over)
route_is_right name way over named is = rw is (right_route name way named)

pub never_collects : (over : Route) → IsTrue (may_collect over false)
unfolding may_collect
never_collects (route.Push address) = refl
never_collects (route.Pull mpc address) = refl

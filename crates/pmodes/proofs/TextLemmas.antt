-- The text of a string, as a function and as a relation.
use Rattle.std.proofs.Common.{◌≡◌, ℕ, zero, suc, ◌+◌, ◌-◌, ◌<◌, ◌≤◌, List, [], ◌∷◌, ◌++◌, Bool, true, false, ◌&&◌, cond, Option, Some, None, length, take, drop, get_or, refl, sym, ap, subst, ◌∙◌, inl, inr, arith, append_assoc, length-append}
use Rattle.std.proofs.Math.Seq.{drop-append_seam, take-append_seam}
use Rattle.std.proofs.lemmas.Bool.{both_ways, and_parts, cases_Bool, cases_order, le-leb, leb-true}
use Rattle.std.proofs.lemmas.Bool.Decides.{nat_tests}
use Rattle.std.proofs.lemmas.List.{get_or-take, get_or-drop, get_or_append_left, get_or-append-add, get_or_default, take-append-drop, length-take-le, length-drop, append-nil}
use Rattle.std.proofs.lemmas.List.Sums.{prefix_len_is, prefix_len_passes, prefix_len_stops, prefix_len-le-length, suffix_len_is}
use Rattle.std.proofs.lemmas.Str.Ascii.{encodes-IsAscii, IsAscii-from_reads}
use Rattle.std.specs.Prelude.{Result, Ok, Err, IfOk, IfSome, IfNone, IsTrue, nat_le, slice_index}
use Rattle.std.specs.List.{list_all, prefix_len, suffix_len}
use Rattle.mode_values.specs.ModeRanges.{is_short, is_mode_name, is_name_byte}
use Rattle.as4_values.specs.Texts.{Spells, IsTrimmed, IsBlank, HasCore, is_xml, is_xml_char}
use Rattle.byte_forms.specs.Classes.{is_blank}
use Rattle.as4_values.proofs.XmlTests.{xml_tested, xml_found}
use Rattle.pmodes.specs.Values.{core_of, text_value}

add_zero_right : (n : ℕ) → n + 0 ≡ n
add_zero_right n = omega arith

behind : (core back : List ℕ) → IsBlank back → (k j : ℕ) → k ≡ length core + j → k < length core + length back → is_blank (get_or (core ++ back) k 0) ≡ true
behind core back blank k j at short = rw (at, get_or-append-add core back j 0) (blank j 0 (omega arith) (omega arith))

-- blanks at the beginning
front_len : (front rest : List ℕ) → IsBlank front → 0 < length rest → is_blank (slice_index rest 0) ≡ false → prefix_len is_blank (front ++ rest) ≡ length front
front_len front rest blank some first =
    prefix_len_is is_blank (front ++ rest) (length front) 0 (rw length-append (omega arith))
    (λ k short. rw (get_or_append_left front rest 0 k short) (blank k 0 (omega arith) short))
    (λ _. let at : get_or (front ++ rest) (length front + 0) 0 ≡ get_or rest 0 0 = get_or-append-add front rest 0 0 in rw (← add_zero_right (length front), at) first)

-- blanks at the end
back_len : (core back : List ℕ) → IsBlank back → 0 < length core → is_blank (slice_index core (length core - 1)) ≡ false → suffix_len is_blank (core ++ back) ≡ length (core ++ back) - length core
back_len core back blank some last =
    suffix_len_is is_blank (core ++ back) (length core) 0 (rw length-append (omega arith))
    (λ k from short. behind core back blank k (k - length core) (omega arith) (rw length-append at short))
    (λ _. let short : length core - 1 < length core = omega arith in rw (get_or_append_left core back 0 (length core - 1) short) last)

cut : (n m : ℕ) → m ≤ n → n - (n - m) ≡ m
cut n m short = omega arith

core_is : (front core back : List ℕ) → IsBlank front → IsBlank back → IsTrimmed core → core_of (front ++ (core ++ back)) ≡ core
unfolding core_of
core_is front core back blank_front blank_back trimmed =
    let first : is_blank (slice_index (core ++ back) 0) ≡ false = rw (get_or_append_left core back 0 0 trimmed.some) trimmed.first in
    let some : 0 < length (core ++ back) = rw length-append (omega (arith, trimmed.some)) in
    let short : length core ≤ length (core ++ back) = rw length-append (omega arith) in
    rw (
      front_len front (core ++ back) blank_front some first,
      drop-append_seam front (core ++ back),
      back_len core back blank_back trimmed.some trimmed.last,
      cut (length (core ++ back)) (length core) short,
      take-append_seam core back,
    )

-- a text of at most 255 bytes that the bytes spell is their value
pub value_of_spelled : (bytes text : List ℕ) → Spells bytes text → IsTrue (is_short text) → text_value bytes ≡ Some text
unfolding text_value
value_of_spelled bytes text spelled short =
    let split : bytes ≡ spelled.1.1.0 ++ (text ++ spelled.1.1.1) = spelled.1.1.5 ∙ append_assoc spelled.1.1.0 text spelled.1.1.1 in
    let core : core_of bytes ≡ text = rw split (core_is spelled.1.1.0 text spelled.1.1.1 spelled.1.1.2 spelled.1.1.3 spelled.1.1.4) in
    let some : nat_le 1 (length text) ≡ true = le-leb 1 (length text) spelled.0.trimmed.some in
    rw (core, some, short, xml_tested text spelled.0.spelled)

-- where the blanks at the end begin
pub record EndsAt (bytes : List ℕ) (n : ℕ) : Type 0 where
  pub within : n ≤ length bytes
  pub blank : (k : ℕ) → n ≤ k → k < length bytes → is_blank (get_or bytes k 0) ≡ true
  pub last : 0 < n → is_blank (get_or bytes (n - 1) 0) ≡ false

one_less : (bytes : List ℕ) (n : ℕ) → ((k : ℕ) → suc n ≤ k → k < length bytes → is_blank (get_or bytes k 0) ≡ true) → is_blank (get_or bytes n 0) ≡ true
    → (k : ℕ) → n ≤ k → k < length bytes → is_blank (get_or bytes k 0) ≡ true
one_less bytes n blank here k from short =
    elim (cases_order k n) [
      | inl same ↦ rw same here
      | inr other ↦ elim other [
        | inl below ↦ absurd (omega arith)
        | inr above ↦ blank k (omega arith) short
      ]
    ]

less_one : (n : ℕ) → suc n - 1 ≡ n
less_one n = omega arith

end_below : (bytes : List ℕ) (n : ℕ) → n ≤ length bytes → ((k : ℕ) → n ≤ k → k < length bytes → is_blank (get_or bytes k 0) ≡ true) → (m : ℕ) × EndsAt bytes m
end_below bytes zero within blank = (0, record { within = within; blank = blank; last = λ some. absurd (omega arith) })
end_below bytes (suc n) within blank =
    elim (cases_Bool (is_blank (get_or bytes n 0))) [
      | inl blank_here ↦ end_below bytes n (omega arith) (one_less bytes n blank blank_here)
      | inr none_here ↦ (suc n, record { within = within; blank = blank; last = λ _. rw (less_one n) none_here })
    ]

end_of : (bytes : List ℕ) → (m : ℕ) × EndsAt bytes m
end_of bytes = end_below bytes (length bytes) (omega arith) (λ k from short. absurd (omega arith))

take_within : (bytes : List ℕ) (n : ℕ) → n ≤ length bytes → length (take n bytes) ≡ n
take_within bytes n within = length-take-le n bytes within

front_blank : (bytes : List ℕ) → IsBlank (take (prefix_len is_blank bytes) bytes)
front_blank bytes k d _ short =
    let inside : prefix_len is_blank bytes ≤ length bytes = prefix_len-le-length is_blank bytes in
    let before : k < prefix_len is_blank bytes = rw (take_within bytes (prefix_len is_blank bytes) inside) at short in
    rw (get_or-take (prefix_len is_blank bytes) bytes k d before) (prefix_len_passes is_blank bytes k d before)

back_blank : (bytes : List ℕ) (n : ℕ) → EndsAt bytes n → IsBlank (drop n bytes)
back_blank bytes n ends k d _ short =
    let inside : n + k < length bytes = (let s : k < length bytes - n = rw (length-drop n bytes) at short in omega arith) in
    rw (get_or-drop n bytes k d, get_or_default bytes (n + k) d 0 inside) (ends.blank (n + k) (omega arith) inside)

-- the number of blanks at the end determines where they begin
suffix_at : (bytes : List ℕ) (n : ℕ) → EndsAt bytes n → length bytes - suffix_len is_blank bytes ≡ n
suffix_at bytes n ends =
    let count : suffix_len is_blank bytes ≡ length bytes - n = suffix_len_is is_blank bytes n 0 ends.within ends.blank ends.last in
    rw count (cut (length bytes) n ends.within)

core_with : (bytes : List ℕ) → (n : ℕ) × EndsAt (drop (prefix_len is_blank bytes) bytes) n
core_with bytes = end_of (drop (prefix_len is_blank bytes) bytes)

-- the core is between the blanks
core_between : (bytes : List ℕ) (n : ℕ) → EndsAt (drop (prefix_len is_blank bytes) bytes) n → core_of bytes ≡ take n (drop (prefix_len is_blank bytes) bytes)
unfolding core_of
core_between bytes n ends = rw (suffix_at (drop (prefix_len is_blank bytes) bytes) n ends)

-- and it is trimmed
trimmed_between : (bytes : List ℕ) (n : ℕ) → EndsAt (drop (prefix_len is_blank bytes) bytes) n → 0 < n → IsTrimmed (take n (drop (prefix_len is_blank bytes) bytes))
trimmed_between bytes n ends some =
    let rest : List ℕ = drop (prefix_len is_blank bytes) bytes in
    let long : length (take n (drop (prefix_len is_blank bytes) bytes)) ≡ n = take_within (drop (prefix_len is_blank bytes) bytes) n ends.within in
    let left : n ≤ length bytes - prefix_len is_blank bytes = rw (length-drop (prefix_len is_blank bytes) bytes) at ends.within in
    let at_last : n - 1 < n = omega arith in
    record {
      some = rw long some;
      first = rw (get_or-take n (drop (prefix_len is_blank bytes) bytes) 0 0 some, get_or-drop (prefix_len is_blank bytes) bytes 0 0, add_zero_right (prefix_len is_blank bytes))
          (prefix_len_stops is_blank bytes 0 (omega arith));
      last = rw (long, get_or-take n (drop (prefix_len is_blank bytes) bytes) (n - 1) 0 at_last) (ends.last some);
    }

whole : (bytes : List ℕ) (n : ℕ) → bytes ≡ (take (prefix_len is_blank bytes) bytes ++ take n (drop (prefix_len is_blank bytes) bytes)) ++ drop n (drop (prefix_len is_blank bytes) bytes)
whole bytes n =
    sym (append_assoc (take (prefix_len is_blank bytes) bytes) (take n (drop (prefix_len is_blank bytes) bytes)) (drop n (drop (prefix_len is_blank bytes) bytes))
    ∙ ap (λ (t : List ℕ). take (prefix_len is_blank bytes) bytes ++ t) (take-append-drop n (drop (prefix_len is_blank bytes) bytes))
    ∙ take-append-drop (prefix_len is_blank bytes) bytes)

-- the bytes are blanks, the core and blanks
core_found : (bytes : List ℕ) (n : ℕ) → EndsAt (drop (prefix_len is_blank bytes) bytes) n → 0 < n
    → (at : ℕ) × HasCore bytes (take n (drop (prefix_len is_blank bytes) bytes)) at
core_found bytes n ends some = (
  length (take (prefix_len is_blank bytes) bytes),
  (
    take (prefix_len is_blank bytes) bytes,
    drop n (drop (prefix_len is_blank bytes) bytes),
    front_blank bytes,
    back_blank (drop (prefix_len is_blank bytes) bytes) n ends,
    trimmed_between bytes n ends some,
    whole bytes n,
    refl,
  ),
)

kept_is : (test : Bool) (core text : List ℕ) → cond test (Some core) None ≡ Some text → (test ≡ true) × (core ≡ text)
kept_is true core text is = (refl, cc)
kept_is false core text is = cc

few_enough : (core : List ℕ) → IsTrue (is_short core) → length core ≤ 65536
unfolding is_short
few_enough core short = let few : length core ≤ 255 = leb-true (length core) 255 short in omega arith

spelled_between : (bytes : List ℕ) (n : ℕ) → EndsAt (drop (prefix_len is_blank bytes) bytes) n → 0 < n
    → IsTrue (is_short (take n (drop (prefix_len is_blank bytes) bytes))) → is_xml (take n (drop (prefix_len is_blank bytes) bytes)) ≡ true
    → Spells bytes (take n (drop (prefix_len is_blank bytes) bytes)) × IsTrue (is_short (take n (drop (prefix_len is_blank bytes) bytes)))
spelled_between bytes n ends some short xml =
    ((record { trimmed = trimmed_between bytes n ends some; limited = few_enough _ short; spelled = xml_found _ xml }, core_found bytes n ends some), short)

-- and the bytes spell such a value
pub spelled_value : (bytes text : List ℕ) → text_value bytes ≡ Some text → Spells bytes text × IsTrue (is_short text)
unfolding text_value
spelled_value bytes text value =
    let ends : (n : ℕ) × EndsAt (drop (prefix_len is_blank bytes) bytes) n = core_with bytes in
    let is : (nat_le 1 (length (core_of bytes)) && (is_short (core_of bytes) && is_xml (core_of bytes)) ≡ true) × (core_of bytes ≡ text) = kept_is _ (core_of bytes) text value in
    let parts : (nat_le 1 (length (core_of bytes)) ≡ true) × (is_short (core_of bytes) && is_xml (core_of bytes) ≡ true) = and_parts _ _ is.0 in
    let more : (is_short (core_of bytes) ≡ true) × (is_xml (core_of bytes) ≡ true) = and_parts _ _ parts.1 in
    let between : core_of bytes ≡ take ends.0 (drop (prefix_len is_blank bytes) bytes) = core_between bytes ends.0 ends.1 in
    let some : 0 < ends.0 = (let l : 1 ≤ length (core_of bytes) = leb-true 1 (length (core_of bytes)) parts.0 in let m : 1 ≤ length (take ends.0 (drop (prefix_len is_blank bytes) bytes)) = rw between at l in rw (take_within (drop (prefix_len is_blank bytes) bytes) ends.0 ends.1.within) at m) in
    subst (λ (t : List ℕ). Spells bytes t × IsTrue (is_short t)) is.1
    (subst (λ (t : List ℕ). IsTrue (is_short t) → is_xml t ≡ true → Spells bytes t × IsTrue (is_short t)) (sym between)
    (spelled_between bytes ends.0 ends.1 some) more.0 more.1)

-- a name is a text, unchanged
plain_blank : (b : ℕ) → IsTrue (is_name_byte b) → is_blank b ≡ false
plain_blank b named = grind (arith, nat_tests)

plain_xml : (b : ℕ) → IsTrue (is_name_byte b) → IsTrue (is_xml_char b)
plain_xml b named = grind (arith, nat_tests)

plain_ascii : (b : ℕ) → IsTrue (is_name_byte b) → b < 128
plain_ascii b named = grind (arith, nat_tests)

each_named : (bytes : List ℕ) → list_all is_name_byte bytes ≡ true → (k d : ℕ) → k < length bytes → IsTrue (is_name_byte (get_or bytes k d))
each_named [] each k d short = absurd (omega arith)
each_named (c ∷ cs) each zero d short = (and_parts (is_name_byte c) (list_all is_name_byte cs) each).0
each_named (c ∷ cs) each (suc k) d short = each_named cs (and_parts (is_name_byte c) (list_all is_name_byte cs) each).1 k d (omega arith)

name_spelled : (name : List ℕ) → 0 < length name → length name ≤ 64 → list_all is_name_byte name ≡ true → Spells name name
name_spelled name some few each =
    let trimmed : IsTrimmed name = record {
      some = some;
      first = plain_blank (get_or name 0 0) (each_named name each 0 0 some);
      last = plain_blank (get_or name (length name - 1) 0) (each_named name each (length name - 1) 0 (omega arith));
    } in (
      record {
        trimmed = trimmed;
        limited = omega arith;
        spelled = (
          name,
          λ k d _ short. plain_xml (get_or name k d) (each_named name each k d short),
          encodes-IsAscii name (IsAscii-from_reads name (length name) (omega arith) (λ k short. plain_ascii (get_or name k 0) (each_named name each k 0 short))),
        );
      },
      (0, ([], [], λ k d low short. absurd (omega arith), λ k d low short. absurd (omega arith), trimmed, sym (append-nil name), refl)),
    )

pub name_is_text : (name : List ℕ) → is_mode_name name ≡ true → text_value name ≡ Some name
unfolding is_mode_name is_short
name_is_text name named =
    let long : (nat_le 1 (length name) && nat_le (length name) 64 ≡ true) × (list_all is_name_byte name ≡ true) = and_parts _ _ named in
    let both : (nat_le 1 (length name) ≡ true) × (nat_le (length name) 64 ≡ true) = and_parts _ _ long.0 in
    let few : length name ≤ 64 = leb-true (length name) 64 both.1 in
    value_of_spelled name name (name_spelled name (leb-true 1 (length name) both.0) few long.1) (le-leb (length name) 255 (omega arith))

pub text_is_short : (bytes text : List ℕ) → text_value bytes ≡ Some text → IsTrue (is_short text)
text_is_short bytes text value = (spelled_value bytes text value).1

no_value : (bytes : List ℕ) (read : Option (List ℕ)) → read ≡ text_value bytes
    → ((text : List ℕ) → Spells bytes text → is_short text ≡ false) → text_value bytes ≡ None
no_value bytes None is none = sym is
no_value bytes (Some text) is none =
    let spelled : Spells bytes text × IsTrue (is_short text) = spelled_value bytes text (sym is) in
    absurd (both_ways (is_short text) (none text spelled.0) spelled.1)

value_read : (bytes : List ℕ) (read : Option (List ℕ))
    → IfSome read (λ text. Spells bytes text × IsTrue (is_short text))
    → IfNone read ((text : List ℕ) → Spells bytes text → is_short text ≡ false)
    → read ≡ text_value bytes
value_read bytes (Some text) some none = sym (value_of_spelled bytes text some.0 some.1)
value_read bytes None some none = sym (no_value bytes (text_value bytes) refl none)

-- the text that the reader returns is the value
pub value_if_ok : {E : Type 0} (bytes : List ℕ) (r : Result (Option (List ℕ)) E)
    → IfOk r (λ read. IfSome read (λ text. Spells bytes text × IsTrue (is_short text)))
    → IfOk r (λ read. IfNone read ((text : List ℕ) → Spells bytes text → is_short text ≡ false))
    → IfOk r (λ read. read ≡ text_value bytes)
value_if_ok bytes (Ok read) some none = value_read bytes read some none
value_if_ok bytes (Err e) some none = tt

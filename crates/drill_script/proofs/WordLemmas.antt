-- Lemmas on the words of a line: none of them contains a space.
use Rattle.std.proofs.Common.{◌≡◌, ℕ, ◌^◌, ◌<◌, Bool, true, false, nat_le, List, [], ◌∷◌, length, IsTrue, refl, sym, ◌∙◌, ap, subst, get_or, arith}
use Rattle.std.specs.Fmt.{decimal}
use Rattle.std.specs.List.{list_all}
use Rattle.std.specs.Str.{bytes_eq}
use Rattle.std.specs.Str.Parse.{AllDigits}
use Rattle.std.specs.Char.{digit_value}
use Rattle.std.proofs.lemmas.Bool.{and_parts}
use Rattle.std.proofs.lemmas.Fmt.{decimal_is_IsNumeral}
use Rattle.std.proofs.lemmas.Slice.Eq.{bytes_eq-Decides}
use Rattle.byte_forms.specs.Parted.{Lacks}
use Rattle.drill_script.specs.Lacking.{spaced}
use Rattle.as4_disk.specs.declared.change.Pick.{Pick}
use Rattle.as4_disk.specs.declared.change.Pick.TheVariants.{Old, New, Other}
use Rattle.drill_script.specs.LineText.{end_text, link_text, way_text, pick_text, is_drill_byte, is_name}
use Rattle.drill_script.specs.declared.line.EndName.{EndName}
use Rattle.drill_script.specs.declared.line.EndName.TheVariants.{A, B, First, Hub, Last}
use Rattle.drill_script.specs.declared.line.LinkName.{LinkName}
use Rattle.drill_script.specs.declared.line.LinkName.TheVariants.{Front, Rear}
use Rattle.drill_script.specs.declared.line.Way.{Way}
use Rattle.drill_script.specs.declared.line.Way.TheVariants.{Push, Pull}
use Rattle.byte_forms.proofs.PartedLemmas.{Lacks_none, Lacks_more, Lacks_tested, Lacks_unparted, one_cut}

pub end_unspaced : (end : EndName) → Lacks 32 (end_text end)
end_unspaced A = Lacks_tested 32 _ refl
end_unspaced B = Lacks_tested 32 _ refl
end_unspaced First = Lacks_tested 32 _ refl
end_unspaced Hub = Lacks_tested 32 _ refl
end_unspaced Last = Lacks_tested 32 _ refl

pub link_unspaced : (link : LinkName) → Lacks 32 (link_text link)
link_unspaced Front = Lacks_tested 32 _ refl
link_unspaced Rear = Lacks_tested 32 _ refl

pub way_unspaced : (way : Way) → Lacks 32 (way_text way)
way_unspaced Push = Lacks_tested 32 _ refl
way_unspaced Pull = Lacks_tested 32 _ refl

pub pick_unspaced : (pick : Pick) → Lacks 32 (pick_text pick)
pick_unspaced Old = Lacks_tested 32 _ refl
pick_unspaced New = Lacks_tested 32 _ refl
pick_unspaced Other = Lacks_tested 32 _ refl

digits_unspaced : (digits : List ℕ) → AllDigits 10 digits → Lacks 32 digits
digits_unspaced [] each = Lacks_none 32
digits_unspaced (d ∷ digits) each = Lacks_more 32 d digits (λ (is : d ≡ 32). let low : digit_value 32 < 10 = subst (λ (d : ℕ). digit_value d < 10) is each.0 in omega arith) (digits_unspaced digits each.1)

pub decimal_unspaced : (n : ℕ) → n < 2 ^ 64 → Lacks 32 (decimal n)
decimal_unspaced n small = digits_unspaced (decimal n) (decimal_is_IsNumeral n small).0.1

-- a number isn't an endpoint and a number
pub number_is_alone : (n : ℕ) (end : EndName) (rest : List ℕ) → n < 2 ^ 64 → decimal n ≡ spaced (end_text end) rest → ⊥
number_is_alone n end rest small same = Lacks_unparted 32 (decimal n) (end_text end) rest (decimal_unspaced n small) same

-- a link isn't a way
pub link_is_no_way : (link : LinkName) (way : Way) (rest behind : List ℕ) → spaced (link_text link) rest ≡ spaced (way_text way) behind → ⊥
link_is_no_way link way rest behind same =
    no_way link way (one_cut 32 (link_text link) rest (way_text way) behind same (link_unspaced link) (way_unspaced way)).0
  where
    no_way : (k : LinkName) (w : Way) → link_text k ≡ way_text w → ⊥
    no_way Front Push is = omega (arith, ap (λ (l : List ℕ). get_or l 0 0) is)
    no_way Front Pull is = omega (arith, ap (λ (l : List ℕ). get_or l 0 0) is)
    no_way Rear Push is = omega (arith, ap (λ (l : List ℕ). get_or l 0 0) is)
    no_way Rear Pull is = omega (arith, ap (λ (l : List ℕ). get_or l 0 0) is)

name_bytes_unspaced : (bytes : List ℕ) → list_all is_drill_byte bytes ≡ true → Lacks 32 bytes
name_bytes_unspaced [] each = Lacks_none 32
name_bytes_unspaced (b ∷ bytes) each =
    let parts = and_parts (is_drill_byte b) (list_all is_drill_byte bytes) each in
    Lacks_more 32 b bytes
    (λ (is : b ≡ 32). let tested : is_drill_byte 32 ≡ true = subst (λ (b : ℕ). is_drill_byte b ≡ true) is parts.0 in cc)
    (name_bytes_unspaced bytes parts.1)

pub name_unspaced : (name : List ℕ) → IsTrue (is_name name) → Lacks 32 name
unfolding is_name
name_unspaced name named =
    let outer = and_parts (nat_le 1 (length name)) _ named in
    let inner = and_parts (nat_le (length name) 32) (list_all is_drill_byte name) outer.1 in
    name_bytes_unspaced name inner.1

-- bytes that compare equal are the same
pub equal_is_same : (xs ys : List ℕ) (equal : Bool) → equal ≡ bytes_eq xs ys → equal ≡ true → xs ≡ ys
equal_is_same xs ys equal computed found = (bytes_eq-Decides xs ys).0 (sym computed ∙ found)

-- bytes that compare unequal differ
pub unequal_differ : (xs ys : List ℕ) (equal : Bool) → equal ≡ bytes_eq xs ys → equal ≡ false → xs ≡ ys → ⊥
unequal_differ xs ys equal computed found same =
    let tested : bytes_eq xs ys ≡ true = (bytes_eq-Decides xs ys).1 same in
    let clash : true ≡ false = sym tested ∙ sym computed ∙ found in
    cc

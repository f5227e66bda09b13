-- How texts fit the forms of a stamp, part by part.
use Rattle.std.proofs.Common.{◌≡◌, ℕ, ◌==◌, Option, Some, None, zero, suc, ◌+◌, ◌-◌, ◌<◌, ◌≤◌, ◌⊎◌, inl, inr, List, [], ◌∷◌, ◌++◌, Bool, true, false, length, drop, get_or, arith, refl, sym, ◌∙◌, ap, append_assoc, length-append, length-drop, lit<, subst}
use Rattle.std.specs.Prelude.{IsTrue, IfSome, codes, replicate}
use Rattle.std.specs.Int.{IsInRange}
use Rattle.std.proofs.lemmas.Bool.{cases_lt}
use Rattle.std.proofs.lemmas.Bool.Decides.{nat_tests}
use Rattle.std.proofs.lemmas.List.{get_or-append_right, get_or_append_left, get_or-drop, get_or-replicate, length-replicate}
use Rattle.as4_values.specs.Stamp.{fits_byte, fraction_form, zone_forms, IsForm, Fits}
use Rattle.as4_values.specs.StampParts.{offset, IsOffsetForm, IsZoneForm, IsTailForm, Has, Stops}

-- one byte

pub digit_of_form : (b : ℕ) → IsTrue (fits_byte 48 b) → IsInRange 48 57 b
unfolding fits_byte
digit_of_form b fits = grind (arith, nat_tests)

pub mark_of_form : (wanted b : ℕ) → (wanted ≡ 48 → ⊥) → IsTrue (fits_byte wanted b) → b ≡ wanted
unfolding fits_byte
mark_of_form wanted b mark fits = grind (arith, nat_tests)

pub mark_fits : (b : ℕ) → (b ≡ 48 → ⊥) → IsTrue (fits_byte b b)
unfolding fits_byte
mark_fits b mark = grind (arith, nat_tests)

-- one form

pub fits_less : (form text : List ℕ) (m n : ℕ) → m ≤ n → Fits form text n → Fits form text m
fits_less form text m n le fits = record {
  in_form = omega (arith, fits.in_form);
  in_text = omega (arith, fits.in_text);
  each = λ k below. fits.each k (omega arith);
}

pub fits_none : (form text : List ℕ) → Fits form text 0
fits_none form text = record {
  in_form = omega arith;
  in_text = omega arith;
  each = λ k below. absurd (omega arith);
}

read_front : (xs ys : List ℕ) (k : ℕ) → k < length xs → get_or (xs ++ ys) k 0 ≡ get_or xs k 0
read_front xs ys k within = get_or_append_left xs ys 0 k within

read_rest : (xs ys : List ℕ) (k : ℕ) → length xs ≤ k → get_or (xs ++ ys) k 0 ≡ get_or ys (k - length xs) 0
read_rest xs ys k past = get_or-append_right xs ys (length xs) k 0 refl past

read_drop : (text : List ℕ) (n k : ℕ) → n ≤ k → get_or text k 0 ≡ get_or (drop n text) (k - n) 0
read_drop text n k le =
    let back : n + (k - n) ≡ k = omega arith in
    ap (λ i. get_or text i 0) (sym back) ∙ sym (get_or-drop n text (k - n) 0)

fits_join : (xs ys text : List ℕ) (n : ℕ) → Fits xs text (length xs) → Fits ys (drop (length xs) text) n → Fits (xs ++ ys) text (length xs + n)
fits_join xs ys text n front rest = record {
  in_form = omega (arith, length-append xs ys, rest.in_form);
  in_text = omega (arith, length-drop (length xs) text, front.in_text, rest.in_text);
  each = λ k below.
      elim (cases_lt k (length xs)) as (λ _. IsTrue (fits_byte (get_or (xs ++ ys) k 0) (get_or text k 0))) [
        | inl within ↦ rw (read_front xs ys k within) (front.each k within)
        | inr past ↦ rw (read_rest xs ys k past, read_drop text (length xs) k past) (rest.each (k - length xs) (omega arith))
      ];
}

pub fits_front : (xs ys text : List ℕ) (n : ℕ) → Fits xs text n → Fits (xs ++ ys) text n
fits_front xs ys text n fits =
    let in_form = fits.in_form in
    record {
      in_form = omega (arith, length-append xs ys);
      in_text = fits.in_text;
      each = λ k below. rw (read_front xs ys k (omega arith)) (fits.each k below);
    }

fits_start : (xs ys text : List ℕ) (n : ℕ) → n ≤ length xs → Fits (xs ++ ys) text n → Fits xs text n
fits_start xs ys text n le fits = record {
  in_form = le;
  in_text = fits.in_text;
  each = λ k below. rw (← read_front xs ys k (omega arith)) (fits.each k below);
}

shift : (n k : ℕ) → n + k - n ≡ k
shift n k = omega arith

fits_rest : (xs ys text : List ℕ) (n : ℕ) → Fits (xs ++ ys) text (length xs + n) → Fits ys (drop (length xs) text) n
fits_rest xs ys text n fits = record {
  in_form = omega (arith, length-append xs ys, fits.in_form);
  in_text = omega (arith, length-drop (length xs) text, fits.in_text);
  each = λ k below.
      let here = fits.each (length xs + k) (omega arith) in
      let form_byte : get_or (xs ++ ys) (length xs + k) 0 ≡ get_or ys k 0 =
      read_rest xs ys (length xs + k) (omega arith) ∙ ap (λ i. get_or ys i 0) (shift (length xs) k) in
      rw (get_or-drop (length xs) text k 0, ← form_byte) here;
}

-- forms that begin with the same bytes

-- the text begins with `xs`, and what fits a whole form past `xs` fits a form of the rest after `xs`
pub record Opens (IsWhole IsRest : List ℕ → Type 0) (xs text : List ℕ) : Type 0 where
  pub fits : Fits xs text (length xs)
  pub into : (ys : List ℕ) → IsRest ys → IsWhole (xs ++ ys)
  pub out : (form : List ℕ) (n : ℕ) → IsWhole form → Fits form text n → length xs ≤ n → (length xs < n) ⊎ (n ≡ length form)
      → (ys : List ℕ) × IsRest ys × (form ≡ xs ++ ys)

pub has_after : (IsWhole IsRest : List ℕ → Type 0) (xs text rest : List ℕ) → Opens IsWhole IsRest xs text → rest ≡ drop (length xs) text
    → Has IsRest rest → Has IsWhole text
has_after IsWhole IsRest xs text rest opens is has =
    let in_text = opens.fits.in_text in
    let len : length text ≡ length xs + length rest = omega (arith, ap length is, length-drop (length xs) text) in (
      xs ++ has.0,
      opens.into has.0 has.1,
      omega (arith, length-append xs has.0, has.2),
      rw len (fits_join xs has.0 text (length rest) opens.fits (rw (← is) has.3)),
    )

rest_whole : (xs ys text rest : List ℕ) → rest ≡ drop (length xs) text → length xs ≤ length text → length xs + length ys ≡ length text
    → Fits (xs ++ ys) text (length text) → (length ys ≡ length rest) × Fits ys rest (length rest)
rest_whole xs ys text rest is in_text len fits =
    let count : length rest ≡ length text - length xs = ap length is ∙ length-drop (length xs) text in
    let same : length ys ≡ length rest = omega arith in
    let sum : length text ≡ length xs + length rest = omega arith in
    let rest_fits : Fits ys (drop (length xs) text) (length rest) = fits_rest xs ys text (length rest) (rw (← sum) fits) in
    (same, subst (λ (zs : List ℕ). Fits ys zs (length rest)) (sym is) rest_fits)

pub stops_after : (IsWhole IsRest : List ℕ → Type 0) (xs text rest : List ℕ) (at place : ℕ) → Opens IsWhole IsRest xs text
    → rest ≡ drop (length xs) text → place ≡ length xs + at → Stops IsRest rest at → Stops IsWhole text place
stops_after IsWhole IsRest xs text rest at place opens is there stops = record {
  begins = (
    xs ++ stops.begins.0,
    opens.into stops.begins.0 stops.begins.1,
    rw there (fits_join xs stops.begins.0 text at opens.fits (rw (← is) stops.begins.2)),
  );
  no_more = λ form one fits.
      let out = opens.out form (place + 1) one fits (omega arith) (inl (omega arith)) in
      let more : place + 1 ≡ length xs + (at + 1) = omega arith in
      stops.no_more out.0 out.1 (rw is (fits_rest xs out.0 text (at + 1) (rw (← more, ← out.2) fits)));
  not_whole = λ has.
      let in_text = opens.fits.in_text in
      let out = opens.out has.0 (length text) has.1 has.3 (omega arith) (inr (sym has.2)) in
      let whole = rest_whole xs out.0 text rest is in_text (omega (arith, has.2, ap length out.2, length-append xs out.0)) (rw (← out.2) has.3) in
      stops.not_whole (out.0, out.1, whole.0, whole.1);
}

-- the zone

pub data ZoneIs (form : List ℕ) : Type 0 where
  local : form ≡ [] → ZoneIs form
  utc : form ≡ codes "Z" → ZoneIs form
  ahead : form ≡ codes "+00:00" → ZoneIs form
  behind : form ≡ codes "-00:00" → ZoneIs form

zone_at : (form : List ℕ) (k : ℕ) → k < 4 → get_or zone_forms k form ≡ form → ZoneIs form
zone_at form zero within is = local (sym is)
zone_at form (suc zero) within is = utc (sym is)
zone_at form (suc (suc zero)) within is = ahead (sym is)
zone_at form (suc (suc (suc zero))) within is = behind (sym is)
zone_at form (suc (suc (suc (suc k)))) within is = absurd (omega arith)

zone_is : (form : List ℕ) → IsZoneForm form → ZoneIs form
zone_is form zone = zone_at form zone.0 zone.1 zone.2

pub no_zone : IsZoneForm []
no_zone = (0, lit< tt, refl)

pub utc_zone : IsZoneForm (codes "Z")
utc_zone = (1, lit< tt, refl)

pub ahead_zone : IsZoneForm (codes "+00:00")
ahead_zone = (2, lit< tt, refl)

pub behind_zone : IsZoneForm (codes "-00:00")
behind_zone = (3, lit< tt, refl)

-- the first byte of a zone
pub data Marks (b : ℕ) : Type 0 where
  letter : b ≡ 90 → Marks b
  plus : b ≡ 43 → Marks b
  hyphen : b ≡ 45 → Marks b

mark_by : (form text : List ℕ) (n : ℕ) → ZoneIs form → Fits form text n → 0 < n → Marks (get_or text 0 0)
mark_by form text n (local is) fits some = absurd (omega (arith, fits.in_form, ap length is))
mark_by form text n (utc is) fits some =
    let fits_z = rw is at fits in letter (mark_of_form 90 (get_or text 0 0) (λ e. omega arith) (fits_z.each 0 some))
mark_by form text n (ahead is) fits some =
    let fits_z = rw is at fits in plus (mark_of_form 43 (get_or text 0 0) (λ e. omega arith) (fits_z.each 0 some))
mark_by form text n (behind is) fits some =
    let fits_z = rw is at fits in hyphen (mark_of_form 45 (get_or text 0 0) (λ e. omega arith) (fits_z.each 0 some))

pub mark : (form text : List ℕ) (n : ℕ) → IsZoneForm form → Fits form text n → 0 < n → Marks (get_or text 0 0)
mark form text n zone fits some = mark_by form text n (zone_is form zone) fits some

pub local_whole : (zone : List ℕ) → length zone ≡ 0 → Has IsZoneForm zone
local_whole zone none = ([], no_zone, sym none, rw none (fits_none [] zone))

-- no zone begins with another byte
pub mark_stops : (zone : List ℕ) → 0 < length zone → (Marks (get_or zone 0 0) → ⊥) → Stops IsZoneForm zone 0
mark_stops zone some no_mark = record {
  begins = ([], no_zone, fits_none [] zone);
  no_more = λ form is fits. no_mark (mark form zone (0 + 1) is fits (omega arith));
  not_whole = λ has. no_mark (mark has.0 zone (length zone) has.1 has.3 some);
}

utc_fits : (zone : List ℕ) → 0 < length zone → get_or zone 0 0 ≡ 90 → Fits (codes "Z") zone 1
utc_fits zone some is = record {
  in_form = omega arith;
  in_text = omega arith;
  each = λ k below. let first : k ≡ 0 = omega arith in rw (first, is) (mark_fits 90 (λ e. omega arith));
}

pub utc_whole : (zone : List ℕ) → get_or zone 0 0 ≡ 90 → length zone ≡ 1 → Has IsZoneForm zone
utc_whole zone is one = (codes "Z", utc_zone, sym one, rw one (utc_fits zone (omega arith) is))

-- with `Z` the zone has one byte
utc_short : (form zone : List ℕ) (n : ℕ) → get_or zone 0 0 ≡ 90 → ZoneIs form → Fits form zone n → 0 < n → length form ≡ 1
utc_short form zone n is (local e) fits some = absurd (omega (arith, fits.in_form, ap length e))
utc_short form zone n is (utc e) fits some = ap length e
utc_short form zone n is (ahead e) fits some =
    let fits_z = rw e at fits in absurd (omega (arith, mark_of_form 43 (get_or zone 0 0) (λ e. omega arith) (fits_z.each 0 some)))
utc_short form zone n is (behind e) fits some =
    let fits_z = rw e at fits in absurd (omega (arith, mark_of_form 45 (get_or zone 0 0) (λ e. omega arith) (fits_z.each 0 some)))

pub utc_stops : (zone : List ℕ) → get_or zone 0 0 ≡ 90 → 1 < length zone → Stops IsZoneForm zone 1
utc_stops zone is more = record {
  begins = (codes "Z", utc_zone, utc_fits zone (omega arith) is);
  no_more = λ form one fits. absurd (omega (arith, utc_short form zone (1 + 1) is (zone_is form one) fits (omega arith), fits.in_form));
  not_whole = λ has. absurd (omega (arith, utc_short has.0 zone (length zone) is (zone_is has.0 has.1) has.3 (omega arith), has.2));
}

sign_fits : (sign : ℕ) (zone : List ℕ) → (sign ≡ 48 → ⊥) → 0 < length zone → get_or zone 0 0 ≡ sign → Fits (sign ∷ []) zone 1
sign_fits sign zone mark some is = record {
  in_form = omega arith;
  in_text = omega arith;
  each = λ k below. let first : k ≡ 0 = omega arith in rw (first, is) (mark_fits sign mark);
}

ahead_out : (form zone : List ℕ) (n : ℕ) → get_or zone 0 0 ≡ 43 → ZoneIs form → Fits form zone n → 0 < n → form ≡ 43 ∷ offset
ahead_out form zone n is (local e) fits some = absurd (omega (arith, fits.in_form, ap length e))
ahead_out form zone n is (utc e) fits some =
    let fits_z = rw e at fits in absurd (omega (arith, mark_of_form 90 (get_or zone 0 0) (λ e. omega arith) (fits_z.each 0 some)))
ahead_out form zone n is (ahead e) fits some = e
ahead_out form zone n is (behind e) fits some =
    let fits_z = rw e at fits in absurd (omega (arith, mark_of_form 45 (get_or zone 0 0) (λ e. omega arith) (fits_z.each 0 some)))

behind_out : (form zone : List ℕ) (n : ℕ) → get_or zone 0 0 ≡ 45 → ZoneIs form → Fits form zone n → 0 < n → form ≡ 45 ∷ offset
behind_out form zone n is (local e) fits some = absurd (omega (arith, fits.in_form, ap length e))
behind_out form zone n is (utc e) fits some =
    let fits_z = rw e at fits in absurd (omega (arith, mark_of_form 90 (get_or zone 0 0) (λ e. omega arith) (fits_z.each 0 some)))
behind_out form zone n is (ahead e) fits some =
    let fits_z = rw e at fits in absurd (omega (arith, mark_of_form 43 (get_or zone 0 0) (λ e. omega arith) (fits_z.each 0 some)))
behind_out form zone n is (behind e) fits some = e

pub data Sign (b : ℕ) : Type 0 where
  is_plus : b ≡ 43 → Sign b
  is_hyphen : b ≡ 45 → Sign b

pub offset_opens : (zone : List ℕ) → 0 < length zone → Sign (get_or zone 0 0) → Opens IsZoneForm IsOffsetForm (get_or zone 0 0 ∷ []) zone
offset_opens zone some (is_plus is) = record {
  fits = rw is (sign_fits 43 zone (λ e. omega arith) some is);
  into = λ ys e. rw (is, e) ahead_zone;
  out = λ form n one fits less more. (offset, refl, rw is (ahead_out form zone n is (zone_is form one) fits (omega arith)));
}
offset_opens zone some (is_hyphen is) = record {
  fits = rw is (sign_fits 45 zone (λ e. omega arith) some is);
  into = λ ys e. rw (is, e) behind_zone;
  out = λ form n one fits less more. (offset, refl, rw is (behind_out form zone n is (zone_is form one) fits (omega arith)));
}

-- the decimal places, and the zone

abbrev pub nine : List ℕ
nine = codes "000000000"

-- `count` digits, and a point before them
abbrev pub zeros : ℕ → List ℕ
zeros count = replicate count 48

abbrev pub pointed : ℕ → List ℕ
pointed count = 46 ∷ zeros count

zeros_length : (count : ℕ) → length (zeros count) ≡ count
zeros_length count = length-replicate {A = ℕ} count 48

zero_at : (count k : ℕ) → k < count → get_or (zeros count) k 0 ≡ 48
zero_at count k below = get_or-replicate count k 48 0 below

nine_at : (k : ℕ) → k < 9 → get_or nine k 0 ≡ 48
nine_at k within = get_or-replicate 9 k 48 0 within

fraction_some : (places : ℕ) → 0 < places → fraction_form places ≡ pointed places
fraction_some zero some = absurd (omega arith)
fraction_some (suc places) some = refl

point_first : (places : ℕ) (zone tail : List ℕ) (n : ℕ) → Fits (fraction_form (suc places) ++ zone) tail n → 0 < n → get_or tail 0 0 ≡ 46
point_first places zone tail n fits some = mark_of_form 46 (get_or tail 0 0) (λ e. omega arith) (fits.each 0 some)

long_form : (places : ℕ) (zone : List ℕ) → length (fraction_form (suc places) ++ zone) ≡ suc (suc places) + length zone
long_form places zone = omega (arith, length-append (fraction_form (suc places)) zone, zeros_length places)

no_places_out : (tail : List ℕ) → (0 < length tail → get_or tail 0 0 ≡ 46 → ⊥) → (form : List ℕ) (n places : ℕ) (zone : List ℕ)
    → IsZoneForm zone → form ≡ fraction_form places ++ zone → Fits form tail n → (0 < n) ⊎ (n ≡ length form)
    → (ys : List ℕ) × IsZoneForm ys × (form ≡ ys)
no_places_out tail no_point form n zero zone is e fits more = (zone, is, e)
no_places_out tail no_point form n (suc places) zone is e fits (inl some) =
    absurd (no_point (omega (arith, fits.in_text)) (point_first places zone tail n (rw (← e) fits) some))
no_places_out tail no_point form n (suc places) zone is e fits (inr all) =
    let some : 0 < n = omega (arith, ap length e, long_form places zone) in
    absurd (no_point (omega (arith, fits.in_text)) (point_first places zone tail n (rw (← e) fits) some))

-- without a point there are no places
pub no_places : (tail : List ℕ) → (0 < length tail → get_or tail 0 0 ≡ 46 → ⊥) → Opens IsTailForm IsZoneForm [] tail
no_places tail no_point = record {
  fits = fits_none [] tail;
  into = λ ys zone. (0, ys, omega arith, zone, refl);
  out = λ form n one fits less more. no_places_out tail no_point form n one.0 one.1 one.3 one.4 fits more;
}

no_point_in : {P : Type 0} (b : ℕ) → b ≡ 46 → Marks b → P
no_point_in b e (letter is) = absurd (omega arith)
no_point_in b e (plus is) = absurd (omega arith)
no_point_in b e (hyphen is) = absurd (omega arith)

plus_none : (n : ℕ) → n + 0 ≡ n
plus_none n = omega arith

one_plus : (n : ℕ) → 1 + n ≡ suc n
one_plus n = omega arith

-- a point that no digit follows
point_fits : (tail : List ℕ) → 0 < length tail → get_or tail 0 0 ≡ 46 → Fits (46 ∷ []) tail 1
point_fits tail some is = record {
  in_form = omega arith;
  in_text = omega arith;
  each = λ k below. let first : k ≡ 0 = omega arith in rw (first, is) (mark_fits 46 (λ e. omega arith));
}

-- the byte after the point is a digit
digit_next : (tail form : List ℕ) (n places : ℕ) (zone : List ℕ) → IsZoneForm zone → form ≡ fraction_form places ++ zone
    → get_or tail 0 0 ≡ 46 → Fits form tail n → 1 < n → IsTrue (fits_byte 48 (get_or tail 1 0))
digit_next tail form n zero zone is e point fits more =
    no_point_in (get_or tail 0 0) point (mark zone tail n is (rw (← e) fits) (omega arith))
digit_next tail form n (suc places) zone is e point fits more =
    let fits_it : Fits (fraction_form (suc places) ++ zone) tail n = rw (← e) fits in fits_it.each 1 more

point_out : (tail form : List ℕ) (n places : ℕ) (zone : List ℕ) → IsZoneForm zone → form ≡ fraction_form places ++ zone
    → get_or tail 0 0 ≡ 46 → Fits form tail n → 0 < n → n ≡ length form → 1 < n
point_out tail form n zero zone is e point fits some all =
    no_point_in (get_or tail 0 0) point (mark zone tail n is (rw (← e) fits) some)
point_out tail form n (suc places) zone is e point fits some all = omega (arith, ap length e, long_form places zone)

one_digit : (tail : List ℕ) → 0 < length tail → IsTrue (fits_byte 48 (get_or tail 1 0)) → 1 < length tail → Fits nine (drop 1 tail) 1
one_digit tail some digit more = record {
  in_form = omega arith;
  in_text = omega (arith, length-drop 1 tail);
  each = λ k below. let first : k ≡ 0 = omega arith in rw (first, get_or-drop 1 tail 0 0) digit;
}

pub point_stops : (tail : List ℕ) → 0 < length tail → get_or tail 0 0 ≡ 46 → (Fits nine (drop 1 tail) 1 → ⊥) → Stops IsTailForm tail 1
point_stops tail some point no_digit = record {
  begins = (
    (46 ∷ []) ++ (48 ∷ []),
    (1, [], omega arith, no_zone, refl),
    fits_front (46 ∷ []) (48 ∷ []) tail 1 (point_fits tail some point),
  );
  no_more = λ form one fits.
      no_digit (one_digit tail some (digit_next tail form (1 + 1) one.0 one.1 one.3 one.4 point fits (omega arith)) (omega (arith, fits.in_text)));
  not_whole = λ has.
      let more = point_out tail has.0 (length tail) has.1.0 has.1.1 has.1.3 has.1.4 point has.3 some (sym has.2) in
      no_digit (one_digit tail some (digit_next tail has.0 (length tail) has.1.0 has.1.1 has.1.3 has.1.4 point has.3 more) more);
}

-- exactly `count` places, then the zone

digits_fit : (rest : List ℕ) (count : ℕ) → Fits nine rest count → Fits (zeros count) rest count
digits_fit rest count fits =
    let in_form = fits.in_form in
    record {
      in_form = omega (arith, zeros_length count);
      in_text = fits.in_text;
      each = λ k below. rw (zero_at count k below, ← nine_at k (omega arith)) (fits.each k below);
    }

zone_digit : (b : ℕ) → Marks b → IsTrue (fits_byte 48 b) → ⊥
zone_digit b (letter e) digit = let range = digit_of_form b digit in absurd (omega (arith, range.0, range.1))
zone_digit b (plus e) digit = let range = digit_of_form b digit in absurd (omega (arith, range.0, range.1))
zone_digit b (hyphen e) digit = let range = digit_of_form b digit in absurd (omega (arith, range.0, range.1))

-- the form's byte after the point and `k` digits
form_digit : (places k : ℕ) (zone : List ℕ) → k < suc places → get_or (fraction_form (suc places) ++ zone) (suc k) 0 ≡ 48
form_digit places k zone below =
    read_front (zeros (suc places)) zone k (omega (arith, zeros_length (suc places)))
    ∙ zero_at (suc places) k below

-- with a form of fewer places than there are digits, the zone would begin with a digit
fewer : (tail : List ℕ) (n count places : ℕ) (zone : List ℕ) → IsZoneForm zone → Fits nine (drop 1 tail) count → suc places < count
    → Fits (fraction_form (suc places) ++ zone) tail n → suc count ≤ n → ⊥
fewer tail n count places zone is digits less fits le =
    let len : length (pointed (suc places)) ≡ suc (suc places) = omega (arith, zeros_length places) in
    let in_form = fits.in_form in
    let split : n ≡ length (pointed (suc places)) + (n - suc (suc places)) = omega arith in
    let rest : Fits zone (drop (length (pointed (suc places))) tail) (n - suc (suc places)) =
    fits_rest (pointed (suc places)) zone tail (n - suc (suc places)) (rw (← split) fits) in
    let byte : get_or (drop (length (pointed (suc places))) tail) 0 0 ≡ get_or (drop 1 tail) (suc places) 0 =
    ap (λ i. get_or (drop i tail) 0 0) len ∙ (get_or-drop (suc (suc places)) tail 0 0 ∙ (ap (λ i. get_or tail i 0) (plus_none (suc (suc places))) ∙ sym (get_or-drop 1 tail (suc places) 0 ∙ ap (λ i. get_or tail i 0) (one_plus (suc places))))) in
    let digit : IsTrue (fits_byte 48 (get_or (drop 1 tail) (suc places) 0)) =
    rw (← nine_at (suc places) (omega (arith, digits.in_form))) (digits.each (suc places) less) in
    zone_digit (get_or (drop (length (pointed (suc places))) tail) 0 0)
    (mark zone (drop (length (pointed (suc places))) tail) (n - suc (suc places)) is rest (omega arith))
    (rw byte digit)

-- with a form of more places than there are digits, one more digit would fit
more_digits : (tail : List ℕ) (n count places : ℕ) (zone : List ℕ) → suc places ≤ 9 → Fits nine (drop 1 tail) count → count < suc places
    → Fits (fraction_form (suc places) ++ zone) tail n → suc count < n → Fits nine (drop 1 tail) (count + 1)
more_digits tail n count places zone small digits less fits more =
    let in_text = fits.in_text in
    record {
      in_form = omega arith;
      in_text = omega (arith, length-drop 1 tail);
      each = λ k below.
          let here = fits.each (suc k) (omega arith) in
          let digit : IsTrue (fits_byte 48 (get_or tail (suc k) 0)) = rw (← form_digit places k zone (omega arith)) here in
          rw (nine_at k (omega arith), get_or-drop 1 tail k 0 ∙ ap (λ i. get_or tail i 0) (one_plus k)) digit;
    }

past_digits : (n count places : ℕ) (zone form : List ℕ) → form ≡ fraction_form (suc places) ++ zone → count < suc places
    → (suc count < n) ⊎ (n ≡ length form) → suc count < n
past_digits n count places zone form e above (inl more) = more
past_digits n count places zone form e above (inr all) = omega (arith, ap length e, long_form places zone)

counted : (n count whole : ℕ) → length (zeros count) ≡ count → (suc (length (zeros count)) < n) ⊎ (n ≡ whole) → (suc count < n) ⊎ (n ≡ whole)
counted n count whole len (inl more) = inl (omega arith)
counted n count whole len (inr all) = inr all

same_places : (tail form : List ℕ) (n count places : ℕ) (zone : List ℕ) → IsZoneForm zone → form ≡ fraction_form places ++ zone → places ≤ 9
    → get_or tail 0 0 ≡ 46 → Fits nine (drop 1 tail) count → (Fits nine (drop 1 tail) (count + 1) → ⊥)
    → Fits form tail n → suc count ≤ n → (suc count < n) ⊎ (n ≡ length form) → places ≡ count
same_places tail form n count zero zone is e small point digits no_more fits le more =
    no_point_in (get_or tail 0 0) point (mark zone tail n is (rw (← e) fits) (omega arith))
same_places tail form n count (suc places) zone is e small point digits no_more fits le more =
    let fits_it : Fits (fraction_form (suc places) ++ zone) tail n = rw (← e) fits in
    elim (cases_lt (suc places) count) as (λ _. suc places ≡ count) [
      | inl less ↦ absurd (fewer tail n count places zone is digits less fits_it le)
      | inr rest ↦ elim (cases_lt count (suc places)) as (λ _. suc places ≡ count) [
        | inl above ↦
            absurd (no_more (more_digits tail n count places zone small digits above fits_it (past_digits n count places zone form e above more)))
        | inr same ↦ omega arith
      ]
    ]

pub counted_point : (count : ℕ) → 1 + count ≡ length (pointed count)
counted_point count = omega (arith, zeros_length count)

pub places_open : (tail : List ℕ) (count : ℕ) → 0 < length tail → get_or tail 0 0 ≡ 46 → 0 < count
    → Fits nine (drop 1 tail) count → (Fits nine (drop 1 tail) (count + 1) → ⊥) → Opens IsTailForm IsZoneForm (pointed count) tail
places_open tail count some point any digits no_more =
    let len : length (zeros count) ≡ count = zeros_length count in
    record {
      fits = subst (λ (n : ℕ). Fits (pointed count) tail n) (counted_point count)
          (fits_join (46 ∷ []) (zeros count) tail count (point_fits tail some point) (digits_fit (drop 1 tail) count digits));
      into = λ ys zone. (count, ys, omega (arith, digits.in_form), zone, ap (λ xs. xs ++ ys) (sym (fraction_some count any)));
      out = λ form n one fits le more.
          let same = same_places tail form n count one.0 one.1 one.3 one.4 one.2 point digits no_more fits (omega arith) (counted n count (length form) len more) in
          (one.1, one.3, one.4 ∙ ap (λ xs. xs ++ one.1) (ap fraction_form same ∙ fraction_some count any));
    }

-- neither a sign nor a letter
pub unmarked : (b : ℕ) → (b ≡ 90 → ⊥) → (b ≡ 43 → ⊥) → (b ≡ 45 → ⊥) → Marks b → ⊥
unmarked b no_letter no_plus no_hyphen (letter is) = no_letter is
unmarked b no_letter no_plus no_hyphen (plus is) = no_plus is
unmarked b no_letter no_plus no_hyphen (hyphen is) = no_hyphen is

pub not_empty : (n : ℕ) (b : Bool) → b ≡ (n == 0) → b ≡ false → 0 < n
not_empty n b is not_so = grind (arith, nat_tests)

-- a tail without a point is a zone
pub zone_stops : (tail : List ℕ) (r : Option ℕ) → (0 < length tail → get_or tail 0 0 ≡ 46 → ⊥) → IfSome r (Stops IsZoneForm tail) → IfSome r (Stops IsTailForm tail)
zone_stops tail None no_point stops = tt
zone_stops tail (Some at) no_point stops = stops_after IsTailForm IsZoneForm [] tail tail at at (no_places tail no_point) refl (omega arith) stops

-- the date and the time to the second
abbrev pub seconds : List ℕ
seconds = codes "0000-00-00T00:00:00"

pub seconds_open : (text : List ℕ) → Fits seconds text 19 → Opens IsForm IsTailForm seconds text
seconds_open text fits = record {
  fits = fits;
  into = λ ys tail. (tail.0, tail.1, tail.2, tail.3, ap (λ xs. seconds ++ xs) tail.4 ∙ sym (append_assoc seconds (fraction_form tail.0) tail.1));
  out = λ form n one _ _ _. (
    fraction_form one.0 ++ one.1,
    (one.0, one.1, one.2, one.3, refl),
    one.4 ∙ append_assoc seconds (fraction_form one.0) one.1,
  );
}

form_is_long : (form : List ℕ) → IsForm form → (tail : List ℕ) × (form ≡ seconds ++ tail) × (19 ≤ length form)
form_is_long form one =
    let e : form ≡ seconds ++ (fraction_form one.0 ++ one.1) = one.4 ∙ append_assoc seconds (fraction_form one.0) one.1 in
    (fraction_form one.0 ++ one.1, e, omega (arith, ap length e, length-append seconds (fraction_form one.0 ++ one.1)))

pub seconds_stop : (text : List ℕ) (n : ℕ) → Fits seconds text n → (Fits seconds text (n + 1) → ⊥) → n < 19 → Stops IsForm text n
seconds_stop text n fits no_more less = record {
  begins = (seconds, (0, [], omega arith, no_zone, refl), fits);
  no_more = λ form one more.
      let long = form_is_long form one in
      no_more (fits_start seconds long.0 text (n + 1) (omega arith) (rw (← long.1) more));
  not_whole = λ has.
      let long = form_is_long has.0 has.1 in
      no_more (fits_start seconds long.0 text (n + 1) (omega arith)
      (rw (← long.1) (fits_less has.0 text (n + 1) (length text) (omega (arith, has.2, long.2)) has.3)));
}

pub empty_is : (n : ℕ) (b : Bool) → b ≡ (n == 0) → b ≡ true → 0 < n → ⊥
empty_is n b is so some = grind (arith, nat_tests)

pub form_length : (form : List ℕ) → IsForm form → 19 ≤ length form
form_length form one = (form_is_long form one).2

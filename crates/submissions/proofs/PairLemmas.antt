-- References and payloads with the same Content-IDs pair.
use Rattle.std.proofs.Common.{◌≡◌, ◌≢◌, ℕ, zero, suc, ◌+◌, ◌<◌, ◌≤◌, List, [], ◌∷◌, ◌++◌, Bool, true, false, get_or, map, arith, refl, ap, ◌∙◌}
use Rattle.std.specs.Prelude.{Some, bytes_eq, codes}
use Rattle.std.specs.List.{All, list_all, range_with_len}
use Rattle.std.proofs.lemmas.Bool.Decides.{nat_tests}
use Rattle.std.proofs.lemmas.List.Elements.{All-head, All-tail, All-map, All-from_get_or}
use Rattle.std.proofs.lemmas.List.Folds.{list_any_at}
use Rattle.std.proofs.lemmas.List.FromFn.{get_or-range_with_len, length-range_with_len}
use Rattle.std.proofs.lemmas.List.Sums.{list_all-from_AllPass}
use Rattle.std.proofs.lemmas.Slice.Eq.{bytes_eq-Decides}
use Rattle.percent_encoding.specs.Percent.{percent_decode}
use Rattle.percent_encoding.proofs.PercentLemmas.{percent_decode-nil, percent_decode_not_percent}
use Rattle.as4_values.specs.declared.header.PartInfo.{PartInfo}
use Rattle.as4_values.specs.declared.payload.Payload.{Payload}
use Rattle.as4_values.specs.Pairing.{cid_in, named_by, is_among, all_differ, are_paired, pair}
use Rattle.exchange_model.specs.Submitting.{cids_of}
use Rattle.submissions.specs.Names.{IsStemByte, IsStem, cid_at}
use Rattle.submissions.proofs.NameLemmas.{cid_is_name, cids_differ}

stem_byte_is_no_percent : (b : ℕ) → IsStemByte b → b ≢ 37
stem_byte_is_no_percent b name is = grind (arith, nat_tests)

-- a name has no escapes
name_stays : (cid : List ℕ) → All IsStemByte cid → percent_decode cid ≡ cid
name_stays [] each = percent_decode-nil
name_stays (b ∷ rest) each =
    percent_decode_not_percent b rest (stem_byte_is_no_percent b (All-head IsStemByte b rest each))
    ∙ ap (λ more. b ∷ more) (name_stays rest (All-tail IsStemByte b rest each))

abbrev href : List ℕ → List ℕ
href cid = codes "cid:" ++ cid

-- the name in a reference to a name
named_in : (cid : List ℕ) → All IsStemByte cid → cid_in (href cid) ≡ Some cid
unfolding cid_in
named_in cid each = ap Some (name_stays cid each)

-- references to Content-IDs name them in order
named_in_order : (parts : List PartInfo) (cids : List (List ℕ)) → map (λ (part : PartInfo). part.href) parts ≡ map (λ cid. Some (href cid)) cids
    → All (All IsStemByte) cids → named_by parts ≡ Some cids
unfolding named_by
named_in_order [] [] same names = refl
named_in_order [] (cid ∷ cids) same names = cc
named_in_order (part ∷ parts) [] same names = cc
named_in_order (part ∷ parts) (cid ∷ cids) same names =
    let first : part.href ≡ Some (href cid) = cc in
    let rest : map (λ (p : PartInfo). p.href) parts ≡ map (λ c. Some (href c)) cids = cc in
    rw (first, named_in cid (All-head (All IsStemByte) cid cids names), named_in_order parts cids rest (All-tail (All IsStemByte) cid cids names)) refl

not_true : (b : Bool) → (b ≡ true → ⊥) → b ≡ false
not_true true h = absurd (h refl)
not_true false h = refl

unequal : (a b : List ℕ) → a ≢ b → bytes_eq a b ≡ false
unequal a b apart = not_true (bytes_eq a b) (λ same. apart ((bytes_eq-Decides a b).0 same))

-- a Content-ID isn't one of the later ones
not_behind : (id : List ℕ) (j a n : ℕ) → j < a → a + n ≤ 64 → is_among (map (cid_at id) (range_with_len a n)) (cid_at id j) ≡ false
not_behind id j a zero less few = refl
not_behind id j a (suc n) less few =
    rw (unequal (cid_at id j) (cid_at id a) (cids_differ id j a (omega arith) (omega arith) less)) (not_behind id j (a + 1) n (omega arith) (omega arith))

differ_from : (id : List ℕ) (a n : ℕ) → a + n ≤ 64 → all_differ (map (cid_at id) (range_with_len a n)) ≡ true
unfolding all_differ
differ_from id a zero few = refl
differ_from id a (suc n) few = rw (not_behind id a (a + 1) n (omega arith) (omega arith), differ_from id (a + 1) n (omega arith)) refl

-- each item of a list is among them
among_themselves : (cids : List (List ℕ)) → list_all (is_among cids) cids ≡ true
among_themselves cids =
    list_all-from_AllPass (is_among cids) cids
    (λ k d within. list_any_at (bytes_eq (get_or cids k d)) cids k d within ((bytes_eq-Decides (get_or cids k d) (get_or cids k d)).1 refl))

names_at : (id : List ℕ) (count : ℕ) → IsStem id → count ≤ 64 → All (All IsStemByte) (map (cid_at id) (range_with_len 0 count))
names_at id count stem few =
    All-map (All IsStemByte) (cid_at id) (range_with_len 0 count)
    (All-from_get_or (λ k. All IsStemByte (cid_at id k)) (range_with_len 0 count) 0
    (λ i within. let below : i < count = rw (length-range_with_len 0 count) at within in
    rw (get_or-range_with_len 0 count i 0 below) ((cid_is_name id (0 + i) stem (omega arith)).each)))

paired_with_themselves : (cids : List (List ℕ)) → all_differ cids ≡ true → are_paired (Some cids) cids ≡ true
paired_with_themselves cids differ = rw (differ, among_themselves cids) refl

pub pairs_by_cids : (id : List ℕ) (count : ℕ) (parts : List PartInfo) (payloads : List Payload) → IsStem id → count ≤ 64
    → map (λ (part : PartInfo). part.href) parts ≡ map (λ cid. Some (codes "cid:" ++ cid)) (cids_of id count)
    → map (λ (payload : Payload). payload.cid) payloads ≡ cids_of id count → pair parts payloads ≡ true
unfolding pair cids_of cid_at
pairs_by_cids id count parts payloads stem few hrefs cids =
    rw (named_in_order parts (cids_of id count) hrefs (names_at id count stem few), cids) (paired_with_themselves (cids_of id count) (differ_from id 0 count (omega arith)))

-- Steps of the loops over places.
use Rattle.std.proofs.Common.{◌≡◌, ℕ, ◌+◌, ◌<◌, ◌≤◌, List, [], ◌∷◌, ◌++◌, length, get_or, map, take, arith, refl, ap, sym, ◌∙◌}
use Rattle.std.specs.Prelude.{Option, Some, IsTrue, codes}
use Rattle.std.specs.List.{All, list_all, range_with_len}
use Rattle.std.proofs.lemmas.List.{take_more, take_all, map-append, length-map, length-take-le}
use Rattle.std.proofs.lemmas.List.Elements.{All-nil, All-push, All-map, All-from_get_or}
use Rattle.std.proofs.lemmas.List.FromFn.{map-range_with_len_more, length-map-range_with_len, get_or-range_with_len, length-range_with_len}
use Rattle.std.proofs.lemmas.List.Sums.{AllPass-from_list_all}
use Rattle.as4_values.specs.declared.header.PartInfo.{PartInfo}
use Rattle.as4_values.specs.declared.payload.Load.{Load}
use Rattle.as4_values.specs.declared.payload.Payload.{Payload}
use Rattle.exchange_model.specs.Submitting.{ArePayloadsOf, cids_of}
use Rattle.as4_values.specs.Payload.{is_media_text}
use Rattle.submissions.specs.Names.{ArePartsOf, IsStem, cid_at}
use Rattle.submissions.proofs.NameLemmas.{cid_is_name}

cids_more : (id : List ℕ) (n : ℕ) → cids_of id (n + 1) ≡ cids_of id n ++ cid_at id n ∷ []
unfolding cids_of cid_at
cids_more id n = map-range_with_len_more (cid_at id) 0 n n (omega arith)

length-cids : (id : List ℕ) (n : ℕ) → length (cids_of id n) ≡ n
unfolding cids_of cid_at
length-cids id n = length-map-range_with_len (cid_at id) 0 n

no_cids : (id : List ℕ) → cids_of id 0 ≡ []
unfolding cids_of
no_cids id = refl

pub no_parts : (id : List ℕ) → ArePartsOf id 0 []
no_parts id = record { hrefs = rw no_cids refl; bare = All-nil (λ (part : PartInfo). part.properties ≡ []) }

pub one_more_part : (id : List ℕ) (n : ℕ) (parts : List PartInfo) (part : PartInfo) → ArePartsOf id n parts
    → part.href ≡ Some (codes "cid:" ++ cid_at id n) → part.properties ≡ [] → ArePartsOf id (n + 1) (parts ++ part ∷ [])
one_more_part id n parts part so_far href bare =
    let href_of : List ℕ → Option (List ℕ) = λ cid. Some (codes "cid:" ++ cid) in
    let cids : map href_of (cids_of id (n + 1)) ≡ map href_of (cids_of id n) ++ href_of (cid_at id n) ∷ [] =
    ap (map href_of) (cids_more id n) ∙ map-append href_of (cids_of id n) (cid_at id n ∷ []) in
    let hrefs : map (λ (p : PartInfo). p.href) (parts ++ part ∷ []) ≡ map href_of (cids_of id n) ++ href_of (cid_at id n) ∷ [] =
    map-append (λ (p : PartInfo). p.href) parts (part ∷ []) ∙ rw (so_far.hrefs, href) refl in
    record { hrefs = hrefs ∙ sym cids; bare = All-push (λ (p : PartInfo). p.properties ≡ []) parts part so_far.bare bare }

-- there is a part info for each Content-ID
pub parts_counted : (id : List ℕ) (n : ℕ) (parts : List PartInfo) → ArePartsOf id n parts → length parts ≡ n
parts_counted id n parts are =
    sym (length-map parts (λ (p : PartInfo). p.href))
    ∙ (ap length are.hrefs ∙ (length-map (cids_of id n) (λ cid. Some (codes "cid:" ++ cid)) ∙ length-cids id n))

pub no_payloads : (id : List ℕ) → ArePayloadsOf id [] []
no_payloads id = record { cids = sym (no_cids id); medias = refl; contents = refl }

pub one_more_payload : (id : List ℕ) (loads : List Load) (payloads : List Payload) (i : ℕ) (load : Load) (payload : Payload)
    → ArePayloadsOf id (take i loads) payloads → i < length loads → load ≡ get_or loads i load
    → payload.cid ≡ cid_at id i → payload.media ≡ load.media → payload.content ≡ load.content
    → ArePayloadsOf id (take (i + 1) loads) (payloads ++ payload ∷ [])
one_more_payload id loads payloads i load payload so_far within is cid media content =
    let front : take (i + 1) loads ≡ take i loads ++ load ∷ [] = take_more loads i load within ∙ ap (λ l. take i loads ++ l ∷ []) (sym is) in
    let len : length (take i loads) ≡ i = length-take-le i loads (omega arith) in
    let more : length (take (i + 1) loads) ≡ i + 1 = length-take-le (i + 1) loads (omega arith) in
    record {
      cids = map-append (λ (p : Payload). p.cid) payloads (payload ∷ []) ∙ rw (so_far.cids, len, cid, more) (sym (cids_more id i));
      medias = map-append (λ (p : Payload). p.media) payloads (payload ∷ [])
          ∙ rw (so_far.medias, media, front) (sym (map-append (λ (l : Load). l.media) (take i loads) (load ∷ [])));
      contents = map-append (λ (p : Payload). p.content) payloads (payload ∷ [])
          ∙ rw (so_far.contents, content, front) (sym (map-append (λ (l : Load). l.content) (take i loads) (load ∷ [])));
    }

pub all_payloads : (id : List ℕ) (loads : List Load) (payloads : List Payload) (i : ℕ) → ArePayloadsOf id (take i loads) payloads
    → length loads ≤ i → ArePayloadsOf id loads payloads
all_payloads id loads payloads i so_far all = rw (take_all i loads all) at so_far

-- each load has a media text
pub typed_at : (loads : List Load) (i : ℕ) (load : Load) → IsTrue (list_all (λ (l : Load). is_media_text l.media) loads)
    → i < length loads → load ≡ get_or loads i load → IsTrue (is_media_text load.media)
typed_at loads i load typed within is =
    rw is (AllPass-from_list_all (λ (l : Load). is_media_text l.media) loads typed i load within)

-- the Content-IDs of a submission are short
pub short_cids : (id : List ℕ) (count : ℕ) → IsStem id → count ≤ 64 → All (λ cid. length cid ≤ 82) (cids_of id count)
unfolding cids_of cid_at
short_cids id count stem few =
    All-map (λ cid. length cid ≤ 82) (cid_at id) (range_with_len 0 count)
    (All-from_get_or (λ k. length (cid_at id k) ≤ 82) (range_with_len 0 count) 0
    (λ i within. let below : i < count = rw (length-range_with_len 0 count) at within in
    rw (get_or-range_with_len 0 count i 0 below) ((cid_is_name id (0 + i) stem (omega arith)).limited)))

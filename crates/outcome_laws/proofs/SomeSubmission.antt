-- A producer's data that isn't too large makes a submission, by a mode.
use Rattle.std.proofs.Common.{◌≡◌, ℕ, ◌+◌, ◌^◌, ◌<◌, ◌≤◌, List, [], ◌∷◌, ◌++◌, false, Option, Some, None, length, map, refl, ap, arith}
use Rattle.std.specs.Prelude.{IsTrue, IfSome, codes}
use Rattle.std.specs.List.{All, list_all, range_with_len}
use Rattle.std.proofs.lemmas.List.Elements.{All-nil, All-cons}
use Rattle.std.proofs.lemmas.List.FromFn.{length-map-range_with_len}
use Rattle.as4_effects.specs.declared.submission.Submission.{Submission}
use Rattle.as4_values.specs.Identifiers.{submission_id}
use Rattle.as4_values.specs.Moment.{IsStampOf}
use Rattle.as4_values.specs.Payload.{is_media_text}
use Rattle.as4_values.specs.declared.header.PartInfo.{PartInfo}
use Rattle.as4_values.specs.declared.header.UserHeader.{UserHeader}
use Rattle.mode_values.specs.declared.mode.Mode.{Mode}
use Rattle.as4_values.specs.declared.payload.Load.{Load}
use Rattle.as4_values.specs.declared.payload.Payload.{Payload}
use Rattle.as4_values.specs.declared.moment.TheConstants.{MAX_MOMENT}
use Rattle.exchange_model.specs.Submitting.{IsHeaderOf, ArePayloadsOf, IsSubmissionOf, are_too_large, channel_of, cids_of}
use Rattle.submissions.specs.Names.{IsStem, cid_at}
use Rattle.submissions.proofs.LimitLemmas.{are_small}
use Rattle.submissions.proofs.MadeLemmas.{IsMadeOf, IsSound, made_is_sound}
use Rattle.submissions.proofs.NameLemmas.{cid_is_content_id, submission_id_is_stem}
use Rattle.outcome_laws.proofs.SomeStamp.{some_stamp}

-- part infos with these references, and nothing else
record AreBare (cids : List (List ℕ)) (parts : List PartInfo) : Type 0 where
  hrefs : map (λ (part : PartInfo). part.href) parts ≡ map (λ cid. Some (codes "cid:" ++ cid)) cids
  bare : All (λ (part : PartInfo). part.properties ≡ []) parts
  counted : length parts ≡ length cids

bare_part : List ℕ → PartInfo
bare_part cid = record { href = Some (codes "cid:" ++ cid); properties = []; counted = omega arith }

some_parts : (cids : List (List ℕ)) → (parts : List PartInfo) × AreBare cids parts
unfolding bare_part
some_parts [] = ([], record { hrefs = refl; bare = All-nil (λ (part : PartInfo). part.properties ≡ []); counted = refl })
some_parts (cid ∷ cids) =
    let rest = some_parts cids in (
      bare_part cid ∷ rest.0,
      record {
        hrefs = ap (λ more. Some (codes "cid:" ++ cid) ∷ more) rest.1.hrefs;
        bare = All-cons (λ (part : PartInfo). part.properties ≡ []) (bare_part cid) rest.0 refl rest.1.bare;
        counted = let more = rest.1.counted in omega arith;
      },
    )

-- each load with the Content-ID of its place
record AreLoaded (cids : List (List ℕ)) (loads : List Load) (payloads : List Payload) : Type 0 where
  named : map (λ (payload : Payload). payload.cid) payloads ≡ cids
  medias : map (λ (payload : Payload). payload.media) payloads ≡ map (λ (load : Load). load.media) loads
  contents : map (λ (payload : Payload). payload.content) payloads ≡ map (λ (load : Load). load.content) loads

loaded : (id : List ℕ) (k : ℕ) (load : Load) → IsStem id → k < 64 → IsTrue (is_media_text load.media) → Payload
loaded id k load stem below typed =
    record { cid = cid_at id k; media = load.media; content = load.content; named = cid_is_content_id id k stem below; typed = typed }

abbrev have_media_texts : List Load → Type 0
have_media_texts loads = IsTrue (list_all (λ (load : Load). is_media_text load.media) loads)

some_payloads : (id : List ℕ) (k : ℕ) (loads : List Load) → IsStem id → k + length loads ≤ 64 → have_media_texts loads
    → (payloads : List Payload) × AreLoaded (map (cid_at id) (range_with_len k (length loads))) loads payloads
unfolding loaded
some_payloads id k [] stem few typed = ([], record { named = refl; medias = refl; contents = refl })
some_payloads id k (load ∷ loads) stem few typed =
    let first : IsTrue (is_media_text load.media) = grind arith in
    let others : have_media_texts loads = grind arith in
    let rest = some_payloads id (k + 1) loads stem (omega arith) others in (
      loaded id k load stem (omega arith) first ∷ rest.0,
      record {
        named = ap (λ more. cid_at id k ∷ more) rest.1.named;
        medias = ap (λ more. load.media ∷ more) rest.1.medias;
        contents = ap (λ more. load.content ∷ more) rest.1.contents;
      },
    )

abbrev header_with : Mode → List ℕ → List ℕ → Option (List ℕ) → (parts : List PartInfo) → length parts ≤ 255 → UserHeader
header_with mode id stamp conversation parts few = record {
  mpc = channel_of mode.route;
  stamp = stamp;
  id = id;
  ref_to = None;
  from = mode.from;
  to = mode.to;
  agreement = mode.agreement;
  service = mode.service;
  action = mode.action;
  conversation = conversation;
  properties = [];
  parts = parts;
  properties_counted = omega arith;
  parts_counted = few;
}

pub some_submission : (mode : Mode) (number now ms nonce : ℕ) (conversation : Option (List ℕ)) (loads : List Load) → number < 1048576
    → now ≤ MAX_MOMENT → ms ≤ MAX_MOMENT → nonce < 2 ^ 128 → IfSome conversation (λ text. length text ≤ 65536)
    → are_too_large loads ≡ false → (s : Submission) × IsSubmissionOf mode number now ms nonce conversation loads s
unfolding cids_of cid_at
some_submission mode number now ms nonce conversation loads below dated stamped fits talks small_enough = (
  record {
    number = number;
    header = header;
    payloads = payloads.0;
    route = mode.route;
    retries = mode.retries;
    period = mode.period;
    moment = now;
    numbered = below;
    identified = sound.identified;
    paired = sound.paired;
    routed = sound.routed;
    limited = mode.limited;
    timed = mode.timed;
    dated = dated;
    fits = sound.fits mode.retries mode.period now;
  },
  record {
    numbered = refl;
    headed = headed;
    loaded = carried;
    route = refl;
    retries = refl;
    period = refl;
    moment = refl;
  },
)
  where
    id : List ℕ
    id = submission_id number nonce

    stem : IsStem id
    stem = submission_id_is_stem number nonce (omega arith)

    few : length loads ≤ 64
    few = (are_small loads small_enough).few

    parts : (parts : List PartInfo) × AreBare (cids_of id (length loads)) parts
    parts = some_parts (cids_of id (length loads))

    counted : length (cids_of id (length loads)) ≡ length loads
    counted = length-map-range_with_len (cid_at id) 0 (length loads)

    stamp : (stamp : List ℕ) × IsStampOf ms stamp
    stamp = some_stamp ms stamped

    header : UserHeader
    header = header_with mode id stamp.0 conversation parts.0 (omega (arith, parts.1.counted, counted, few))

    headed : IsHeaderOf mode id ms conversation (length loads) header
    headed = record {
      mpc = refl;
      stamped = stamp.1;
      named = refl;
      refers = refl;
      from = refl;
      to = refl;
      agreement = refl;
      service = refl;
      action = refl;
      talks = refl;
      properties = refl;
      hrefs = parts.1.hrefs;
      bare = parts.1.bare;
    }

    payloads : (payloads : List Payload) × AreLoaded (map (cid_at id) (range_with_len 0 (length loads))) loads payloads
    payloads = some_payloads id 0 loads stem (omega (arith, few)) (are_small loads small_enough).typed

    carried : ArePayloadsOf id loads payloads.0
    carried = record { cids = payloads.1.named; medias = payloads.1.medias; contents = payloads.1.contents }

    made : IsMadeOf mode number ms nonce conversation loads header payloads.0 mode.route
    made = record { numbered = below; nonce_fits = fits; small = small_enough; talks = talks; headed = headed; loaded = carried; routed = refl }

    sound : IsSound number header payloads.0 mode.route
    sound = made_is_sound mode number ms nonce conversation loads header payloads.0 mode.route made

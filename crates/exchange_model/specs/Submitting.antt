-- The submission that is made of a producer's data (ebMS 3.0 Core, section 5.2.2; AS4 Profile, section 5.1).
use Rattle.std.specs.Prelude.{◌≡◌, ℕ, ◌+◌, List, [], ◌++◌, Bool, not, ◌||◌, nat_lt, Option, Some, None, length, map, codes}
use Rattle.std.specs.Fmt.{decimal}
use Rattle.std.specs.List.{All, list_all, range_with_len, sum_by}
use Rattle.as4_effects.specs.declared.submission.Submission.{Submission}
use Rattle.as4_values.specs.Identifiers.{submission_id}
use Rattle.as4_values.specs.Moment.{IsStampOf}
use Rattle.as4_values.specs.Payload.{is_media_text}
use Rattle.as4_values.specs.declared.header.UserHeader.{UserHeader}
use Rattle.as4_values.specs.declared.header.PartInfo.{PartInfo}
use Rattle.mode_values.specs.declared.mode.Mode.{Mode}
use Rattle.as4_values.specs.declared.payload.Load.{Load}
use Rattle.as4_values.specs.declared.payload.Payload.{Payload}
use Rattle.as4_values.specs.declared.route.Route.{Route}
use Rattle.as4_values.specs.declared.route.Route.TheVariants.{Push, Pull}

-- more than 64 loads, a media text that no part may have, or more than 62,914,560 bytes together: this handler's own
-- limits
unfoldable pub are_too_large : List Load → Bool
are_too_large loads =
    nat_lt 64 (length loads)
    || (not (list_all (λ load. is_media_text load.media) loads)
    || nat_lt 62914560 (sum_by (λ load. length load.content) loads))

-- the channel of a pull
abbrev pub channel_of : Route → Option (List ℕ)
channel_of (Push address) = None
channel_of (Pull mpc address) = Some mpc

abbrev pub address_of : Route → List ℕ
address_of (Push address) = address
address_of (Pull mpc address) = address

-- the Content-IDs of `count` payloads: 1, 2 and so on, a point and the identifier (RFC 2392)
unfoldable pub cids_of : List ℕ → ℕ → List (List ℕ)
cids_of id count = map (λ k. decimal (k + 1) ++ codes "." ++ id) (range_with_len 0 count)

-- the header by a mode, for `count` payloads: made at the moment `ms`, with this identifier
pub record IsHeaderOf (mode : Mode) (id : List ℕ) (ms : ℕ) (conversation : Option (List ℕ)) (count : ℕ) (header : UserHeader) : Type 0 where
  pub mpc : header.mpc ≡ channel_of mode.route
  pub stamped : IsStampOf ms header.stamp
  pub named : header.id ≡ id
  pub refers : header.ref_to ≡ None
  pub from : header.from ≡ mode.from
  pub to : header.to ≡ mode.to
  pub agreement : header.agreement ≡ mode.agreement
  pub service : header.service ≡ mode.service
  pub action : header.action ≡ mode.action
  pub talks : header.conversation ≡ conversation
  pub properties : header.properties ≡ []
  pub hrefs : map (λ (part : PartInfo). part.href) header.parts ≡ map (λ cid. Some (codes "cid:" ++ cid)) (cids_of id count)
  pub bare : All (λ (part : PartInfo). part.properties ≡ []) header.parts

-- each load unchanged, with its Content-ID
pub record ArePayloadsOf (id : List ℕ) (loads : List Load) (payloads : List Payload) : Type 0 where
  pub cids : map (λ (payload : Payload). payload.cid) payloads ≡ cids_of id (length loads)
  pub medias : map (λ (payload : Payload). payload.media) payloads ≡ map (λ (load : Load). load.media) loads
  pub contents : map (λ (payload : Payload). payload.content) payloads ≡ map (λ (load : Load). load.content) loads

-- the submission of this number by a mode, submitted at the moment `now` by the endpoint's clock, in an event with the
-- moment `ms` and this nonce
pub record IsSubmissionOf (mode : Mode) (number now ms nonce : ℕ) (conversation : Option (List ℕ)) (loads : List Load) (s : Submission) : Type 0 where
  pub numbered : s.number ≡ number
  pub headed : IsHeaderOf mode (submission_id number nonce) ms conversation (length loads) s.header
  pub loaded : ArePayloadsOf (submission_id number nonce) loads s.payloads
  pub route : s.route ≡ mode.route
  pub retries : s.retries ≡ mode.retries
  pub period : s.period ≡ mode.period
  pub moment : s.moment ≡ now

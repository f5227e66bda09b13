-- A submission that is made by a mode is sound.
use Rattle.std.proofs.Common.{◌≡◌, ℕ, ◌^◌, ◌<◌, ◌≤◌, List, false, length, arith}
use Rattle.std.specs.Prelude.{Option, IsTrue, IfSome}
use Rattle.as4_values.specs.Identifiers.{submission_id}
use Rattle.mode_values.specs.ModeRanges.{is_mode_route}
use Rattle.as4_values.specs.declared.header.UserHeader.{UserHeader}
use Rattle.mode_values.specs.declared.mode.Mode.{Mode}
use Rattle.as4_values.specs.declared.payload.Load.{Load}
use Rattle.as4_values.specs.declared.payload.Payload.{Payload}
use Rattle.as4_values.specs.declared.route.Route.{Route}
use Rattle.as4_values.specs.declared.route.Route.TheVariants.{Push, Pull}
use Rattle.as4_values.specs.Pairing.{pair}
use Rattle.as4_effects.specs.Sound.{is_id_of, is_route, submitted_body, fits_an_effect}
use Rattle.exchange_model.specs.Submitting.{IsHeaderOf, ArePayloadsOf, are_too_large}
use Rattle.submissions.specs.Names.{IsStem, ArePartsOf}
use Rattle.submissions.proofs.LengthLemmas.{IsShortHeader, header_is_short, submission_fits}
use Rattle.submissions.proofs.LimitLemmas.{are_small}
use Rattle.submissions.proofs.NameLemmas.{submission_id_is_stem}
use Rattle.submissions.proofs.NonceLemmas.{id_is_of}
use Rattle.submissions.proofs.PairLemmas.{pairs_by_cids}
use Rattle.submissions.proofs.StepLemmas.{parts_counted, short_cids}

route_is_one : (r : Route) → IsTrue (is_mode_route r) → IsTrue (is_route r)
unfolding is_mode_route is_route
route_is_one (Push address) is = is
route_is_one (Pull mpc address) is = grind arith

-- the parts of a submission
pub record IsMadeOf (mode : Mode) (number ms nonce : ℕ) (conversation : Option (List ℕ)) (loads : List Load)
    (header : UserHeader) (payloads : List Payload) (route : Route) : Type 0 where
  pub numbered : number < 1048576
  pub nonce_fits : nonce < 2 ^ 128
  pub small : are_too_large loads ≡ false
  pub talks : IfSome conversation (λ text. length text ≤ 65536)
  pub headed : IsHeaderOf mode (submission_id number nonce) ms conversation (length loads) header
  pub loaded : ArePayloadsOf (submission_id number nonce) loads payloads
  pub routed : route ≡ mode.route

-- the obligations of a submission's ghost fields
pub record IsSound (number : ℕ) (header : UserHeader) (payloads : List Payload) (route : Route) : Type 0 where
  pub identified : IsTrue (is_id_of number header.id)
  pub paired : IsTrue (pair header.parts payloads)
  pub routed : IsTrue (is_route route)
  pub fits : (retries period moment : ℕ) → IsTrue (fits_an_effect (submitted_body number header payloads route retries period moment))

pub made_is_sound : (mode : Mode) (number ms nonce : ℕ) (conversation : Option (List ℕ)) (loads : List Load) (header : UserHeader)
    (payloads : List Payload) (route : Route) → IsMadeOf mode number ms nonce conversation loads header payloads route
    → IsSound number header payloads route
made_is_sound mode number ms nonce conversation loads header payloads route made =
    let id : List ℕ = submission_id number nonce in
    let small = are_small loads made.small in
    let few : length loads ≤ 64 = small.few in
    let below : number < 1048576 = made.numbered in
    let stem : IsStem id = submission_id_is_stem number nonce (omega arith) in
    let is_mode : IsTrue (is_mode_route route) = rw made.routed mode.routed in
    let parts : ArePartsOf id (length loads) header.parts = record { hrefs = made.headed.hrefs; bare = made.headed.bare } in
    let count : length header.parts ≡ length loads = parts_counted id (length loads) header.parts parts in
    let short : IsShortHeader header =
    header_is_short mode id ms conversation (length loads) header made.headed stem.limited made.talks (short_cids id (length loads) stem small.few) (omega arith) in
    record {
      identified = rw made.headed.named (id_is_of number nonce made.nonce_fits);
      paired = pairs_by_cids id (length loads) header.parts payloads stem small.few made.headed.hrefs made.loaded.cids;
      routed = route_is_one route is_mode;
      fits = λ retries period moment. submission_fits number retries period moment header payloads loads route short
          made.loaded.contents small.few small.limited is_mode;
    }

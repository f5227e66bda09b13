-- A chain whose invariants hold delivers each message once.
use Rattle.std.proofs.Common.{◌≡◌, ℕ, ◌≤◌, List, Some, sym, ap, ◌∙◌, subst}
use Rattle.std.specs.Prelude.{slice_get}
use Rattle.std.specs.List.{Contains}
use Rattle.as4_values.specs.declared.header.UserHeader.{UserHeader}
use Rattle.as4_values.specs.declared.payload.Payload.{Payload}
use Rattle.as4_effects.specs.declared.mark.Mark.TheVariants.{Receipted}
use Rattle.exchange_model.specs.DeliveredOnce.{CameFrom}
use Rattle.exchange_model.specs.declared.inbox_entry.InboxEntry.{InboxEntry}
use Rattle.exchange_model.specs.declared.sent.Sent.{Sent}
use Rattle.exchange_model.proofs.ListLemmas.{Has}
use Rattle.exchange_laws.proofs.ListLemmas.{contains_had, has_contained, has_got}
use Rattle.hub_laws.specs.Chain.{Chain}
use Rattle.hub_laws.specs.DeliveredThrough.{CameThrough, HasLoadsOf, HasOneOf, IsAtHub, IsDelivered, IsFromFirst}
use Rattle.hub_laws.proofs.ChainLemmas.{ChainHolds, IsRelayed}
use Rattle.hub_laws.proofs.ListLemmas.{IsPlaced, one_place, place_of, placed}

-- the entry that is at a place
same_got : {X : Type 0} (xs : List X) (n : ℕ) (x y : X) → slice_get xs n ≡ Some x → slice_get xs n ≡ Some y → x ≡ y
same_got xs n x y e f = let both : Some x ≡ Some y = sym e ∙ f in cc

-- two entries that came from one submission are at one place
once : (chain : Chain) → ChainHolds chain → (s : Sent) (j k n m : ℕ) (a b : InboxEntry) → slice_get chain.last.end.inbox j ≡ Some a
    → slice_get chain.last.end.inbox k ≡ Some b → CameThrough chain.hub s n a → CameThrough chain.hub s m b → j ≡ k
once chain holds s j k n m a b at there x y =
    let place : n ≡ m = one_place chain.hub.inbox n m x.received.received y.received.received holds.back.apart x.received.there y.received.there
    (x.received.identified ∙ sym y.received.identified) in
    let same : x.relayed ≡ y.relayed = same_got chain.hub.sent m x.relayed y.relayed
    (subst (λ p. slice_get chain.hub.sent p ≡ Some x.relayed) place x.there) y.there in
    one_place chain.last.end.inbox j k a b holds.last.apart at there
    (x.identified ∙ ap (λ (t : Sent). t.submission.header.id) same ∙ sym y.identified)

-- each entry of the last endpoint
from_first : (chain : Chain) → ChainHolds chain → (k : ℕ) (entry : InboxEntry) → slice_get chain.last.end.inbox k ≡ Some entry
    → IsFromFirst chain.first.end chain.hub entry (chain.last.end.confirmed ≤ k)
from_first chain holds k entry at = record {
  source = from.source;
  submitted = contains_had chain.first.end.sent from.source from.submitted;
  place = place.0;
  through = record {
    received = record { received = from.entry; there = from.there; identified = ap (λ (header : UserHeader). header.id) from.header };
    relayed = relayed.0;
    there = place.1;
    identified = ap (λ (header : UserHeader). header.id) relayed.2.header;
  };
  talks = ap (λ (header : UserHeader). header.conversation) relayed.2.header ∙ from.talks;
  loads = λ kept. subst (λ (payloads : List Payload). HasLoadsOf payloads from.source.submission.payloads) (sym (relayed.2.payloads kept)) from.loads;
}
  where
    relayed : (t : Sent) × Has chain.hub.sent t × CameFrom t entry (chain.last.end.confirmed ≤ k)
    relayed = holds.to_last.submitted k entry at

    place : (n : ℕ) × (slice_get chain.hub.sent n ≡ Some relayed.0)
    place = place_of chain.hub.sent relayed.0 relayed.1

    from : IsRelayed chain.first.end.sent chain.hub.inbox place.0 relayed.0.submission
    from = holds.relayed place.0 relayed.0 place.1

-- a receipted submission of the first endpoint
at_hub : (chain : Chain) → ChainHolds chain → (s : Sent) → Contains chain.first.end.sent s → s.mark ≡ Receipted
    → (n : ℕ) × IsAtHub chain.hub s n
at_hub chain holds s there m =
    let is = placed chain.hub.inbox s.submission.header.id
    (holds.to_hub.receipted s (has_contained chain.first.end.sent s there) m) in
    (is.place, record { received = is.entry; there = is.there; identified = is.identified })

-- a receipted submission of the hub
has_one : (chain : Chain) → ChainHolds chain → (s relayed : Sent) (n : ℕ) → IsAtHub chain.hub s n → slice_get chain.hub.sent n ≡ Some relayed
    → relayed.mark ≡ Receipted → HasOneOf chain.hub chain.last.end s
has_one chain holds s relayed n received at m = record {
  place = is.place;
  entry = is.entry;
  there = is.there;
  through = (n, through);
  only = λ k p other there came. once chain holds s k is.place p n other is.entry there is.there came through;
}
  where
    is : IsPlaced chain.last.end.inbox relayed.submission.header.id
    is = placed chain.last.end.inbox relayed.submission.header.id
        (holds.to_last.receipted relayed (has_got chain.hub.sent n relayed at) m)

    through : CameThrough chain.hub s n is.entry
    through = record { received = received; relayed = relayed; there = at; identified = is.identified }

pub delivers_through : (chain : Chain) → ChainHolds chain → IsDelivered chain
delivers_through chain holds = record {
  submitted = from_first chain holds;
  at_most_once = once chain holds;
  arrived = at_hub chain holds;
  exactly_once = has_one chain holds;
}

-- What each exchange keeps of a link, a collection keeps: that it asks for one address alone.
use Rattle.std.proofs.Common.{◌≡◌, ◌+◌, ℕ, zero, suc, List, [], Option, Some, None, Result, Ok, Err, inl, inr, ◌∙◌, sym, subst}
use Rattle.std.specs.Prelude.{⊤, All}
use Rattle.std.proofs.lemmas.List.Elements.{All-nil, All-push}
use Rattle.as4_flow.specs.Flow.{Told}
use Rattle.as4_flow.specs.declared.sink.Sink.{Ghosts as SinkMeaning}
use Rattle.as4_host.specs.Lists.{and_one, none_of}
use Rattle.as4_host.specs.declared.host.Host.{Ghosts as HostMeaning}
use Rattle.as4_host.specs.declared.host.HostRefusal.{HostRefusal}
use Rattle.as4_host.specs.declared.host.HostRefusal.TheVariants as refusal
use Rattle.as4_host.specs.declared.link.Link.{Ghosts as LinkMeaning}
use Rattle.as4_http.specs.declared.message.Response.{Response}
use Rattle.link_exchange.specs.Exchanges.{Exchanges}
use Rattle.clients.specs.Requests.{confirm_request, fetch_request}
use Rattle.clients.specs.Runs.{Collects, CollectsOver, ConfirmsIf, KeepsIf, Run, Submits, Takes, TakesAll, run}
use Rattle.clients.specs.declared.ending.CollectEnd.{CollectEnd}
use Rattle.clients.specs.declared.ending.SubmitEnd.{SubmitEnd}
use Rattle.clients.specs.declared.ending.Visit.{Visit}
use Rattle.link_exchange.specs.declared.exchanging.Lost.{Lost}
use Rattle.link_exchange.specs.declared.exchanging.Lost.TheVariants as lost
use Rattle.clients.proofs.SentLemmas.{and_one_told}

-- only this address was asked for
abbrev pub AsksAt : List ℕ → Option (List (List ℕ)) → Type 0
AsksAt address addresses = Told addresses (All (λ a. a ≡ address))

one_address : (address : List ℕ) (old new : Option (List (List ℕ))) → AsksAt address old → new ≡ and_one old (Some address) → AsksAt address new
one_address address old new so_far is all told =
    let parts = and_one_told old (Some address) all (sym is ∙ told) in
    let one : parts.1 ≡ address = (let same : Some address ≡ Some parts.1 = parts.3 in cc) in
    subst (All (λ a. a ≡ address)) (sym parts.4)
    (All-push (λ a. a ≡ address) parts.0 parts.1 (so_far parts.0 parts.2) one)

none_asked : (address : List ℕ) (answers addresses : Option (List (List ℕ))) → addresses ≡ none_of answers → AsksAt address addresses
none_asked address answers addresses is all told = subst (All (λ a. a ≡ address)) (sym (none_is answers (sym is ∙ told))) (All-nil (λ a. a ≡ address))
  where
    none_is : (a : Option (List (List ℕ))) → none_of a ≡ Some all → all ≡ []
    none_is (Some xs) same = let here : [] ≡ all = cc in sym here
    none_is None same = absurd cc

module _ {L In Out : Type 0} (K : LinkMeaning L In Out) (address : List ℕ) where
  pub exchange_asks : (old new : L) (request : List ℕ) (told : Result Response Lost) → Exchanges K old new address request told
      → AsksAt address (K.addresses old) → AsksAt address (K.addresses new)
  exchange_asks old new request (Ok response) e so_far = one_address address _ _ so_far e.addresses
  exchange_asks old new request (Err lost.Unreached) e so_far = one_address address _ _ so_far e.addresses
  exchange_asks old new request (Err lost.Unsent) e so_far = one_address address _ _ so_far e.addresses
  exchange_asks old new request (Err (lost.Unread why)) e so_far = one_address address _ _ so_far e.addresses
  exchange_asks old new request (Err lost.NoMemory) e so_far = subst (AsksAt address) (sym e.addresses) so_far

  confirm_asks : (n : ℕ) (written : Result ⊤ HostRefusal) (old new : L) (end : Visit) → ConfirmsIf K address n written old new end
      → AsksAt address (K.addresses old) → AsksAt address (K.addresses new)
  confirm_asks n (Ok _) old new end c so_far = exchange_asks old new (confirm_request address n) c.0 c.1 so_far
  confirm_asks n (Err refusal.HostFailed) old new end c so_far = subst (λ (l : L). AsksAt address (K.addresses l)) (sym c.1) so_far
  confirm_asks n (Err refusal.NoMemory) old new end c so_far = subst (λ (l : L). AsksAt address (K.addresses l)) (sym c.1) so_far

  module _ {H Store Door DoorIn DoorOut Dialer DialerIn DialerOut Time Dice : Type 0} (M : HostMeaning H Store Door DoorIn DoorOut Dialer DialerIn DialerOut Time Dice)
      (folder : List ℕ) where
    keep_asks : (n : ℕ) (fetched : Result (List ℕ) Visit) (old new : H) (middle later : L) (end : Visit) → KeepsIf M K address folder n fetched old new middle later end
        → AsksAt address (K.addresses middle) → AsksAt address (K.addresses later)
    keep_asks n (Ok file) old new middle later end k so_far = confirm_asks n k.written middle later end k.confirms so_far
    keep_asks n (Err other) old new middle later end k so_far = subst (λ (l : L). AsksAt address (K.addresses l)) (sym k.2) so_far

    module _ {O : Type 0} (S : SinkMeaning O) where
      takes_asks : (n : ℕ) (old new : Run H L O) (result : Result ⊤ CollectEnd) → Takes M K address folder S n old new result
          → AsksAt address (K.addresses old.link) → AsksAt address (K.addresses new.link)
      takes_asks n old new result t so_far =
          let v = t.visits in
          keep_asks n v.fetched old.host new.host v.middle new.link t.end v.keeps
          (exchange_asks old.link v.middle (fetch_request address n) v.fetches.0 v.fetches.1 so_far)

      all_asks : (first k : ℕ) (old new : Run H L O) → TakesAll M K address folder S first k old new
          → AsksAt address (K.addresses old.link) → AsksAt address (K.addresses new.link)
      all_asks first zero old new same so_far = subst (λ (r : Run H L O). AsksAt address (K.addresses r.link)) (sym same) so_far
      all_asks first (suc k) old new (middle, all, last) so_far =
          takes_asks (first + k) middle new (Ok tt) last (all_asks first k old middle all so_far)

      over_asks : (first count : ℕ) (old new : Run H L O) (end : CollectEnd) → CollectsOver M K address folder S first count old new end
          → AsksAt address (K.addresses old.link) → AsksAt address (K.addresses new.link)
      over_asks first count old new end (inl (is, all)) so_far = all_asks first count old new all so_far
      over_asks first count old new end (inr (k, middle, few, all, last)) so_far =
          takes_asks (first + k) middle new (Err end) last (all_asks first k old middle all so_far)

      pub collect_addresses : (first count : ℕ) (old new : H) (before after : O) (end : CollectEnd)
          → Collects M K S address folder first count old new before after end → AsksAt address (M.addresses new)
      collect_addresses first count old new before after end c =
          subst (AsksAt address) (sym c.settles.addresses)
          (over_asks first count (run c.middle c.link before) (run c.last c.later after) end c.collects
          (none_asked address (M.answers old) (K.addresses c.link) c.dials.addresses))

    pub submit_addresses : (request : List ℕ) (old new : H) (end : SubmitEnd) → Submits M K address request old new end → AsksAt address (M.addresses new)
    submit_addresses request old new end s =
        subst (AsksAt address) (sym s.settles.addresses)
        (exchange_asks s.link s.later request s.told s.exchanges (none_asked address (M.answers old) (K.addresses s.link) s.dials.addresses))

-- The requests of a collection, put together from those of its entries.
use Rattle.std.proofs.Common.{◌≡◌, ◌⊎◌, ◌+◌, ◌<◌, ◌≤◌, ◌^◌, ℕ, zero, suc, Bool, false, List, [], ◌∷◌, ◌++◌, take, Option, Some, None, Result, Ok, Err, inl, inr, ◌∙◌, refl, sym, ap, subst, arith, append_assoc, append-nil}
use Rattle.std.specs.Prelude.{⊤}
use Rattle.as4_flow.specs.Flow.{Told, appended}
use Rattle.as4_flow.specs.declared.sink.Sink.{Ghosts as SinkMeaning}
use Rattle.as4_host.specs.Lists.{and_one, none_of}
use Rattle.as4_host.specs.declared.host.Host.{Ghosts as HostMeaning}
use Rattle.as4_host.specs.declared.host.HostRefusal.{HostRefusal}
use Rattle.as4_host.specs.declared.host.HostRefusal.TheVariants as refusal
use Rattle.as4_host.specs.declared.link.Link.{Ghosts as LinkMeaning}
use Rattle.as4_http.specs.declared.message.Response.{Response}
use Rattle.as4_http.specs.declared.refusal.HttpRefusal.TheVariants as http
use Rattle.clients.specs.Causes.{collect_writes, submit_writes}
use Rattle.clients.specs.Endings.{collect_lost, submit_end}
use Rattle.link_exchange.specs.Exchanges.{Exchanges}
use Rattle.clients.specs.Lines.{IsKept}
use Rattle.clients.specs.Requests.{confirm_request, fetch_request}
use Rattle.clients.specs.Runs.{Collects, CollectsOver, ConfirmsIf, FileCame, KeepsIf, Run, Submits, Takes, TakesAll, Tells, Writes, file_of, file_path, run}
use Rattle.clients.specs.Sent.{AskForAll, AsksFor, HasSent, IsUnsent, SendsOnce, SendsRequests}
use Rattle.clients.specs.declared.ending.CollectEnd.{CollectEnd}
use Rattle.clients.specs.declared.ending.CollectEnd.TheVariants as collect
use Rattle.clients.specs.declared.ending.SubmitEnd.{SubmitEnd}
use Rattle.clients.specs.declared.ending.Visit.{Visit}
use Rattle.clients.specs.declared.ending.Visit.TheVariants as visit
use Rattle.link_exchange.specs.declared.exchanging.Lost.{Lost}
use Rattle.link_exchange.specs.declared.exchanging.Lost.TheVariants as lost
use Rattle.clients.proofs.CauseLemmas.{no_file_came, result_at, visit_at, visit_end_at, watches_writes}
use Rattle.clients.proofs.CountLemmas.{lost_writes, told_at}
use Rattle.clients.proofs.EndLemmas.{submit_told, writes_lost}
use Rattle.clients.proofs.HostLemmas.{not_done}
use Rattle.clients.proofs.KeptLemmas.{IsLater, kept_file}
use Rattle.clients.proofs.LineLemmas.{kept_stays, left_by, stays_at}

-- a list of what was sent that is observable, and one more
pub and_one_told : (old : Option (List (List ℕ))) (one : Option (List ℕ)) (all : List (List ℕ)) → and_one old one ≡ Some all
    → (sent : List (List ℕ)) × (x : List ℕ) × (old ≡ Some sent) × (one ≡ Some x) × (all ≡ sent ++ x ∷ [])
and_one_told (Some sent) (Some x) all is = (sent, x, refl, refl, let same : sent ++ x ∷ [] ≡ all = cc in sym same)
and_one_told (Some sent) None all is = absurd cc
and_one_told None one all is = absurd cc

none_told : (answers : Option (List (List ℕ))) (bytes x : List ℕ) → appended (none_of answers) bytes ≡ Some x → x ≡ bytes
none_told (Some answers) bytes x is = let same : bytes ≡ x = cc in sym same
none_told None bytes x is = absurd cc

-- a new link sent nothing
none_made : (answers sent : Option (List (List ℕ))) → sent ≡ none_of answers → Told sent (λ all. all ≡ [])
none_made answers sent is all told = none_is answers (sym is ∙ told)
  where
    none_is : (a : Option (List (List ℕ))) → none_of a ≡ Some all → all ≡ []
    none_is (Some xs) same = let here : [] ≡ all = cc in sym here
    none_is None same = absurd cc

-- no connection was opened
abbrev pub IsLost : Result Response Lost → Type 0
IsLost (Err lost.Unreached) = Unit {0}
IsLost (Err lost.NoMemory) = Unit {0}
IsLost other = ⊥

-- what an exchange sends
abbrev pub Sends : Result Response Lost → List ℕ → List (List ℕ) → Option (List (List ℕ)) → Type 0
Sends told request before sent =
    (own : List (List ℕ)) × ((own ≡ request ∷ []) ⊎ ((own ≡ []) × IsLost told)) × HasSent (told_at lost_writes told) (before ++ own) sent

module _ {L In Out : Type 0} (K : LinkMeaning L In Out) (old new : L) (address request : List ℕ) (before : List (List ℕ))
    (so_far : Told (K.sent old) (λ all. all ≡ before)) where
  -- the sink of a connection that was settled
  pub one_told : (bytes : List ℕ) (taken later : Option (List ℕ)) → taken ≡ none_of (K.answers old) → later ≡ appended taken bytes
      → K.sent new ≡ and_one (K.sent old) later → Told (K.sent new) (λ all. all ≡ before ++ bytes ∷ [])
  one_told bytes taken later none is sent all told_all =
      let parts = and_one_told (K.sent old) later all (sym sent ∙ told_all) in
      let whole : parts.0 ≡ before = so_far parts.0 parts.2 in
      let x_is : parts.1 ≡ bytes = none_told (K.answers old) bytes parts.1 (ap (λ (t : Option (List ℕ)). appended t bytes) (sym none) ∙ sym is ∙ parts.3) in
      parts.4 ∙ ap (λ (front : List (List ℕ)). front ++ parts.1 ∷ []) whole ∙ ap (λ (x : List ℕ). before ++ x ∷ []) x_is

  -- nothing more was sent
  none_sent : K.sent new ≡ K.sent old → Told (K.sent new) (λ all. all ≡ before ++ [])
  none_sent same all told_all = so_far all (sym same ∙ told_all) ∙ sym (append-nil before)

  pub exchange_sends : (told : Result Response Lost) → Exchanges K old new address request told → Sends told request before (K.sent new)
  exchange_sends (Ok response) e =
      (request ∷ [], inl refl, one_told request e.streams.taken e.streams.later e.taken e.talks.0.0 e.sent)
  exchange_sends (Err (lost.Unread http.Cut)) e =
      (request ∷ [], inl refl, one_told request e.streams.taken e.streams.later e.taken e.talks.0.0 e.sent)
  exchange_sends (Err (lost.Unread http.Bad)) e =
      (request ∷ [], inl refl, one_told request e.streams.taken e.streams.later e.taken e.talks.0.0 e.sent)
  exchange_sends (Err (lost.Unread http.TooLong)) e =
      (request ∷ [], inl refl, one_told request e.streams.taken e.streams.later e.taken e.talks.0.0 e.sent)
  exchange_sends (Err (lost.Unread http.ReadFault)) e =
      (request ∷ [], inl refl, one_told request e.streams.taken e.streams.later e.taken e.talks.0.0 e.sent)
  exchange_sends (Err (lost.Unread http.NoMemory)) e =
      (request ∷ [], inl refl, one_told request e.streams.taken e.streams.later e.taken e.talks.0.0 e.sent)
  exchange_sends (Err lost.Unsent) e = (
    request ∷ [],
    inl refl,
    λ all told_all. record {
      whole = before;
      last = request;
      length = e.talks.0.0;
      requests_are = refl;
      sent_is = one_told (take e.talks.0.0 request) e.streams.taken e.streams.later e.taken e.talks.0.2 e.sent all told_all;
    },
  )
  exchange_sends (Err lost.Unreached) e = ([], inr (refl, tt), none_sent e.sent)
  exchange_sends (Err lost.NoMemory) e = ([], inr (refl, tt), none_sent e.sent)

-- the requests of a visit, and what was sent after it
abbrev pub EndsVisit : Visit → Type 0
EndsVisit visit.Collected = ⊥
EndsVisit visit.Gone = ⊥
EndsVisit (visit.Ends end) = Unit {0}

module _ {H Store Door DoorIn DoorOut Dialer DialerIn DialerOut Time Dice : Type 0} (M : HostMeaning H Store Door DoorIn DoorOut Dialer DialerIn DialerOut Time Dice)
    {L In Out : Type 0} (K : LinkMeaning L In Out) (address folder : List ℕ) (answers : Option (List (List ℕ))) where
  -- what a visit sent
  pub record VisitSends (n : ℕ) (host : H) (before : List (List ℕ)) (sent : Option (List (List ℕ))) (end : Visit) : Type 0 where
    pub own : List (List ℕ)
    pub asks : AsksFor M address folder answers n host own ⊎ ((own ≡ []) × EndsVisit end)
    pub sent_are : HasSent (visit_at collect_writes end) (before ++ own) sent

  has_sent_if : (a b : Bool) (requests more : List (List ℕ)) (sent later : Option (List (List ℕ))) → b ≡ a → more ≡ requests → later ≡ sent
      → HasSent a requests sent → HasSent b more later
  has_sent_if a b requests more sent later same all is has =
      subst (λ (x : Bool). HasSent x more later) (sym same)
      (subst (λ (r : List (List ℕ)). HasSent a r later) (sym all) (subst (λ (s : Option (List (List ℕ))). HasSent a requests s) (sym is) has))

  -- the confirmation
  confirm_sends : (n : ℕ) (host : H) (before : List (List ℕ)) (middle later : L) (end : Visit)
      → IsKept M folder answers n host → Told (K.sent middle) (λ all. all ≡ before ++ fetch_request address n ∷ [])
      → (told : Result Response Lost) → Exchanges K middle later address (confirm_request address n) told → visit_at collect_writes end ≡ told_at lost_writes told
      → VisitSends n host before (K.sent later) end
  confirm_sends n host before middle later end kept so_far told e same =
      by (exchange_sends K middle later address (confirm_request address n) (before ++ fetch_request address n ∷ []) so_far told e)
    where
      by : Sends told (confirm_request address n) (before ++ fetch_request address n ∷ []) (K.sent later) → VisitSends n host before (K.sent later) end
      by (own, inl is, has) = record {
        own = fetch_request address n ∷ confirm_request address n ∷ [];
        asks = inl (inr (refl, kept));
        sent_are = has_sent_if _ _ _ _ _ _ same
            (sym (append_assoc before (fetch_request address n ∷ []) (confirm_request address n ∷ []))
            ∙ ap (λ (o : List (List ℕ)). (before ++ fetch_request address n ∷ []) ++ o) (sym is)) refl has;
      }
      by (own, inr (is, gone), has) = record {
        own = fetch_request address n ∷ [];
        asks = inl (inl refl);
        sent_are = has_sent_if _ _ _ _ _ _ same
            (sym (ap (λ (o : List (List ℕ)). (before ++ fetch_request address n ∷ []) ++ o) is ∙ append-nil (before ++ fetch_request address n ∷ []))) refl has;
      }

  keeps_sends : (n : ℕ) (response : Response) (file : List ℕ) (before : List (List ℕ)) (old new : H) (link middle later : L) (end : Visit)
      → Exchanges K link middle address (fetch_request address n) (Ok response) → (response.status ≡ 200) × (file ≡ file_of response)
      → IsLater answers (K.answers link) → Told (K.sent middle) (λ all. all ≡ before ++ fetch_request address n ∷ [])
      → (written : Result ⊤ HostRefusal) → Writes M (file_path folder n) file old new written → ConfirmsIf K address n written middle later end
      → VisitSends n new before (K.sent later) end
  keeps_sends n response file before old new link middle later end e came left so_far (Ok _) w c =
      confirm_sends n new before middle later end (kept_file K answers M address folder n response file old new link middle e came w.file left) so_far c.0 c.1
      (ap (visit_at collect_writes) c.2 ∙ visit_end_at K (λ l. K.writes l) collect_writes lost_writes (watches_writes K) c.0)
  keeps_sends n response file before old new link middle later end e came left so_far (Err refusal.HostFailed) w c = record {
    own = fetch_request address n ∷ [];
    asks = inl (inl refl);
    sent_are = has_sent_if false _ _ _ _ _ (ap (visit_at collect_writes) c.0) refl (ap (λ l. K.sent l) c.1) so_far;
  }
  keeps_sends n response file before old new link middle later end e came left so_far (Err refusal.NoMemory) w c = record {
    own = fetch_request address n ∷ [];
    asks = inl (inl refl);
    sent_are = has_sent_if false _ _ _ _ _ (ap (visit_at collect_writes) c.0) refl (ap (λ l. K.sent l) c.1) so_far;
  }

  -- no file came
  lost_sends : (n : ℕ) (told : Result Response Lost) (other : Visit) (before : List (List ℕ)) (old new : H) (middle later : L) (end : Visit)
      → FileCame told (Err other) → Sends told (fetch_request address n) before (K.sent middle) → (end ≡ other) × (new ≡ old) × (later ≡ middle)
      → VisitSends n new before (K.sent later) end
  lost_sends n told other before old new middle later end came (own, asks, has) k = record {
    own = own;
    asks = elim asks as (λ _. AsksFor M address folder answers n new own ⊎ ((own ≡ []) × EndsVisit end)) [
      | inl is ↦ inl (inl is)
      | inr none ↦ inr (none.0, ends told none.1 came)
    ];
    sent_are = has_sent_if _ _ _ _ _ _
        (ap (visit_at collect_writes) k.0 ∙ no_file_came K (λ l. K.writes l) collect_writes lost_writes (watches_writes K) told other came) refl (ap (λ l. K.sent l) k.2) has;
  }
    where
      ends : (by : Result Response Lost) → IsLost by → FileCame by (Err other) → EndsVisit end
      ends (Ok response) gone by = absurd gone
      ends (Err why) gone by =
          let same : other ≡ visit.Ends (collect_lost why) = cc in
          subst (λ (v : Visit). EndsVisit v) (sym (k.0 ∙ same)) tt

  fetched_sends : (n : ℕ) (told : Result Response Lost) (fetched : Result (List ℕ) Visit) (before : List (List ℕ)) (old new : H) (link middle later : L) (end : Visit)
      → Exchanges K link middle address (fetch_request address n) told → FileCame told fetched → KeepsIf M K address folder n fetched old new middle later end
      → IsLater answers (K.answers link) → Told (K.sent link) (λ all. all ≡ before) → VisitSends n new before (K.sent later) end
  fetched_sends n (Ok response) (Ok file) before old new link middle later end e came k left so_far =
      keeps_sends n response file before old new link middle later end e came left
      (one_told K link middle address (fetch_request address n) before so_far (fetch_request address n) e.streams.taken e.streams.later e.taken e.talks.0.0 e.sent)
      k.written k.writes k.confirms
  fetched_sends n (Err why) (Ok file) before old new link middle later end e came k left so_far = absurd cc
  fetched_sends n told (Err other) before old new link middle later end e came k left so_far =
      lost_sends n told other before old new middle later end came (exchange_sends K link middle address (fetch_request address n) before so_far told e) k

  module _ {O : Type 0} (S : SinkMeaning O) where
    takes_sends : (n : ℕ) (old new : Run H L O) (result : Result ⊤ CollectEnd) (t : Takes M K address folder S n old new result) (before : List (List ℕ))
        → IsLater answers (K.answers old.link) → Told (K.sent old.link) (λ all. all ≡ before) → VisitSends n new.host before (K.sent new.link) t.end
    takes_sends n old new result t before left so_far =
        let v = t.visits in
        fetched_sends n v.fetches.0 v.fetched before old.host new.host old.link v.middle new.link t.end v.fetches.1 v.fetches.2 v.keeps left so_far

    -- a visit after which the collection goes on
    goes_on : (n : ℕ) (end : Visit) (old new : O) → Tells S n end old new (Ok tt) → (EndsVisit end → ⊥) × (visit_at collect_writes end ≡ false)
    goes_on n visit.Collected old new tells = (λ no. no, refl)
    goes_on n visit.Gone old new tells = (λ no. no, refl)
    goes_on n (visit.Ends end) old new tells = absurd cc

    -- what a visit by which the collection ends says of writes
    ends_as : (n : ℕ) (last : Visit) (end : CollectEnd) (old new : O) → Tells S n last old new (Err end) → collect_writes end ≡ visit_at collect_writes last
    ends_as n visit.Collected end old new tells = ap collect_writes tells.0
    ends_as n visit.Gone end old new tells = ap collect_writes tells.0
    ends_as n (visit.Ends other) end old new tells = ap (result_at collect_writes) tells.0

    asks_stay : (n : ℕ) (old new : H) (own : List (List ℕ)) → M.file new (file_path folder n) ≡ M.file old (file_path folder n)
        → AsksFor M address folder answers n old own → AsksFor M address folder answers n new own
    asks_stay n old new own same (inl is) = inl is
    asks_stay n old new own same (inr (is, kept)) = inr (is, kept_stays M K address folder answers n old new same kept)

    all_stay : (first k : ℕ) (old new : H) (requests : List (List ℕ))
        → ((i : ℕ) → i < k → M.file new (file_path folder (first + i)) ≡ M.file old (file_path folder (first + i)))
        → AskForAll M address folder answers first k old requests → AskForAll M address folder answers first k new requests
    all_stay first zero old new requests same none = none
    all_stay first (suc k) old new requests same (before, own, all, last, is) = (
      before,
      own,
      all_stay first k old new before (λ i below. same i (omega (arith, below))) all,
      asks_stay (first + k) old new own (same k (omega arith)) last,
      is,
    )

    -- the requests so far
    pub record Requests (first k : ℕ) (new : Run H L O) : Type 0 where
      pub later : IsLater answers (K.answers new.link)
      pub requests : List (List ℕ)
      pub asks : AskForAll M address folder answers first k new.host requests
      pub sent_are : Told (K.sent new.link) (λ all. all ≡ requests)

    entry_of : (n : ℕ) (host : H) (before : List (List ℕ)) (sent : Option (List (List ℕ))) (end : Visit) → (EndsVisit end → ⊥) → visit_at collect_writes end ≡ false
        → VisitSends n host before sent end → (own : List (List ℕ)) × AsksFor M address folder answers n host own × Told sent (λ all. all ≡ before ++ own)
    entry_of n host before sent end goes calm v = (
      v.own,
      elim v.asks as (λ _. AsksFor M address folder answers n host v.own) [ inl asks ↦ asks | inr none ↦ absurd (goes none.1) ],
      subst (λ (b : Bool). HasSent b (before ++ v.own) sent) calm v.sent_are,
    )

    all_requests : (first k : ℕ) (old new : Run H L O) → first + k ≤ 2 ^ 64 → TakesAll M K address folder S first k old new
        → IsLater answers (K.answers old.link) → Told (K.sent old.link) (λ all. all ≡ []) → Requests first k new
    all_requests first zero old new small same left none = record {
      later = subst (λ (r : Run H L O). IsLater answers (K.answers r.link)) (sym same) left;
      requests = [];
      asks = refl;
      sent_are = subst (λ (r : Run H L O). Told (K.sent r.link) (λ all. all ≡ [])) (sym same) none;
    }
    all_requests first (suc k) old new small (middle, all, last) left none =
        let so_far : Requests first k middle = all_requests first k old middle (omega (arith, small)) all left none in
        let goes = goes_on (first + k) last.end middle.output new.output last.tells in
        let entry = entry_of (first + k) new.host so_far.requests (K.sent new.link) last.end goes.0 goes.1
        (takes_sends (first + k) middle new (Ok tt) last so_far.requests so_far.later so_far.sent_are) in record {
          later = (left_by M K address folder answers S (first + k) middle new (Ok tt) last so_far.later).later;
          requests = so_far.requests ++ entry.0;
          asks = (
            so_far.requests,
            entry.0,
            all_stay first k middle.host new.host so_far.requests (stays_at M K address folder answers S first k small middle new (Ok tt) last so_far.later) so_far.asks,
            entry.1,
            refl,
          );
          sent_are = entry.2;
        }

    last_requests : (first k count : ℕ) → k < count → (new : Run H L O) (end : CollectEnd) (last : Visit) (before : List (List ℕ))
        → AskForAll M address folder answers first k new.host before → VisitSends (first + k) new.host before (K.sent new.link) last
        → collect_writes end ≡ visit_at collect_writes last → (end ≡ collect.Done → ⊥) → SendsRequests M address folder answers first count new.host (K.sent new.link) end
    last_requests first k count few new end last before asks v same never =
        elim v.asks as (λ _. SendsRequests M address folder answers first count new.host (K.sent new.link) end) [
          | inl own ↦ record {
            entries = suc k;
            few = omega (arith, few);
            all = λ is. absurd (never is);
            requests = before ++ v.own;
            asks = (before, v.own, asks, own, refl);
            sent_are = has_sent_if _ _ _ _ _ _ same refl refl v.sent_are;
          }
          | inr none ↦ record {
            entries = k;
            few = omega (arith, few);
            all = λ is. absurd (never is);
            requests = before;
            asks = asks;
            sent_are = has_sent_if _ _ _ _ _ _ same (sym (ap (λ (o : List (List ℕ)). before ++ o) none.0 ∙ append-nil before)) refl v.sent_are;
          }
        ]

    over_requests : (first count : ℕ) (old new : Run H L O) (end : CollectEnd) → first + count ≤ 2 ^ 64
        → CollectsOver M K address folder S first count old new end → IsLater answers (K.answers old.link) → Told (K.sent old.link) (λ all. all ≡ [])
        → SendsRequests M address folder answers first count new.host (K.sent new.link) end
    over_requests first count old new end small (inl (is, all)) left none =
        let done : Requests first count new = all_requests first count old new small all left none in record {
          entries = count;
          few = omega arith;
          all = λ is. refl;
          requests = done.requests;
          asks = done.asks;
          sent_are = has_sent_if false _ _ _ _ _ (ap collect_writes is) refl refl done.sent_are;
        }
    over_requests first count old new end small (inr (k, middle, few, all, last)) left none =
        let so_far : Requests first k middle = all_requests first k old middle (omega (arith, small, few)) all left none in
        last_requests first k count few new end last.end so_far.requests
        (all_stay first k middle.host new.host so_far.requests (stays_at M K address folder answers S first k (omega (arith, small, few)) middle new (Err end) last so_far.later) so_far.asks)
        (takes_sends (first + k) middle new (Err end) last so_far.requests so_far.later so_far.sent_are)
        (ends_as (first + k) last.end end middle.output new.output last.tells) (not_done M K address folder S (first + k) middle new end last)

    -- the requests of a collection, once its link is settled
    pub collect_requests : (first count : ℕ) (old new : H) (before after : O) (end : CollectEnd) → first + count ≤ 2 ^ 64 → answers ≡ M.answers old
        → Collects M K S address folder first count old new before after end → SendsRequests M address folder answers first count new (M.sent new) end
    collect_requests first count old new before after end small same c =
        let sends : SendsRequests M address folder answers first count c.last (K.sent c.later) end =
        over_requests first count (run c.middle c.link before) (run c.last c.later after) end small c.collects (0, c.dials.answers ∙ sym same)
        (none_made answers (K.sent c.link) (c.dials.sent ∙ ap none_of (sym same))) in record {
          entries = sends.entries;
          few = sends.few;
          all = sends.all;
          requests = sends.requests;
          asks = all_stay first sends.entries c.last new sends.requests (λ i below. c.settles.files (file_path folder (first + i))) sends.asks;
          sent_are = has_sent_if _ _ _ _ _ _ refl refl c.settles.sent sends.sent_are;
        }

  -- the request of a submission, once its link is settled
  pub submit_sends : (request : List ℕ) (old new : H) (end : SubmitEnd) → Submits M K address request old new end → SendsOnce request (M.sent new) end
  submit_sends request old new end s =
      subst (λ (e : SubmitEnd). SendsOnce request (M.sent new) e) (sym s.end_is)
      (by s.told (exchange_sends K s.link s.later address request [] (none_made (M.answers old) (K.sent s.link) s.dials.sent) s.told s.exchanges))
    where
      unsent : (told : Result Response Lost) → IsLost told → IsUnsent (submit_end told)
      unsent (Ok response) lost = absurd lost
      unsent (Err lost.Unreached) is = tt
      unsent (Err lost.NoMemory) is = tt
      unsent (Err lost.Unsent) lost = absurd lost
      unsent (Err (lost.Unread why)) lost = absurd lost

      by : (told : Result Response Lost) → Sends told request [] (K.sent s.later) → SendsOnce request (M.sent new) (submit_end told)
      by told (own, asks, has) = record {
        requests = own;
        one = elim asks as (λ _. (own ≡ request ∷ []) ⊎ ((own ≡ []) × IsUnsent (submit_end told))) [
          | inl is ↦ inl is
          | inr none ↦ inr (none.0, unsent told none.1)
        ];
        sent_are = has_sent_if _ _ _ _ _ _ (submit_told submit_writes lost_writes (λ body. refl) (λ status body. refl) writes_lost told) refl s.settles.sent has;
      }

-- What the ends of calls say of the answers.
use Rattle.std.proofs.Common.{◌≡◌, ◌≢◌, ◌+◌, ◌≤◌, ◌==◌, ◌^◌, ℕ, Bool, true, false, if◌then◌else◌, List, ◌++◌, Option, Some, None, Result, Ok, Err, inl, inr, ◌∙◌, refl, sym, ap, subst, arith}
use Rattle.std.specs.Prelude.{⊤}
use Rattle.std.proofs.lemmas.Bool.{eq-eqb, eqb-true}
use Rattle.as4_flow.specs.Flow.{Told, before}
use Rattle.as4_flow.specs.declared.sink.Sink.{Ghosts as SinkMeaning}
use Rattle.as4_host.specs.Lists.{first_of}
use Rattle.as4_host.specs.declared.host.Host.{Ghosts as HostMeaning}
use Rattle.as4_host.specs.declared.host.HostRefusal.{HostRefusal}
use Rattle.as4_host.specs.declared.host.HostRefusal.TheVariants as refusal
use Rattle.as4_host.specs.declared.link.Link.{Ghosts as LinkMeaning}
use Rattle.as4_http.specs.Limits.{the_limits}
use Rattle.as4_http.specs.Refused.{Dooms}
use Rattle.as4_http.specs.Responses.{BeginsResponse, HasNoResponse, IsNoResponse}
use Rattle.as4_http.specs.declared.message.Response.{Response}
use Rattle.as4_http.specs.declared.refusal.HttpRefusal.TheVariants as http
use Rattle.clients.specs.Answered.{IsAnswerTo, IsLastAnswer}
use Rattle.clients.specs.Endings.{collect_lost, submit_end, visit_by, visit_end}
use Rattle.link_exchange.specs.Exchanges.{Exchanges}
use Rattle.clients.specs.Lines.{answer_of}
use Rattle.clients.specs.Requests.{confirm_request, fetch_request}
use Rattle.clients.specs.Runs.{Collects, CollectsOver, ConfirmsIf, FileCame, KeepsIf, Submits, Tells, run}
use Rattle.clients.specs.declared.ending.CollectEnd.{CollectEnd}
use Rattle.clients.specs.declared.ending.CollectEnd.TheVariants as collect
use Rattle.clients.specs.declared.ending.SubmitEnd.{SubmitEnd}
use Rattle.clients.specs.declared.ending.SubmitEnd.TheVariants as submit
use Rattle.clients.specs.declared.ending.Visit.{Visit}
use Rattle.clients.specs.declared.ending.Visit.TheVariants as visit
use Rattle.link_exchange.specs.declared.exchanging.Lost.{Lost}
use Rattle.link_exchange.specs.declared.exchanging.Lost.TheVariants as lost
use Rattle.clients.proofs.KeptLemmas.{IsLater, exchange_later, response_came}
use Rattle.clients.proofs.LineLemmas.{all_lines}

-- what is refused however it goes on, is refused as it went on
doomed_told : (P : List ℕ → Type 0) (told left : Option (List ℕ)) → Dooms P told left → Told told P
doomed_told P told None dooms bytes is = absurd cc
doomed_told P told (Some rest) dooms bytes is =
    let whole : Some (dooms.read ++ rest) ≡ Some bytes = sym dooms.taken ∙ is in
    let same : dooms.read ++ rest ≡ bytes = cc in
    subst P same (dooms.doomed rest)

-- what an exchange says of its answer
abbrev pub SaysOf : Result Response Lost → List ℕ → Type 0
SaysOf (Ok response) bytes = (rest : List ℕ) × BeginsResponse bytes response rest
SaysOf (Err (lost.Unread http.Cut)) bytes = HasNoResponse bytes
SaysOf (Err (lost.Unread http.Bad)) bytes = HasNoResponse bytes
SaysOf (Err (lost.Unread http.TooLong)) bytes = HasNoResponse bytes
SaysOf other bytes = Unit {0}

module _ {L In Out : Type 0} (K : LinkMeaning L In Out) (answers : Option (List (List ℕ))) where
  exchange_says : (old new : L) (address request : List ℕ) (told : Result Response Lost) → Exchanges K old new address request told
      → Told (first_of (K.answers old)) (SaysOf told)
  exchange_says old new address request (Ok response) e = response_came K answers old new address request response e
  exchange_says old new address request (Err lost.Unreached) e = λ bytes is. tt
  exchange_says old new address request (Err lost.Unsent) e = λ bytes is. tt
  exchange_says old new address request (Err lost.NoMemory) e = λ bytes is. tt
  exchange_says old new address request (Err (lost.Unread http.Cut)) e = λ bytes is. e.talks.1.why.0 bytes (e.left ∙ is)
  exchange_says old new address request (Err (lost.Unread http.Bad)) e =
      λ bytes is. doomed_told IsNoResponse e.streams.left e.streams.rest e.talks.1.why bytes (e.left ∙ is) the_limits
  exchange_says old new address request (Err (lost.Unread http.TooLong)) e =
      λ bytes is. doomed_told HasNoResponse e.streams.left e.streams.rest e.talks.1.why.0 bytes (e.left ∙ is)
  exchange_says old new address request (Err (lost.Unread http.ReadFault)) e = λ bytes is. tt
  exchange_says old new address request (Err (lost.Unread http.NoMemory)) e = λ bytes is. tt

-- a test that fails
other_status : (status n : ℕ) → (status == n) ≡ false → status ≢ n
other_status status n not_so same =
    let so : (status == n) ≡ true = eq-eqb status n same in
    cc

-- a submission ends by its response
by_response : (response : Response) (bytes : List ℕ) (is : Bool) → (response.status == 200) ≡ is → (rest : List ℕ) → BeginsResponse bytes response rest
    → IsAnswerTo (if is then submit.Accepted response.body else submit.Refused response.status response.body) bytes
by_response response bytes true is rest begins = (response, rest, begins, (eqb-true response.status 200 is, refl))
by_response response bytes false is rest begins = (response, rest, begins, (refl, other_status response.status 200 is, refl))

submit_says : (told : Result Response Lost) (bytes : List ℕ) → SaysOf told bytes → IsAnswerTo (submit_end told) bytes
submit_says (Ok response) bytes (rest, begins) = by_response response bytes (response.status == 200) refl rest begins
submit_says (Err lost.Unreached) bytes says = tt
submit_says (Err lost.Unsent) bytes says = tt
submit_says (Err lost.NoMemory) bytes says = tt
submit_says (Err (lost.Unread http.Cut)) bytes says = says
submit_says (Err (lost.Unread http.Bad)) bytes says = says
submit_says (Err (lost.Unread http.TooLong)) bytes says = says
submit_says (Err (lost.Unread http.ReadFault)) bytes says = tt
submit_says (Err (lost.Unread http.NoMemory)) bytes says = tt

-- what a visit says of an answer
abbrev pub IsVisitedBy : Visit → List ℕ → Type 0
IsVisitedBy visit.Collected bytes = Unit {0}
IsVisitedBy visit.Gone bytes = Unit {0}
IsVisitedBy (visit.Ends end) bytes = IsLastAnswer end bytes

by_status : (response : Response) (bytes : List ℕ) (a b c : Bool) → (response.status == 200) ≡ a → (response.status == 410) ≡ b → (response.status == 404) ≡ c
    → (rest : List ℕ) → BeginsResponse bytes response rest
    → IsVisitedBy (if a then visit.Collected else (if b then visit.Gone else (if c then visit.Ends collect.NoEntry else visit.Ends (collect.Refused response.status)))) bytes
by_status response bytes true b c is1 is2 is3 rest begins = tt
by_status response bytes false true c is1 is2 is3 rest begins = tt
by_status response bytes false false true is1 is2 is3 rest begins = (response, rest, begins, eqb-true response.status 404 is3)
by_status response bytes false false false is1 is2 is3 rest begins =
    (response, rest, begins, (refl, other_status response.status 200 is1, other_status response.status 404 is3, other_status response.status 410 is2))

status_says : (response : Response) (bytes : List ℕ) → SaysOf (Ok response) bytes → IsVisitedBy (visit_by response.status) bytes
status_says response bytes (rest, begins) =
    by_status response bytes (response.status == 200) (response.status == 410) (response.status == 404) refl refl refl rest begins

lost_says : (why : Lost) (bytes : List ℕ) → SaysOf (Err why) bytes → IsLastAnswer (collect_lost why) bytes
lost_says lost.Unreached bytes says = tt
lost_says lost.Unsent bytes says = tt
lost_says lost.NoMemory bytes says = tt
lost_says (lost.Unread http.Cut) bytes says = says
lost_says (lost.Unread http.Bad) bytes says = says
lost_says (lost.Unread http.TooLong) bytes says = says
lost_says (lost.Unread http.ReadFault) bytes says = tt
lost_says (lost.Unread http.NoMemory) bytes says = tt

visit_says : (told : Result Response Lost) (bytes : List ℕ) → SaysOf told bytes → IsVisitedBy (visit_end told) bytes
visit_says (Ok response) bytes says = status_says response bytes says
visit_says (Err why) bytes says = lost_says why bytes says

file_says : (told : Result Response Lost) (other : Visit) → FileCame told (Err other) → (bytes : List ℕ) → SaysOf told bytes → IsVisitedBy other bytes
file_says (Ok response) other (inl (status, is)) bytes says = subst (λ (v : Visit). IsVisitedBy v bytes) (sym is) (status_says response bytes says)
file_says (Ok response) other (inr (status, is)) bytes says = subst (λ (v : Visit). IsVisitedBy v bytes) (sym is) tt
file_says (Err why) other is bytes says =
    let same : other ≡ visit.Ends (collect_lost why) = cc in
    subst (λ (v : Visit). IsVisitedBy v bytes) (sym same) (lost_says why bytes says)

module _ {L In Out : Type 0} (K : LinkMeaning L In Out) (address : List ℕ) (answers : Option (List (List ℕ))) where
  -- one of the answers is as the visit says
  abbrev pub VisitedBy : Visit → Type 0
  VisitedBy end = (j : ℕ) × Told (answer_of j answers) (IsVisitedBy end)

  says_at : (left : Option (List (List ℕ))) (told : Result Response Lost) (end : Visit) → IsLater answers left → Told (first_of left) (SaysOf told)
      → ((bytes : List ℕ) → SaysOf told bytes → IsVisitedBy end bytes) → VisitedBy end
  says_at left told end (j, is) says by = (j, λ bytes told_bytes. by bytes (says bytes (ap first_of is ∙ told_bytes)))

  confirms_says : (n : ℕ) (written : Result ⊤ HostRefusal) (old new : L) (end : Visit) → ConfirmsIf K address n written old new end
      → IsLater answers (K.answers old) → VisitedBy end
  confirms_says n (Ok _) old new end c left =
      says_at (K.answers old) c.0 end left (exchange_says K answers old new address (confirm_request address n) c.0 c.1)
      (λ bytes says. subst (λ (v : Visit). IsVisitedBy v bytes) (sym c.2) (visit_says c.0 bytes says))
  confirms_says n (Err refusal.HostFailed) old new end c left = (0, λ bytes is. subst (λ (v : Visit). IsVisitedBy v bytes) (sym c.0) tt)
  confirms_says n (Err refusal.NoMemory) old new end c left = (0, λ bytes is. subst (λ (v : Visit). IsVisitedBy v bytes) (sym c.0) tt)

  module _ {H Store Door DoorIn DoorOut Dialer DialerIn DialerOut Time Dice : Type 0} (M : HostMeaning H Store Door DoorIn DoorOut Dialer DialerIn DialerOut Time Dice)
      (folder : List ℕ) where
    keeps_says : (n : ℕ) (told : Result Response Lost) (fetched : Result (List ℕ) Visit) (old new : H) (link middle later : L) (end : Visit)
        → Exchanges K link middle address (fetch_request address n) told → FileCame told fetched → KeepsIf M K address folder n fetched old new middle later end
        → IsLater answers (K.answers link) → VisitedBy end
    keeps_says n told (Ok file) old new link middle later end e came k left =
        confirms_says n k.written middle later end k.confirms (exchange_later K answers link middle address (fetch_request address n) told e left)
    keeps_says n told (Err other) old new link middle later end e came k left =
        says_at (K.answers link) told end left (exchange_says K answers link middle address (fetch_request address n) told e)
        (λ bytes says. subst (λ (v : Visit). IsVisitedBy v bytes) (sym k.0) (file_says told other came bytes says))

    module _ {O : Type 0} (S : SinkMeaning O) where
      tells_says : (n : ℕ) (last : Visit) (old new : O) (end : CollectEnd) → Tells S n last old new (Err end) → VisitedBy last
          → (j : ℕ) × Told (answer_of j answers) (IsLastAnswer end)
      tells_says n visit.Collected old new end tells by = (0, λ bytes is. subst (λ (e : CollectEnd). IsLastAnswer e bytes) (sym tells.0) tt)
      tells_says n visit.Gone old new end tells by = (0, λ bytes is. subst (λ (e : CollectEnd). IsLastAnswer e bytes) (sym tells.0) tt)
      tells_says n (visit.Ends other) old new end tells by =
          let same : end ≡ other = cc in
          (by.0, λ bytes is. subst (λ (e : CollectEnd). IsLastAnswer e bytes) (sym same) (by.1 bytes is))

      pub collect_says : (first count : ℕ) (old new : H) (before after : O) (end : CollectEnd) → first + count ≤ 2 ^ 64 → answers ≡ M.answers old
          → Collects M K S address folder first count old new before after end → (j : ℕ) × Told (answer_of j answers) (IsLastAnswer end)
      collect_says first count old new before after end small same c = by c.collects
        where
          by : CollectsOver M K address folder S first count (run c.middle c.link before) (run c.last c.later after) end → (j : ℕ) × Told (answer_of j answers) (IsLastAnswer end)
          by (inl (is, all)) = (0, λ bytes told. subst (λ (e : CollectEnd). IsLastAnswer e bytes) (sym is) tt)
          by (inr (k, middle, few, all, last)) =
              let so_far = all_lines M K address folder answers S first k (run c.middle c.link before) middle (omega (arith, small, few)) all (0, c.dials.answers ∙ sym same) in
              let v = last.visits in
              tells_says (first + k) last.end middle.output after end last.tells
              (keeps_says (first + k) v.fetches.0 v.fetched middle.host c.last middle.link v.middle c.later last.end v.fetches.1 v.fetches.2 v.keeps so_far.later)

    pub submit_answer : (request : List ℕ) (old new : H) (end : SubmitEnd) → Submits M K address request old new end → Told (first_of (M.answers old)) (IsAnswerTo end)
    submit_answer request old new end s bytes told =
        subst (λ (e : SubmitEnd). IsAnswerTo e bytes) (sym s.end_is)
        (submit_says s.told bytes (exchange_says K answers s.link s.later address request s.told s.exchanges bytes (ap first_of s.dials.answers ∙ told)))

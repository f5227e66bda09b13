-- Lemmas on requests.
use Rattle.std.proofs.Common.{◌≡◌, ℕ, Bool, List, ◌++◌, map, Option, ap, inl, inr, refl, sym, ◌∙◌, subst, append_assoc}
use Rattle.as4_flow.specs.Flow.{Told, before}
use Rattle.as4_flow.proofs.FlowLemmas.{before_append}
use Rattle.httparse.specs.Grammar.{RequestHead, IsRequestHead, print_request}
use Rattle.httparse.proofs.GrammarLemmas.{request_unique, ReadsRequest-append}
use Rattle.httparse.specs.Spans.{name_and_value}
use Rattle.as4_http.specs.Asked.{AsksOnlyAsNeeded, AsksForBody}
use Rattle.as4_http.specs.Bodies.{BeginsBody, HasNoBody, IsBody, TakesBody}
use Rattle.as4_http.specs.Limits.{Limits, the_limits}
use Rattle.as4_http.specs.Methods.{method_text}
use Rattle.as4_http.specs.Passed.{PassesBody, PassesRequest, Shows, long_body}
use Rattle.as4_http.specs.Refused.{Dooms, MayBecome}
use Rattle.as4_http.specs.RequestStarts.{IsSmallRequest, SaysRequest, HasNoRequestHead, DecidesRequestHead, TakesRequestHead}
use Rattle.as4_http.specs.Requests.{BeginsKept, BeginsKeptWithin, BeginsRequestWithin, HasNoRequest, HasNoRequestWithin, IsCutRequest, start_of}
use Rattle.as4_http.specs.declared.framing.Framing.{Framing}
use Rattle.as4_http.specs.declared.framing.Framing.TheVariants.{Empty}
use Rattle.as4_http.specs.declared.message.Method.{Method}
use Rattle.as4_http.specs.declared.message.Method.TheVariants.{Get, Post}
use Rattle.as4_http.specs.declared.message.Request.{Request}
use Rattle.as4_http.specs.declared.request_start.RequestStart.{RequestStart}
use Rattle.as4_http.proofs.AskedLemmas.{asks_after}
use Rattle.as4_http.proofs.BodyLemmas.{body_unique, body_goes_on, before_some, body_begins}
use Rattle.as4_http.proofs.FramingLemmas.{one_option, frames_unique, frames_bounded}

one_method : (a b : Method) → method_text a ≡ method_text b → a ≡ b
one_method Get Get same = refl
one_method Get Post same = absurd (cc)
one_method Post Get same = absurd (cc)
one_method Post Post same = refl

-- a head says one thing
pub says_one : (head : RequestHead) (a b : RequestStart) → SaysRequest head a → SaysRequest head b → a ≡ b
says_one head a b x y =
    let method = one_method a.method b.method (sym x.method ∙ y.method) in
    let target : a.target ≡ b.target = sym x.target ∙ y.target in
    let media = one_option a.media b.media (sym x.media ∙ y.media) in
    let framing = frames_unique Empty a.framing b.framing _ x.framing y.framing in
    let kept : a.kept ≡ b.kept = x.kept ∙ sym y.kept in
    λ i. record { method = method i; target = target i; media = media i; framing = framing i; kept = kept i }

pub kept_unique : (limits other : Limits) (stream : List ℕ) (a b : Request) (k l : Bool) (r q : List ℕ) → BeginsKeptWithin limits stream a k r → BeginsKeptWithin other stream b l q → (a ≡ b) × (k ≡ l) × (r ≡ q)
kept_unique limits other stream a b k l r q x y =
    let heads = request_unique stream x.head y.head x.behind y.behind x.reads y.reads in
    let says = subst (λ (h : RequestHead). SaysRequest h (start_of b y.framing l)) (sym heads.0) y.says in
    let starts = says_one x.head (start_of a x.framing k) (start_of b y.framing l) x.says says in
    let framing : y.framing ≡ x.framing = λ i. (sym starts i).framing in
    let body : BeginsBody other x.framing x.behind b.body q = subst (λ (s : List ℕ). BeginsBody other x.framing s b.body q) (sym heads.1) (subst (λ (f : Framing). BeginsBody other f y.behind b.body q) framing y.body) in
    let bodies = body_unique limits other x.framing x.behind a.body b.body r q x.body body in
    (λ i. record { method = (starts i).method; target = (starts i).target; media = (starts i).media; body = bodies.0 i }, λ i. (starts i).kept, bodies.1)

pub request_one : (limits other : Limits) (stream : List ℕ) (a b : Request) (r q : List ℕ) → BeginsRequestWithin limits stream a r → BeginsRequestWithin other stream b q → (a ≡ b) × (r ≡ q)
request_one limits other stream a b r q x y = let same = kept_unique limits other stream a b x.0 y.0 r q x.1 y.1 in (same.0, same.2)

-- bytes that follow a request leave it as it is
pub kept_goes_on : (limits : Limits) (stream more : List ℕ) (request : Request) (kept : Bool) (rest : List ℕ) → BeginsKeptWithin limits stream request kept rest → BeginsKeptWithin limits (stream ++ more) request kept (rest ++ more)
kept_goes_on limits stream more request kept rest x = record {
  head = x.head;
  framing = x.framing;
  behind = x.behind ++ more;
  reads = ReadsRequest-append stream x.head x.behind more x.reads;
  small = x.small;
  says = x.says;
  body = body_goes_on limits x.framing x.behind request.body rest more (frames_bounded (map name_and_value x.head.fields) x.framing x.says.framing) x.body;
}

pub goes_on : (limits : Limits) (stream more : List ℕ) (request : Request) (rest : List ℕ) → BeginsRequestWithin limits stream request rest → BeginsRequestWithin limits (stream ++ more) request (rest ++ more)
goes_on limits stream more request rest x = (x.0, kept_goes_on limits stream more request x.0 rest x.1)

-- no head, hence no request
pub no_head : (limits : Limits) (stream : List ℕ) → HasNoRequestHead limits stream → HasNoRequestWithin limits stream
no_head limits stream none request rest begins =
    none begins.1.behind (start_of request begins.1.framing begins.0) (record { head = begins.1.head; reads = begins.1.reads; small = begins.1.small; says = begins.1.says })

-- a head, and no body after it
pub no_body : (start : RequestStart) (head : RequestHead) (limits : Limits) (behind : List ℕ) → IsRequestHead head → SaysRequest head start → HasNoBody start.framing limits behind → HasNoRequestWithin limits (print_request head ++ behind)
no_body start head limits behind valid says none request rest begins =
    let x = begins.1 in
    let heads = request_unique (print_request head ++ behind) head x.head behind x.behind (valid, refl) x.reads in
    let others = subst (λ (h : RequestHead). SaysRequest h (start_of request x.framing begins.0)) (sym heads.0) x.says in
    let starts = says_one head start (start_of request x.framing begins.0) says others in
    let framing : x.framing ≡ start.framing = λ i. (sym starts i).framing in
    none request.body rest (subst (λ (s : List ℕ). BeginsBody limits start.framing s request.body rest) (sym heads.1) (subst (λ (f : Framing). BeginsBody limits f x.behind request.body rest) framing x.body))

-- a head, and what more bytes make a body of it
pub cut_body : (start : RequestStart) (head : RequestHead) → IsRequestHead head → IsSmallRequest the_limits head → SaysRequest head start → (behind : List ℕ) → MayBecome (IsBody start.framing) behind → IsCutRequest (print_request head ++ behind)
cut_body start head valid small says behind may = inr (
  may.0,
  (
    record { method = start.method; target = start.target; media = start.media; body = may.1.0 },
    (start.kept, record { head = head; framing = start.framing; behind = behind ++ may.0; reads = (valid, append_assoc (print_request head) behind may.0); small = small; says = says; body = may.1.1 }),
  ),
)

-- a head, and a body after it that passes a limit
pub body_passes : (start : RequestStart) (head : RequestHead) → IsRequestHead head → IsSmallRequest the_limits head → SaysRequest head start → (behind : List ℕ) → PassesBody start.framing behind → PassesRequest (print_request head ++ behind)
body_passes start head valid small says behind body = long_body start.framing behind (start, record { head = head; reads = (valid, refl); small = small; says = says }, refl) body

-- how far the source is read: a head, and then its body, which never runs to the end of the stream
pub request_asks : (start : RequestStart) (held now : List ℕ) (old mid new : Option (List ℕ)) → TakesRequestHead (before held old) (before now mid) start → AsksOnlyAsNeeded (HasNoRequestHead the_limits) held old mid → AsksForBody start.framing now mid new → AsksOnlyAsNeeded HasNoRequest held old new
request_asks start held now old mid new head first (inl second) =
    asks_after (HasNoRequestHead the_limits) (HasNoBody start.framing the_limits) HasNoRequest (print_request head.head) held now old mid new head.taken (no_head the_limits) (λ rest. no_body start head.head the_limits rest head.valid head.says) first second
request_asks start held now old mid new head first (inr ended) = absurd (frames_bounded (map name_and_value head.head.fields) start.framing head.says.framing ended.0)

-- where the bytes after a head are bad, the bytes that were read begin with that head
pub head_decides : (P : List ℕ → Type 0) (start : RequestStart) (told now left : Option (List ℕ)) → TakesRequestHead told now start → Dooms P now left → Shows DecidesRequestHead told left
head_decides P start told now left head dooms = record {
  read = print_request head.head ++ dooms.read;
  taken = head.taken ∙ ap (λ (t : Option (List ℕ)). before (print_request head.head) t) dooms.taken ∙ before_append (print_request head.head) dooms.read left;
  holds = inl (head.head, dooms.read, (head.valid, refl));
}

-- a head and a body that were taken are a request, and what is left is the rest
pub request_begins : (start : RequestStart) (bytes : List ℕ) (old mid new : Option (List ℕ)) → TakesRequestHead old mid start → TakesBody start.framing bytes mid new → Told old (λ stream. Told new (BeginsKept stream (record { method = start.method; target = start.target; media = start.media; body = bytes }) start.kept))
request_begins start bytes old mid new head body stream told rest left =
    let found = before_some old mid (print_request head.head) stream head.taken told in
    let behind = body_begins start.framing bytes found.0 mid new body found.1 in
    let same : behind.0 ≡ rest = cc (sym behind.1 ∙ left) in record {
      head = head.head;
      framing = start.framing;
      behind = found.0;
      reads = (head.valid, found.2);
      small = head.small;
      says = head.says;
      body = subst (λ (r : List ℕ). BeginsBody the_limits start.framing found.0 bytes r) same behind.2;
    }

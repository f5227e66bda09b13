-- Lemmas on responses.
use Rattle.std.proofs.Common.{◌≡◌, ◌≢◌, ℕ, List, ◌++◌, Option, None, Some, inl, inr, refl, sym, ◌∙◌, ap, subst, append_assoc}
use Rattle.as4_flow.specs.Flow.{Told, before}
use Rattle.as4_flow.proofs.FlowLemmas.{before_append, before_more}
use Rattle.httparse.specs.Grammar.{ResponseHead, IsResponseHead, print_response}
use Rattle.httparse.proofs.GrammarLemmas.{response_unique, ReadsResponse-append}
use Rattle.as4_http.specs.Asked.{AsksOnlyAsNeeded, AsksForBody, AsksForResponse}
use Rattle.as4_http.specs.Bodies.{BeginsBody, HasNoBody, IsBody, TakesBody}
use Rattle.as4_http.specs.Limits.{Limits, the_limits}
use Rattle.as4_http.specs.Passed.{PassesBody, PassesResponse, Shows, long_body}
use Rattle.as4_http.specs.Refused.{Dooms, MayBecome}
use Rattle.as4_http.specs.ResponseStarts.{IsSmallResponse, SaysResponse, HasNoResponseHead, DecidesResponseHead, TakesResponseHead, framing_at}
use Rattle.as4_http.specs.Responses.{BeginsResponse, BeginsResponseWithin, HasNoResponse, HasNoResponseWithin, IsCutResponse, start_of}
use Rattle.as4_http.specs.declared.framing.Framing.{Framing}
use Rattle.as4_http.specs.declared.framing.Framing.TheVariants.{ToEnd}
use Rattle.as4_http.specs.declared.message.Response.{Response}
use Rattle.as4_http.specs.declared.response_start.ResponseStart.{ResponseStart}
use Rattle.as4_http.proofs.AskedLemmas.{asks_nothing, asks_after, same_bytes}
use Rattle.as4_http.proofs.BodyLemmas.{body_unique, body_goes_on, before_some, body_begins}
use Rattle.as4_http.proofs.FramingLemmas.{one_option, frames_unique}

-- a head says one thing
pub says_one : (head : ResponseHead) (a b : ResponseStart) → SaysResponse head a → SaysResponse head b → a ≡ b
says_one head a b x y =
    let status : a.status ≡ b.status = sym x.status ∙ y.status in
    let media = one_option a.media b.media (sym x.media ∙ y.media) in
    let said : x.said ≡ y.said = frames_unique ToEnd x.said y.said _ x.says y.says in
    let framing : a.framing ≡ b.framing = x.framing ∙ ap (λ (s : ℕ). framing_at s x.said) status ∙ ap (λ (f : Framing). framing_at b.status f) said ∙ sym y.framing in
    λ i. record { status = status i; media = media i; framing = framing i }

pub response_one : (limits other : Limits) (stream : List ℕ) (a b : Response) (r q : List ℕ) → BeginsResponseWithin limits stream a r → BeginsResponseWithin other stream b q → (a ≡ b) × (r ≡ q)
response_one limits other stream a b r q x y =
    let heads = response_unique stream x.head y.head x.behind y.behind x.reads y.reads in
    let says = subst (λ (h : ResponseHead). SaysResponse h (start_of b y.framing)) (sym heads.0) y.says in
    let starts = says_one x.head (start_of a x.framing) (start_of b y.framing) x.says says in
    let framing : y.framing ≡ x.framing = λ i. (sym starts i).framing in
    let body : BeginsBody other x.framing x.behind b.body q = subst (λ (s : List ℕ). BeginsBody other x.framing s b.body q) (sym heads.1) (subst (λ (f : Framing). BeginsBody other f y.behind b.body q) framing y.body) in
    let bodies = body_unique limits other x.framing x.behind a.body b.body r q x.body body in
    (λ i. record { status = (starts i).status; media = (starts i).media; body = bodies.0 i }, bodies.1)

-- bytes that follow a response leave it as it is, unless its body runs to the end of the stream
pub goes_on : (limits : Limits) (stream more : List ℕ) (response : Response) (rest : List ℕ) (x : BeginsResponseWithin limits stream response rest) → x.framing ≢ ToEnd → BeginsResponseWithin limits (stream ++ more) response (rest ++ more)
goes_on limits stream more response rest x bounded = record {
  head = x.head;
  framing = x.framing;
  behind = x.behind ++ more;
  reads = ReadsResponse-append stream x.head x.behind more x.reads;
  small = x.small;
  says = x.says;
  body = body_goes_on limits x.framing x.behind response.body rest more bounded x.body;
}

-- no head, hence no response
pub no_head : (limits : Limits) (stream : List ℕ) → HasNoResponseHead limits stream → HasNoResponseWithin limits stream
no_head limits stream none response rest begins =
    none begins.behind (start_of response begins.framing) (record { head = begins.head; reads = begins.reads; small = begins.small; says = begins.says })

-- a head, and no body after it
pub no_body : (start : ResponseStart) (head : ResponseHead) (limits : Limits) (behind : List ℕ) → IsResponseHead head → SaysResponse head start → HasNoBody start.framing limits behind → HasNoResponseWithin limits (print_response head ++ behind)
no_body start head limits behind valid says none response rest x =
    let heads = response_unique (print_response head ++ behind) head x.head behind x.behind (valid, refl) x.reads in
    let others = subst (λ (h : ResponseHead). SaysResponse h (start_of response x.framing)) (sym heads.0) x.says in
    let starts = says_one head start (start_of response x.framing) says others in
    let framing : x.framing ≡ start.framing = λ i. (sym starts i).framing in
    none response.body rest (subst (λ (s : List ℕ). BeginsBody limits start.framing s response.body rest) (sym heads.1) (subst (λ (f : Framing). BeginsBody limits f x.behind response.body rest) framing x.body))

-- a head, and what more bytes make a body of it
pub cut_body : (start : ResponseStart) (head : ResponseHead) → IsResponseHead head → IsSmallResponse the_limits head → SaysResponse head start → (behind : List ℕ) → MayBecome (IsBody start.framing) behind → IsCutResponse (print_response head ++ behind)
cut_body start head valid small says behind may = inr (
  may.0,
  (
    record { status = start.status; media = start.media; body = may.1.0 },
    record { head = head; framing = start.framing; behind = behind ++ may.0; reads = (valid, append_assoc (print_response head) behind may.0); small = small; says = says; body = may.1.1 },
  ),
)

-- a head, and a body after it that passes a limit
pub body_passes : (start : ResponseStart) (head : ResponseHead) → IsResponseHead head → IsSmallResponse the_limits head → SaysResponse head start → (behind : List ℕ) → PassesBody start.framing behind → PassesResponse (print_response head ++ behind)
body_passes start head valid small says behind body = long_body start.framing behind (start, record { head = head; reads = (valid, refl); small = small; says = says }, refl) body

-- how far the source is read: a head, and then its body
pub response_asks : (start : ResponseStart) (held now : List ℕ) (old mid new : Option (List ℕ)) → TakesResponseHead (before held old) (before now mid) start → AsksOnlyAsNeeded (HasNoResponseHead the_limits) held old mid → AsksForBody start.framing now mid new → AsksForResponse held old new
response_asks start held now old mid new head first (inl second) =
    inl (asks_after (HasNoResponseHead the_limits) (HasNoBody start.framing the_limits) HasNoResponse (print_response head.head) held now old mid new head.taken (no_head the_limits) (λ rest. no_body start head.head the_limits rest head.valid head.says) first second)
response_asks start held now old mid None head first (inr ended) =
    inl (asks_nothing HasNoResponse held old None (first.given ∙ ap (λ (t : Option (List ℕ)). before (first.prefix ++ first.piece) t) ended.1.given))
response_asks start held now old mid (Some rest) head first (inr ended) =
    let bytes = first.prefix ++ first.piece in
    let gives = ended.1 in
    let same : held ++ bytes ≡ print_response head.head ++ now = same_bytes held bytes (print_response head.head) now (gives.bytes ++ rest) old mid gives.given first.given head.taken in
    inr (record {
      bytes = bytes ++ gives.bytes;
      body = now ++ gives.bytes;
      given = before_more old mid (Some rest) bytes gives.bytes first.given gives.given;
      head = (start, record { head = head.head; reads = (head.valid, sym (append_assoc held bytes gives.bytes) ∙ ap (λ (l : List ℕ). l ++ gives.bytes) same ∙ append_assoc (print_response head.head) now gives.bytes); small = head.small; says = head.says }, ended.0);
      within = gives.within;
    })

-- where the bytes after a head are bad, the bytes that were read begin with that head
pub head_decides : (P : List ℕ → Type 0) (start : ResponseStart) (told now left : Option (List ℕ)) → TakesResponseHead told now start → Dooms P now left → Shows DecidesResponseHead told left
head_decides P start told now left head dooms = record {
  read = print_response head.head ++ dooms.read;
  taken = head.taken ∙ ap (λ (t : Option (List ℕ)). before (print_response head.head) t) dooms.taken ∙ before_append (print_response head.head) dooms.read left;
  holds = inl (head.head, dooms.read, (head.valid, refl));
}

-- a head and a body that were taken are a response, and what is left is the rest
pub response_begins : (start : ResponseStart) (bytes : List ℕ) (old mid new : Option (List ℕ)) → TakesResponseHead old mid start → TakesBody start.framing bytes mid new → Told old (λ stream. Told new (BeginsResponse stream (record { status = start.status; media = start.media; body = bytes })))
response_begins start bytes old mid new head body stream told rest left =
    let found = before_some old mid (print_response head.head) stream head.taken told in
    let behind = body_begins start.framing bytes found.0 mid new body found.1 in
    let same : behind.0 ≡ rest = cc (sym behind.1 ∙ left) in record {
      head = head.head;
      framing = start.framing;
      behind = found.0;
      reads = (head.valid, found.2);
      small = head.small;
      says = head.says;
      body = subst (λ (r : List ℕ). BeginsBody the_limits start.framing found.0 bytes r) same behind.2;
    }

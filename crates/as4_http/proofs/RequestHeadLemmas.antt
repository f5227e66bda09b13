-- Lemmas on the head of a request, as the parser finds it in what an intake holds.
use Rattle.std.proofs.Common.{◌≡◌, ℕ, ◌<◌, ◌≤◌, List, ◌++◌, length, take, drop, map, sym, ap, subst, arith}
use Rattle.std.proofs.lemmas.List.{length-map, length-take}
use Rattle.httparse.specs.declared.spans.HeaderSpan.{HeaderSpan}
use Rattle.httparse.specs.declared.spans.RequestSpans.{RequestSpans}
use Rattle.httparse.specs.Grammar.{RequestHead, print_request, ReadsRequest, HasNoRequest}
use Rattle.httparse.specs.Spans.{IsRequestAt, IsRequestOf, header_bytes, name_and_value}
use Rattle.httparse.proofs.GrammarLemmas.{request_unique, ReadsRequest-append}
use Rattle.as4_http.proofs.StreamLemmas.{front_is}
use Rattle.as4_http.specs.Limits.{Limits, the_limits}
use Rattle.as4_http.specs.declared.limits.TheConstants.{MAX_HEAD, MAX_FIELDS}
use Rattle.as4_http.specs.declared.request_start.RequestStart.{RequestStart}
use Rattle.as4_http.specs.RequestStarts.{SaysRequest, BeginsRequestHead, HasNoRequestHead}

-- the spans are those of any head that the bytes begin with
pub at_any : (buf : List ℕ) (headers : List HeaderSpan) (spans : RequestSpans) (head other : RequestHead) (rest : List ℕ) → IsRequestAt buf headers spans head → ReadsRequest buf other rest → IsRequestAt buf headers spans other
at_any buf headers spans head other rest at reads =
    subst (λ (h : RequestHead). IsRequestAt buf headers spans h) (request_unique buf head other _ rest at.reads reads).0 at

pub none_long : (buf : List ℕ) (headers : List HeaderSpan) (spans : RequestSpans) → IsRequestOf buf headers spans → MAX_HEAD < spans.len → HasNoRequestHead the_limits buf
none_long buf headers spans of long rest start begins =
    let at = at_any buf headers spans of.0 begins.head rest of.1 begins.reads in
    omega (arith, at.len, begins.small.bytes)

pub none_says : (limits : Limits) (bytes buf : List ℕ) (headers : List HeaderSpan) (spans : RequestSpans) → IsRequestOf buf headers spans → bytes ≡ buf → ((head : RequestHead) (start : RequestStart) → IsRequestAt bytes headers spans head → ¬ (SaysRequest head start)) → HasNoRequestHead limits buf
none_says limits bytes buf headers spans of same none rest start begins =
    none begins.head start (subst (λ (b : List ℕ). IsRequestAt b headers spans begins.head) (sym same) (at_any buf headers spans of.0 begins.head rest of.1 begins.reads)) begins.says

pub begins : (bytes buf rest : List ℕ) (headers : List HeaderSpan) (spans : RequestSpans) (start : RequestStart) → IsRequestOf buf headers spans → length headers ≤ MAX_FIELDS → spans.len ≤ MAX_HEAD → rest ≡ drop spans.len buf → bytes ≡ buf → ((head : RequestHead) → IsRequestAt bytes headers spans head → SaysRequest head start) → BeginsRequestHead the_limits buf rest start
begins bytes buf rest headers spans start of few short rest_is same says =
    let at = of.1 in
    let counts : length (map (header_bytes buf) (take spans.headers headers)) ≡ length (map name_and_value of.0.fields) = ap length at.fields in record {
      head = of.0;
      reads = subst (λ (r : List ℕ). ReadsRequest buf of.0 r) (sym rest_is) at.reads;
      small = record {
        bytes = omega (arith, at.len);
        fields = omega (arith, counts, length-map (take spans.headers headers) (header_bytes buf), length-map of.0.fields name_and_value, length-take spans.headers headers);
      };
      says = says of.0 (subst (λ (b : List ℕ). IsRequestAt b headers spans of.0) (sym same) at);
    }

-- where the bytes begin with a head, and it isn't such a one, none that goes on so does
pub none_on : (limits : Limits) (held : List ℕ) (headers : List HeaderSpan) (spans : RequestSpans) → IsRequestOf held headers spans → HasNoRequestHead limits held → (more : List ℕ) → HasNoRequestHead limits (held ++ more)
none_on limits held headers spans of none more rest start begins =
    let same : of.0 ≡ begins.head = (request_unique (held ++ more) of.0 begins.head _ rest (ReadsRequest-append held of.0 _ more of.1.reads) begins.reads).0 in
    none (drop spans.len held) start (record {
      head = begins.head;
      reads = subst (λ (h : RequestHead). ReadsRequest held h (drop spans.len held)) same of.1.reads;
      small = begins.small;
      says = begins.says;
    })

-- no bytes of a head came yet, and there are more than a head has
pub none_yet : (held : List ℕ) → HasNoRequest held → MAX_HEAD < length held → (more : List ℕ) → HasNoRequestHead the_limits (held ++ more)
none_yet held none long more rest start begins =
    none begins.head _ (begins.reads.0, front_is held (print_request begins.head) more rest begins.reads.1 (omega (arith, begins.small.bytes)))

-- bytes that are no whole head
pub none_begun : (held : List ℕ) → HasNoRequest held → HasNoRequestHead the_limits held
none_begun held none rest start begins = none begins.head rest begins.reads

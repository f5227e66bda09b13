-- Lemmas on the head of a response, as the parser finds it in what an intake holds.
use Rattle.std.proofs.Common.{◌≡◌, ℕ, ◌<◌, ◌≤◌, List, ◌++◌, length, take, drop, map, sym, ap, subst, arith}
use Rattle.std.proofs.lemmas.List.{length-map, length-take}
use Rattle.httparse.specs.declared.spans.HeaderSpan.{HeaderSpan}
use Rattle.httparse.specs.declared.spans.ResponseSpans.{ResponseSpans}
use Rattle.httparse.specs.Grammar.{ResponseHead, print_response, ReadsResponse, HasNoResponse}
use Rattle.httparse.specs.Spans.{IsResponseAt, IsResponseOf, header_bytes, name_and_value}
use Rattle.httparse.proofs.GrammarLemmas.{response_unique, ReadsResponse-append}
use Rattle.as4_http.proofs.StreamLemmas.{front_is}
use Rattle.as4_http.specs.Limits.{Limits, the_limits}
use Rattle.as4_http.specs.declared.limits.TheConstants.{MAX_HEAD, MAX_FIELDS}
use Rattle.as4_http.specs.declared.response_start.ResponseStart.{ResponseStart}
use Rattle.as4_http.specs.ResponseStarts.{SaysResponse, BeginsResponseHead, HasNoResponseHead}

-- the spans are those of any head that the bytes begin with
pub at_any : (buf : List ℕ) (headers : List HeaderSpan) (spans : ResponseSpans) (head other : ResponseHead) (rest : List ℕ) → IsResponseAt buf headers spans head → ReadsResponse buf other rest → IsResponseAt buf headers spans other
at_any buf headers spans head other rest at reads =
    subst (λ (h : ResponseHead). IsResponseAt buf headers spans h) (response_unique buf head other _ rest at.reads reads).0 at

pub none_long : (buf : List ℕ) (headers : List HeaderSpan) (spans : ResponseSpans) → IsResponseOf buf headers spans → MAX_HEAD < spans.len → HasNoResponseHead the_limits buf
none_long buf headers spans of long rest start begins =
    let at = at_any buf headers spans of.0 begins.head rest of.1 begins.reads in
    omega (arith, at.len, begins.small.bytes)

pub none_says : (limits : Limits) (bytes buf : List ℕ) (headers : List HeaderSpan) (spans : ResponseSpans) → IsResponseOf buf headers spans → bytes ≡ buf → ((head : ResponseHead) (start : ResponseStart) → IsResponseAt bytes headers spans head → ¬ (SaysResponse head start)) → HasNoResponseHead limits buf
none_says limits bytes buf headers spans of same none rest start begins =
    none begins.head start (subst (λ (b : List ℕ). IsResponseAt b headers spans begins.head) (sym same) (at_any buf headers spans of.0 begins.head rest of.1 begins.reads)) begins.says

pub begins : (bytes buf rest : List ℕ) (headers : List HeaderSpan) (spans : ResponseSpans) (start : ResponseStart) → IsResponseOf buf headers spans → length headers ≤ MAX_FIELDS → spans.len ≤ MAX_HEAD → rest ≡ drop spans.len buf → bytes ≡ buf → ((head : ResponseHead) → IsResponseAt bytes headers spans head → SaysResponse head start) → BeginsResponseHead the_limits buf rest start
begins bytes buf rest headers spans start of few short rest_is same says =
    let at = of.1 in
    let counts : length (map (header_bytes buf) (take spans.headers headers)) ≡ length (map name_and_value of.0.fields) = ap length at.fields in record {
      head = of.0;
      reads = subst (λ (r : List ℕ). ReadsResponse buf of.0 r) (sym rest_is) at.reads;
      small = record {
        bytes = omega (arith, at.len);
        fields = omega (arith, counts, length-map (take spans.headers headers) (header_bytes buf), length-map of.0.fields name_and_value, length-take spans.headers headers);
      };
      says = says of.0 (subst (λ (b : List ℕ). IsResponseAt b headers spans of.0) (sym same) at);
    }

-- where the bytes begin with a head, and it isn't such a one, none that goes on so does
pub none_on : (limits : Limits) (held : List ℕ) (headers : List HeaderSpan) (spans : ResponseSpans) → IsResponseOf held headers spans → HasNoResponseHead limits held → (more : List ℕ) → HasNoResponseHead limits (held ++ more)
none_on limits held headers spans of none more rest start begins =
    let same : of.0 ≡ begins.head = (response_unique (held ++ more) of.0 begins.head _ rest (ReadsResponse-append held of.0 _ more of.1.reads) begins.reads).0 in
    none (drop spans.len held) start (record {
      head = begins.head;
      reads = subst (λ (h : ResponseHead). ReadsResponse held h (drop spans.len held)) same of.1.reads;
      small = begins.small;
      says = begins.says;
    })

-- no bytes of a head came yet, and there are more than a head has
pub none_yet : (held : List ℕ) → HasNoResponse held → MAX_HEAD < length held → (more : List ℕ) → HasNoResponseHead the_limits (held ++ more)
none_yet held none long more rest start begins =
    none begins.head _ (begins.reads.0, front_is held (print_response begins.head) more rest begins.reads.1 (omega (arith, begins.small.bytes)))

-- bytes that are no whole head
pub none_begun : (held : List ℕ) → HasNoResponse held → HasNoResponseHead the_limits held
none_begun held none rest start begins = none begins.head rest begins.reads

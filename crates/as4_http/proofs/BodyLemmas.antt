-- Lemmas on bodies.
use Rattle.std.proofs.Common.{◌≡◌, ◌≢◌, ℕ, ◌-◌, ◌≤◌, replicate, List, [], ◌++◌, length, Option, None, Some, refl, sym, ◌∙◌, ◌<◌, ap, subst, arith, append_assoc, append-nil, length-append}
use Rattle.std.proofs.lemmas.List.{length-replicate}
use Rattle.as4_flow.specs.Flow.{before}
use Rattle.as4_http.specs.Bodies.{BeginsChunked, BeginsBody, HasNoBody, IsBody, IsLong, TakesBody}
use Rattle.as4_http.specs.Came.{IsShorter}
use Rattle.as4_http.specs.Chunks.{print_chunked, joined, HasNoChunked, IsWholeChunked}
use Rattle.as4_http.specs.Passed.{Shows, PassesBody}
use Rattle.as4_http.specs.Refused.{MayBecome, Refuses}
use Rattle.as4_http.specs.Limits.{Limits, the_limits}
use Rattle.as4_http.specs.declared.framing.Framing.{Framing}
use Rattle.as4_http.specs.declared.framing.Framing.TheVariants.{Empty, Counted, Chunked, ToEnd}
use Rattle.as4_http.specs.declared.limits.TheConstants.{MAX_BODY}
use Rattle.as4_http.specs.declared.refusal.HttpRefusal.{HttpRefusal}
use Rattle.as4_http.specs.declared.refusal.HttpRefusal.TheVariants.{TooLong}
use Rattle.as4_http.proofs.ChunkedLemmas.{same_front, chunked_text_unique}

-- fewer bytes than the head says may become a body
short_counted : (n : ℕ) → n ≤ MAX_BODY → (stream : List ℕ) → IsShorter n stream → HasNoBody (Counted n) the_limits stream × MayBecome (IsBody (Counted n)) stream
short_counted n within stream short =
    let zeros : List ℕ = replicate (n - length stream) 48 in
    let whole = stream ++ zeros in
    let count : length whole ≡ n = omega (arith, length-append stream zeros, length-replicate {A = ℕ} (n - length stream) 48, short) in
    (λ bytes rest begins. omega (arith, short, ap length begins.2, length-append bytes rest, begins.0), (zeros, (whole, (count, within, sym (append-nil whole)))))

pub short_body : (framing : Framing) (n : ℕ) → framing ≡ Counted n → n ≤ MAX_BODY → (stream : List ℕ) → IsShorter n stream → HasNoBody framing the_limits stream × MayBecome (IsBody framing) stream
short_body framing n is within stream short = subst (λ (f : Framing). HasNoBody f the_limits stream × MayBecome (IsBody f) stream) (sym is) (short_counted n within stream short)

-- a body in chunks that more bytes end
chunked_whole : (stream : List ℕ) → MayBecome IsWholeChunked stream → MayBecome (IsBody Chunked) stream
chunked_whole stream may = (may.0, (joined may.1.body.chunks, record { body = may.1.body; valid = may.1.valid; small = may.1.small; joins = refl; reads = may.1.is ∙ sym (append-nil (print_chunked may.1.body)) }))

pub chunked_may : (framing : Framing) → framing ≡ Chunked → (stream : List ℕ) → MayBecome IsWholeChunked stream → MayBecome (IsBody framing) stream
chunked_may framing is stream may = subst (λ (f : Framing). MayBecome (IsBody f) stream) (sym is) (chunked_whole stream may)

not_chunked : (limits : Limits) (stream : List ℕ) → HasNoChunked limits stream → HasNoBody Chunked limits stream
not_chunked limits stream none bytes rest begins = none begins.body rest begins.valid begins.small begins.reads

pub chunked_body : (framing : Framing) → framing ≡ Chunked → (limits : Limits) (stream : List ℕ) → HasNoChunked limits stream → HasNoBody framing limits stream
chunked_body framing is limits stream none = subst (λ (f : Framing). HasNoBody f limits stream) (sym is) (not_chunked limits stream none)

-- more bytes than a body has
not_rest : (limits : Limits) (stream : List ℕ) → IsLong limits stream → HasNoBody ToEnd limits stream
not_rest limits stream long bytes rest begins = omega (arith, long, begins.0, ap length begins.1)

pub rest_body : (framing : Framing) → framing ≡ ToEnd → (limits : Limits) (stream : List ℕ) → IsLong limits stream → HasNoBody framing limits stream
rest_body framing is limits stream long = subst (λ (f : Framing). HasNoBody f limits stream) (sym is) (not_rest limits stream long)

-- where they were read, the body passes the limit
pub rest_shows : (framing : Framing) (told left : Option (List ℕ)) (refusal : HttpRefusal) → framing ≡ ToEnd → refusal ≡ TooLong → Refuses IsLong (λ _. ⊥) told left refusal → Shows (PassesBody framing) told left
rest_shows framing told left refusal is long fact =
    let doomed : Refuses IsLong (λ _. ⊥) told left TooLong = subst (Refuses IsLong (λ _. ⊥) told left) long fact in record {
      read = doomed.read;
      taken = doomed.taken;
      holds = subst (λ (f : Framing). PassesBody f doomed.read) (sym is) (subst (λ (l : List ℕ). MAX_BODY < length l) (append-nil doomed.read) (doomed.doomed []));
    }

-- ---- a stream begins with one body at most

chunked_unique : (limits other : Limits) (stream : List ℕ) (a b : List ℕ) (r q : List ℕ) → BeginsChunked limits stream a r → BeginsChunked other stream b q → (a ≡ b) × (r ≡ q)
chunked_unique limits other stream a b r q x y =
    let same = chunked_text_unique x.body y.body r q x.valid y.valid (sym x.reads ∙ y.reads) in
    (x.joins ∙ same.0 ∙ sym y.joins, same.1)

pub body_unique : (limits other : Limits) (framing : Framing) (stream a b r q : List ℕ) → BeginsBody limits framing stream a r → BeginsBody other framing stream b q → (a ≡ b) × (r ≡ q)
body_unique limits other Empty stream a b r q x y = (x.0 ∙ sym y.0, sym x.1 ∙ y.1)
body_unique limits other (Counted n) stream a b r q x y = same_front a b r q (x.0 ∙ sym y.0) (sym x.2 ∙ y.2)
body_unique limits other Chunked stream a b r q x y = chunked_unique limits other stream a b r q x y
body_unique limits other ToEnd stream a b r q x y = (sym x.1 ∙ y.1, x.2 ∙ sym y.2)

-- bytes that follow a body leave it as it is, unless it runs to the end of the stream
pub body_goes_on : (limits : Limits) (framing : Framing) (stream bytes rest more : List ℕ) → framing ≢ ToEnd → BeginsBody limits framing stream bytes rest → BeginsBody limits framing (stream ++ more) bytes (rest ++ more)
body_goes_on limits Empty stream bytes rest more bounded x = (x.0, ap (λ (l : List ℕ). l ++ more) x.1)
body_goes_on limits (Counted n) stream bytes rest more bounded x = (x.0, x.1, ap (λ (l : List ℕ). l ++ more) x.2 ∙ append_assoc bytes rest more)
body_goes_on limits Chunked stream bytes rest more bounded x = record {
  body = x.body;
  valid = x.valid;
  small = x.small;
  joins = x.joins;
  reads = ap (λ (l : List ℕ). l ++ more) x.reads ∙ append_assoc (print_chunked x.body) rest more;
}
body_goes_on limits ToEnd stream bytes rest more bounded x = absurd (bounded refl)

-- ---- what was taken is what the stream begins with

-- where the stream before is observable, so is the stream after
pub before_some : (start end : Option (List ℕ)) (front stream : List ℕ) → start ≡ before front end → start ≡ Some stream → (rest : List ℕ) × (end ≡ Some rest) × (stream ≡ front ++ rest)
before_some start None front stream taken told = let clash : None ≡ Some stream = sym taken ∙ told in absurd (cc)
before_some start (Some rest) front stream taken told = (rest, refl, cc (sym told ∙ taken))

pub body_begins : (framing : Framing) (bytes stream : List ℕ) (start end : Option (List ℕ)) → TakesBody framing bytes start end → start ≡ Some stream → (rest : List ℕ) × (end ≡ Some rest) × BeginsBody the_limits framing stream bytes rest
body_begins Empty bytes stream start end takes told = (stream, sym takes.1 ∙ told, (takes.0, refl))
body_begins (Counted n) bytes stream start end takes told =
    let found = before_some start end bytes stream takes.2 told in
    (found.0, found.1, (takes.0, takes.1, found.2))
body_begins Chunked bytes stream start end takes told =
    let found = before_some start end (print_chunked takes.body) stream takes.taken told in
    (found.0, found.1, record { body = takes.body; valid = takes.valid; small = takes.small; joins = takes.joins; reads = found.2 })
body_begins ToEnd bytes stream start end takes told =
    let found = before_some start end bytes stream takes.taken told in
    let none : found.0 ≡ [] = takes.ended found.0 found.1 in
    (found.0, found.1, (takes.small, found.2 ∙ ap (λ (l : List ℕ). bytes ++ l) none ∙ append-nil bytes, none))

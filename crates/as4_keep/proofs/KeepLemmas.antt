-- What becomes of the next request of a connection, put together from what its calls ensure.
use Rattle.std.proofs.Common.{◌≡◌, ◌⊎◌, ◌&&◌, ◌==◌, ◌≢◌, ◌≤◌, ◌<◌, ℕ, zero, suc, Bool, true, false, not, List, [], ◌∷◌, Option, Some, None, is_some, refl, sym, ap, subst, ◌∙◌, inl, inr, true≢false, arith}
use Rattle.std.proofs.lemmas.Bool.Decides.{nat_tests}
use Rattle.as4_disk.specs.declared.disk.Disk.{Ghosts as DiskMeaning}
use Rattle.as4_doors.specs.declared.door.DoorKind.{DoorKind}
use Rattle.as4_flow.specs.declared.clock.Clock.{Ghosts as ClockMeaning}
use Rattle.as4_flow.specs.declared.nonces.Nonces.{Ghosts as NoncesMeaning}
use Rattle.as4_flow.specs.Flow.{Rose, Streams, Told, before, between}
use Rattle.as4_http.specs.Passed.{PassesRequest, Shows}
use Rattle.as4_http.specs.Refused.{Dooms, OnRefusal}
use Rattle.as4_http.specs.RequestStarts.{DecidesRequestHead}
use Rattle.as4_http.specs.Requests.{BeginsKept, HasNoRequest, IsCutRequest, IsNoRequest}
use Rattle.as4_http.specs.declared.message.Request.{Request}
use Rattle.as4_http.specs.declared.refusal.HttpRefusal.{HttpRefusal}
use Rattle.as4_http.specs.declared.refusal.HttpRefusal.TheVariants as http
use Rattle.sessions.specs.Sessions.{IsWhyUnread, Writes, ended_unread, text_unread}
use Rattle.sessions.specs.declared.ended.Ended.{Ended}
use Rattle.sessions.specs.declared.ended.Ended.TheVariants as ended
use Rattle.sessions.specs.declared.naming.Opening.{Ghosts as OpeningMeaning}
use Rattle.as4_keep.specs.Connections.{Moment, Responds, ServesRequest, ServesRequests, ahead, is_full}
use Rattle.as4_keep.specs.Parts.{BreaksUnread, FollowsEnd, MeetsRequest}
use Rattle.as4_keep.specs.declared.next.Next.{Next}
use Rattle.as4_keep.specs.declared.next.Next.TheVariants as next

-- an intake that holds nothing stands before what is left
pub nothing_held : (held : List ℕ) (left : Option (List ℕ)) → held ≡ [] → before held left ≡ left
nothing_held held None none = refl
nothing_held held (Some bytes) none = ap (λ (h : List ℕ). before h (Some bytes)) none

-- a stream is as observable with bytes before it
pub as_observable : (held : List ℕ) (left : Option (List ℕ)) → is_some (before held left) ≡ is_some left
as_observable held None = refl
as_observable held (Some bytes) = refl

-- a stream before which there are bytes isn't empty
pub not_empty : (held : List ℕ) (left : Option (List ℕ)) → held ≢ [] → Told (before held left) (λ stream. stream ≢ [])
not_empty held None some stream is none = absurd cc
not_empty [] (Some left) some stream is none = absurd (some refl)
not_empty (b ∷ held) (Some left) some stream is none = absurd cc

-- no request that wasn't read is answered in full
unread_breaks : (refusal : HttpRefusal) → is_full (ended_unread refusal) ≡ false
unread_breaks http.Cut = refl
unread_breaks http.Bad = refl
unread_breaks http.TooLong = refl
unread_breaks http.ReadFault = refl
unread_breaks http.NoMemory = refl

-- nor is one that would have broken the connection
stays_broken : (would end : Ended) (bytes : List ℕ) (streams : Streams) → Writes would bytes end streams → is_full would ≡ false → is_full end ≡ false
stays_broken would end bytes streams (inl whole) broken = ap is_full whole.0 ∙ broken
stays_broken would end bytes streams (inr failed) broken = ap is_full failed.0

-- why no request was read
pub why_unread : (refusal : HttpRefusal) (streams : Streams)
    → OnRefusal refusal (Told streams.left HasNoRequest)
    → (refusal ≡ http.Cut → Told streams.left IsCutRequest)
    → (refusal ≡ http.Cut → Told streams.rest (λ bytes. bytes ≡ []))
    → (refusal ≡ http.Bad → Dooms IsNoRequest streams.left streams.rest)
    → (refusal ≡ http.Bad → Shows DecidesRequestHead streams.left streams.rest)
    → (refusal ≡ http.TooLong → Dooms HasNoRequest streams.left streams.rest)
    → (refusal ≡ http.TooLong → Shows PassesRequest streams.left streams.rest)
    → (refusal ≡ http.ReadFault → Rose streams.read_faults streams.later_read_faults)
    → IsWhyUnread refusal streams
why_unread http.Cut streams only begun cut bad head long passed fault = (only, begun refl, cut refl)
why_unread http.Bad streams only begun cut bad head long passed fault = (bad refl, head refl)
why_unread http.TooLong streams only begun cut bad head long passed fault = (long refl, passed refl)
why_unread http.ReadFault streams only begun cut bad head long passed fault = fault refl
why_unread http.NoMemory streams only begun cut bad head long passed fault = tt

pub no_cut : (refusal : HttpRefusal) → (refusal ≡ http.ReadFault) ⊎ (refusal ≡ http.NoMemory) → refusal ≡ http.Cut → ⊥
no_cut refusal (inl fault) cut = absurd cc
no_cut refusal (inr memory) cut = absurd cc

-- the same where it isn't known whether a request begins
pub why_unbegun : (refusal : HttpRefusal) (streams : Streams) → (refusal ≡ http.ReadFault) ⊎ (refusal ≡ http.NoMemory)
    → (refusal ≡ http.ReadFault → Rose streams.read_faults streams.later_read_faults) → IsWhyUnread refusal streams
why_unbegun refusal streams (inl is) fault = subst (λ (r : HttpRefusal). IsWhyUnread r streams) (sym is) (fault is)
why_unbegun refusal streams (inr is) fault = subst (λ (r : HttpRefusal). IsWhyUnread r streams) (sym is) tt

no_last : (allows is_last : Bool) → true ≡ allows && not is_last → is_last ≡ false
no_last true true goes = absurd (true≢false goes)
no_last false true goes = absurd (true≢false goes)
no_last allows false goes = refl

not_at : (n limit : ℕ) → (n == limit) ≡ false → n ≡ limit → ⊥
not_at n limit other same = grind (arith, nat_tests)

module _ {D J C N : Type 0} (M : DiskMeaning D) (O : OpeningMeaning J) (T : ClockMeaning C) (R : NoncesMeaning N) (door : DoorKind) where
  -- a request was served in full
  serves : (is_last : Bool) (old new : Moment C N) (request : Request) (allows goes_on so : Bool) (held : List ℕ) (would end : Ended) (response : List ℕ)
      → Told old.flow.left (λ (stream : List ℕ). Told (before held new.flow.left) (BeginsKept stream request allows))
      → is_some new.flow.left ≡ is_some old.flow.left → new.flow.reads ≡ old.flow.reads → goes_on ≡ allows && not is_last
      → Responds M O T R door request goes_on old.caller new.caller would response → Writes would response end (between old.flow new.flow)
      → is_full end ≡ true → goes_on ≡ so → ServesRequest M O T R door is_last old (ahead held new) so
  serves is_last old new request allows goes_on so held would end response begins tells reads goes responds (inl whole) full is = record {
    request = request;
    allows = allows;
    begins = begins;
    tells = as_observable held new.flow.left ∙ tells;
    goes = sym is ∙ goes;
    end = would;
    response = response;
    responds = subst (λ (b : Bool). Responds M O T R door request b old.caller new.caller would response) is responds;
    full = sym (ap is_full whole.0) ∙ full;
    written = whole.1;
    reads = reads;
    writes = whole.2;
  }
  serves is_last old new request allows goes_on so held would end response begins tells reads goes responds (inr failed) full is =
      absurd (true≢false (sym full ∙ ap is_full failed.0))

  -- a request was read, and answered
  pub meets : (is_last : Bool) (old new : Moment C N) (request : Request) (allows goes_on : Bool) (held : List ℕ) (would end : Ended) (response : List ℕ) (so : Next)
      → Told old.flow.left (λ (stream : List ℕ). Told (before held new.flow.left) (BeginsKept stream request allows))
      → is_some new.flow.left ≡ is_some old.flow.left → new.flow.reads ≡ old.flow.reads → goes_on ≡ allows && not is_last
      → Responds M O T R door request goes_on old.caller new.caller would response → Writes would response end (between old.flow new.flow)
      → FollowsEnd end goes_on held so → MeetsRequest M O T R door is_last old new so
  meets is_last old new request allows goes_on held would end response (next.GoesOn intake) begins tells reads goes responds writes follows =
      subst (λ (h : List ℕ). ServesRequest M O T R door is_last old (ahead h new) true) (sym follows.2)
      (serves is_last old new request allows goes_on true held would end response begins tells reads goes responds writes follows.0 follows.1)
  meets is_last old new request allows goes_on held would end response next.Closes begins tells reads goes responds writes follows =
      (held, serves is_last old new request allows goes_on false held would end response begins tells reads goes responds writes follows.0 follows.1)
  meets is_last old new request allows goes_on held would end response next.Ended begins tells reads goes responds writes follows = absurd follows
  meets is_last old new request allows goes_on held would end response (next.Breaks by) begins tells reads goes responds writes follows = record {
    would = would;
    text = response;
    cause = inl (record {
      request = request;
      allows = allows;
      held = held;
      begins = begins;
      reads = reads;
      responds = subst (λ (b : Bool). Responds M O T R door request b old.caller new.caller would response) goes responds;
    });
    writes = subst (λ (e : Ended). Writes would response e (between old.flow new.flow)) (sym follows.1) writes;
    broken = ap is_full follows.1 ∙ follows.0;
  }

  -- no request was read
  pub meets_none : (is_last : Bool) (old new : Moment C N) (refusal : HttpRefusal) (so : Next)
      → IsWhyUnread refusal (between old.flow new.flow)
      → (¬ (refusal ≡ http.ReadFault) → new.flow.reads ≡ old.flow.reads)
      → (refusal ≡ http.Cut → Told old.flow.left (λ (stream : List ℕ). stream ≢ []))
      → new.caller ≡ old.caller → BreaksUnread refusal (between old.flow new.flow) so → MeetsRequest M O T R door is_last old new so
  meets_none is_last old new refusal (next.Breaks end) why quiet begun same breaks = record {
    would = ended_unread refusal;
    text = text_unread refusal;
    cause = inr (record {
      none = record { refusal = refusal; ended = refl; written = refl; why = why; quiet = quiet };
      begun = λ is. begun (was_cut refusal is);
      same = same;
    });
    writes = breaks;
    broken = stays_broken (ended_unread refusal) end (text_unread refusal) (between old.flow new.flow) breaks (unread_breaks refusal);
  }
    where
      was_cut : (r : HttpRefusal) → ended_unread r ≡ ended.Cut → r ≡ http.Cut
      was_cut http.Cut is = refl
      was_cut http.Bad is = absurd cc
      was_cut http.TooLong is = absurd cc
      was_cut http.ReadFault is = absurd cc
      was_cut http.NoMemory is = absurd cc
  meets_none is_last old new refusal (next.GoesOn intake) why quiet begun same breaks = absurd breaks
  meets_none is_last old new refusal next.Closes why quiet begun same breaks = absurd breaks
  meets_none is_last old new refusal next.Ended why quiet begun same breaks = absurd breaks

  -- fewer requests than the limit keep the connection
  pub below_limit : (limit n : ℕ) (old new : Moment C N) → 1 ≤ limit → ServesRequests M O T R door limit n old new → n < limit
  below_limit limit zero old new some same = omega (arith, some)
  below_limit limit (suc n) old new some (middle, first, last) =
      let before = below_limit limit n old middle some first in
      let other = not_at (suc n) limit (no_last last.allows (suc n == limit) last.goes) in
      grind (arith, before, other)

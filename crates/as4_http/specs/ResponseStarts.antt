-- What the head of a response says (RFC 9112, sections 4 and 6).
use Rattle.std.specs.Prelude.{◌≡◌, ℕ, ◌≤◌, ◌⊎◌, ◌==◌, ◌||◌, List, if◌then◌else◌, length, map, codes, Option}
use Rattle.std.specs.Option.{option_to_list}
use Rattle.as4_flow.specs.Flow.{before}
use Rattle.httparse.specs.Grammar.{ResponseHead, IsResponseHead, print_response, ReadsResponse, HasNoResponse, NeverHasResponse, MayBecomeResponse, status_code}
use Rattle.httparse.specs.Spans.{name_and_value}
use Rattle.as4_http.specs.Fields.{values_in}
use Rattle.as4_http.specs.Framing.{FramesAs}
use Rattle.as4_http.specs.Limits.{Limits, the_limits}
use Rattle.as4_http.specs.declared.framing.Framing.{Framing}
use Rattle.as4_http.specs.declared.framing.Framing.TheVariants.{Empty, ToEnd}
use Rattle.as4_http.specs.declared.response_start.ResponseStart.{ResponseStart}

-- with the statuses 204 and 304 there is no body, whatever the fields say
abbrev pub framing_at : ℕ → Framing → Framing
framing_at status said = if (status == 204) || (status == 304) then Empty else said

-- the head says this: what isn't said twice, and in fields that agree
pub record SaysResponse (head : ResponseHead) (start : ResponseStart) : Type 0 where
  pub status : status_code head ≡ start.status
  pub final : 200 ≤ start.status
  pub media : values_in (codes "content-type") (map name_and_value head.fields) ≡ option_to_list start.media
  -- where no field says how long the body is, it runs to the end of the stream
  pub said : Framing
  pub says : FramesAs ToEnd (map name_and_value head.fields) said
  pub framing : start.framing ≡ framing_at start.status said

-- the head is within the limits
pub record IsSmallResponse (limits : Limits) (head : ResponseHead) : Type 0 where
  pub bytes : length (print_response head) ≤ limits.head
  pub fields : length head.fields ≤ limits.fields

-- the bytes are a head within the limits that says this, and then the rest
pub record BeginsResponseHead (limits : Limits) (bytes rest : List ℕ) (start : ResponseStart) : Type 0 where
  pub head : ResponseHead
  pub reads : ReadsResponse bytes head rest
  pub small : IsSmallResponse limits head
  pub says : SaysResponse head start

-- the bytes don't begin with such a head
abbrev pub HasNoResponseHead : Limits → List ℕ → Type 0
HasNoResponseHead limits bytes = (rest : List ℕ) (start : ResponseStart) → ¬ (BeginsResponseHead limits bytes rest start)

-- the bytes end inside a head: they have none, more bytes may make them one, and they are no longer than one may be
pub record EndsInResponseHead (bytes : List ℕ) : Type 0 where
  pub none : HasNoResponse bytes
  pub may : MayBecomeResponse bytes
  pub few : length bytes ≤ the_limits.head

-- the bytes begin with a head, whatever it says; or no bytes that follow make them begin with one
abbrev pub DecidesResponseHead : List ℕ → Type 0
DecidesResponseHead bytes = ((head : ResponseHead) × (rest : List ℕ) × ReadsResponse bytes head rest) ⊎ NeverHasResponse bytes

-- such a head was taken off a stream, and nothing else
pub record TakesResponseHead (old new : Option (List ℕ)) (start : ResponseStart) : Type 0 where
  pub head : ResponseHead
  pub valid : IsResponseHead head
  pub small : IsSmallResponse the_limits head
  pub says : SaysResponse head start
  pub taken : old ≡ before (print_response head) new

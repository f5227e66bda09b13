-- What the head of a request says (RFC 9112, sections 3, 6 and 9.3).
use Rattle.std.specs.Prelude.{◌≡◌, ℕ, ◌≤◌, ◌⊎◌, ◌==◌, ◌&&◌, not, List, length, map, codes, Option}
use Rattle.std.specs.Option.{option_to_list}
use Rattle.as4_flow.specs.Flow.{before}
use Rattle.httparse.specs.Grammar.{RequestHead, IsRequestHead, print_request, ReadsRequest, HasNoRequest, NeverHasRequest, MayBecomeRequest}
use Rattle.httparse.specs.Spans.{name_and_value}
use Rattle.as4_http.specs.Connection.{closes}
use Rattle.as4_http.specs.Fields.{values_in}
use Rattle.as4_http.specs.Framing.{FramesAs}
use Rattle.as4_http.specs.Methods.{method_text}
use Rattle.as4_http.specs.Limits.{Limits, the_limits}
use Rattle.as4_http.specs.declared.framing.Framing.TheVariants.{Empty}
use Rattle.as4_http.specs.declared.request_start.RequestStart.{RequestStart}

-- the head says this: what isn't said twice, and in fields that agree
pub record SaysRequest (head : RequestHead) (start : RequestStart) : Type 0 where
  pub method : head.method ≡ method_text start.method
  pub target : head.target ≡ start.target
  pub media : values_in (codes "content-type") (map name_and_value head.fields) ≡ option_to_list start.media
  -- where no field says how long the body is, there is none
  pub framing : FramesAs Empty (map name_and_value head.fields) start.framing
  -- the version is 1.1, and no field closes the connection
  pub kept : start.kept ≡ ((head.minor == 1) && not (closes (map name_and_value head.fields)))

-- the head is within the limits
pub record IsSmallRequest (limits : Limits) (head : RequestHead) : Type 0 where
  pub bytes : length (print_request head) ≤ limits.head
  pub fields : length head.fields ≤ limits.fields

-- the bytes are a head within the limits that says this, and then the rest
pub record BeginsRequestHead (limits : Limits) (bytes rest : List ℕ) (start : RequestStart) : Type 0 where
  pub head : RequestHead
  pub reads : ReadsRequest bytes head rest
  pub small : IsSmallRequest limits head
  pub says : SaysRequest head start

-- the bytes don't begin with such a head
abbrev pub HasNoRequestHead : Limits → List ℕ → Type 0
HasNoRequestHead limits bytes = (rest : List ℕ) (start : RequestStart) → ¬ (BeginsRequestHead limits bytes rest start)

-- the bytes end inside a head: they have none, more bytes may make them one, and they are no longer than one may be
pub record EndsInRequestHead (bytes : List ℕ) : Type 0 where
  pub none : HasNoRequest bytes
  pub may : MayBecomeRequest bytes
  pub few : length bytes ≤ the_limits.head

-- the bytes begin with a head, whatever it says; or no bytes that follow make them begin with one
abbrev pub DecidesRequestHead : List ℕ → Type 0
DecidesRequestHead bytes = ((head : RequestHead) × (rest : List ℕ) × ReadsRequest bytes head rest) ⊎ NeverHasRequest bytes

-- such a head was taken off a stream, and nothing else
pub record TakesRequestHead (old new : Option (List ℕ)) (start : RequestStart) : Type 0 where
  pub head : RequestHead
  pub valid : IsRequestHead head
  pub small : IsSmallRequest the_limits head
  pub says : SaysRequest head start
  pub taken : old ≡ before (print_request head) new

-- What is read of the messages that are written.
use Rattle.std.specs.Prelude.{◌≡◌, ℕ, ◌+◌, ◌≤◌, if◌then◌else◌, List, length, Option}
use Rattle.httparse.specs.Grammar.{AllPass, is_value_byte, trim_ows}
use Rattle.as4_http.specs.Written.{asks, target}
use Rattle.as4_http.specs.declared.limits.TheConstants.{MAX_HEAD, MAX_BODY}
use Rattle.as4_http.specs.declared.message.Method.TheVariants.{Get, Post}
use Rattle.as4_http.specs.declared.message.Request.{Request}
use Rattle.as4_http.specs.declared.message.Response.{Response}

-- a field can carry the media text: it has no control byte but the tab, and no white space at its ends
pub record IsMedia (media : List ℕ) : Type 0 where
  pub bytes : AllPass is_value_byte media
  pub trimmed : trim_ows media ≡ media

-- the head of a text and the content after it are within the limits
pub record IsWithinLimits (text content : List ℕ) : Type 0 where
  pub head : length text ≤ MAX_HEAD + length content
  pub body : length content ≤ MAX_BODY

-- the request that goes to an address
abbrev pub request_to : List ℕ → Option (List ℕ) → List ℕ → Request
request_to address media body = record { method = if asks (target address) media body then Get else Post; target = target address; media = media; body = body }

abbrev pub response_with : ℕ → Option (List ℕ) → List ℕ → Response
response_with status media body = record { status = status; media = media; body = body }

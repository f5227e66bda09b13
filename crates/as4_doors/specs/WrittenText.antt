-- The text of a response that was made.
use Rattle.std.specs.Prelude.{ℕ, List, [], None, codes}
use Rattle.as4_http.specs.Written.{response_text}
use Rattle.as4_doors.specs.declared.written.Fixed.{Fixed}
use Rattle.as4_doors.specs.declared.written.Fixed.TheVariants.{Accepted, BadRequest, TooLarge, Unavailable}
use Rattle.as4_doors.specs.declared.written.Written.{Written}
use Rattle.as4_doors.specs.declared.written.Written.TheVariants as written

abbrev pub status_of : Fixed → ℕ
status_of Accepted = 202
status_of BadRequest = 400
status_of TooLarge = 413
status_of Unavailable = 503

-- without a media text and a body, and the connection closes
unfoldable pub fixed_text : Fixed → List ℕ
fixed_text fixed = response_text (status_of fixed) None (codes "close") []

abbrev pub written_text : Written → List ℕ
written_text (written.Fixed fixed) = fixed_text fixed
written_text (written.Made bytes) = bytes

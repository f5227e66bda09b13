-- The canonical package of a user message (RFC 2046, section 5.1; RFC 2387; SOAP Messages with Attachments, section 3):
-- the envelope as its root, followed by the payloads.
use Rattle.std.specs.Prelude.{◌≡◌, ◌≢◌, ℕ, zero, suc, ◌+◌, ◌/◌, ◌%◌, ◌<◌, nat_lt, if◌then◌else◌, List, [], ◌∷◌, ◌++◌, All, codes, length, ◌==◌}
use Rattle.std.specs.List.{flat_map}
use Rattle.as4_values.specs.declared.payload.Payload.{Payload}
use Rattle.byte_forms.specs.Digits.{hex_digit}

abbrev pub crlf : List ℕ
crlf = 13 ∷ 10 ∷ []

-- the last n hexadecimal digits of a number, with leading zeros
unfoldable pub hex_digits : ℕ → ℕ → List ℕ
hex_digits zero n = []
hex_digits (suc places) n = hex_digits places (n / 16) ++ hex_digit (n % 16) ∷ []

-- the boundary of number n, after two hyphens, and the Content-ID of the root: this handler's own
unfoldable pub dash_boundary : ℕ → List ℕ
dash_boundary n = codes "--as4-" ++ hex_digits 16 n

unfoldable pub root_id : ℕ → List ℕ
root_id n = codes "root-" ++ hex_digits 16 n ++ codes "@as4"

-- the media text of an envelope, in a package or bare
unfoldable pub envelope_media : List ℕ
envelope_media = codes "application/soap+xml; charset=UTF-8"

unfoldable pub package_media : ℕ → List ℕ
package_media n =
    codes "multipart/related; type=\"application/soap+xml\"; boundary=\"as4-" ++ hex_digits 16 n
    ++ codes "\"; start=\"<root-" ++ hex_digits 16 n ++ codes "@as4>\""

-- the Content-Type field, omitted if the media text is empty
unfoldable pub media_field : List ℕ → List ℕ
media_field media = if length media == 0 then [] else codes "Content-Type: " ++ media ++ crlf

-- the bytes before the content of a part
unfoldable pub part_head : List ℕ → List ℕ → List ℕ
part_head id media =
    codes "Content-ID: <" ++ id ++ codes ">" ++ crlf ++ media_field media
    ++ codes "Content-Transfer-Encoding: binary" ++ crlf ++ crlf

-- a part, with the delimiter before it
unfoldable pub part_text : ℕ → List ℕ → List ℕ → List ℕ → List ℕ
part_text n id media content =
    dash_boundary n ++ crlf ++ part_head id media ++ content ++ crlf

unfoldable pub payload_text : ℕ → Payload → List ℕ
payload_text n payload = part_text n payload.cid payload.media payload.content

unfoldable pub package_body : ℕ → List ℕ → List Payload → List ℕ
package_body n root payloads =
    part_text n (root_id n) envelope_media root ++ flat_map (payload_text n) payloads
    ++ dash_boundary n ++ codes "--" ++ crlf

-- the bytes occur somewhere in the text
abbrev pub Occurs : List ℕ → List ℕ → Type 0
Occurs bytes text = (front : List ℕ) × (back : List ℕ) × (text ≡ front ++ bytes ++ back)

-- boundary n occurs in no part, and no payload has the root's Content-ID
pub record IsFree (n : ℕ) (root : List ℕ) (payloads : List Payload) : Type 0 where
  pub in_root : Occurs (dash_boundary n) root → ⊥
  pub in_payloads : All (λ payload. Occurs (dash_boundary n) payload.content → ⊥) payloads
  pub named : All (λ payload. payload.cid ≢ root_id n) payloads

-- the number of a package's boundary: the least free one
pub record IsBoundary (n : ℕ) (root : List ℕ) (payloads : List Payload) : Type 0 where
  pub free : IsFree n root payloads
  pub least : (m : ℕ) → m < n → IsFree m root payloads → ⊥

-- The requests of clients to the local service of a handler, as their text.
use Rattle.std.specs.Prelude.{ℕ, Bool, ◌||◌, ◌==◌, if◌then◌else◌, List, [], ◌∷◌, ◌++◌, Option, None, Some, codes, decimal}
use Rattle.std.specs.List.{flat_map}
use Rattle.std.specs.Char.{is_ascii_alphanumeric}
use Rattle.percent_encoding.specs.Percent.{percent_encode_byte}
use Rattle.as4_http.specs.Written.{host, request_text}

-- a byte that stays as it is in a piece of a target (RFC 3986, section 2.3)
abbrev pub is_unreserved : ℕ → Bool
is_unreserved b = is_ascii_alphanumeric b || (b == 45) || (b == 46) || (b == 95) || (b == 126)

-- a byte, or its escape
abbrev pub escape_of : ℕ → List ℕ
escape_of b = if is_unreserved b then b ∷ [] else percent_encode_byte b

-- bytes as a piece of a target
unfoldable pub escaped : List ℕ → List ℕ
escaped bytes = flat_map escape_of bytes

abbrev pub submit_target : List ℕ → List ℕ → List ℕ
submit_target mode conversation = codes "/submit/" ++ escaped mode ++ 47 ∷ escaped conversation

abbrev pub numbered_target : List ℕ → ℕ → List ℕ
numbered_target words n = words ++ decimal n

-- the address of a target of the service at this address
unfoldable pub address_at : List ℕ → List ℕ → List ℕ
address_at address target = codes "http://" ++ host address ++ target

-- an empty media text isn't sent
abbrev pub media_sent : List ℕ → Option (List ℕ)
media_sent [] = None
media_sent (b ∷ media) = Some (b ∷ media)

-- submits a document
abbrev pub submit_request : List ℕ → List ℕ → List ℕ → List ℕ → List ℕ → List ℕ
submit_request address mode conversation media document =
    request_text (address_at address (submit_target mode conversation)) (media_sent media) document

-- asks for entry n of the inbox
abbrev pub fetch_request : List ℕ → ℕ → List ℕ
fetch_request address n = request_text (address_at address (numbered_target (codes "/inbox/") n)) None []

-- confirms entry n of the inbox
abbrev pub confirm_request : List ℕ → ℕ → List ℕ
confirm_request address n = request_text (address_at address (numbered_target (codes "/confirm/") n)) None []

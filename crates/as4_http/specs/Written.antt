-- The messages that are written (RFC 9112, sections 2 to 4), as their text.
use Rattle.std.specs.Prelude.{ℕ, Bool, ◌&&◌, ◌||◌, ◌==◌, if◌then◌else◌, is_none, List, [], ◌∷◌, ◌++◌, length, drop, nat_eq, Option, None, Some, codes, decimal}
use Rattle.std.specs.List.{before_first, position_or_len, starts_with}

-- a text and CRLF
abbrev pub line : List ℕ → List ℕ
line text = text ++ 13 ∷ 10 ∷ []

-- the line of the media text, where there is one
abbrev pub media_line : Option (List ℕ) → List ℕ
media_line None = []
media_line (Some media) = line (codes "Content-Type: " ++ media)

-- the fields after the first, the empty line, and the body
unfoldable pub fields_and_body : Option (List ℕ) → List ℕ → List ℕ → List ℕ
fields_and_body media connection body =
    media_line media ++ line (codes "Content-Length: " ++ decimal (length body)) ++ line (codes "Connection: " ++ connection) ++ line [] ++ body

-- the statuses that are written
abbrev pub is_status : ℕ → Bool
is_status status = (status == 200) || (status == 202) || (status == 400) || (status == 404) || (status == 409) || (status == 410) || (status == 413) || (status == 503)

-- those whose response without a media text and a body is a constant
abbrev pub is_fixed : ℕ → Bool
is_fixed status = (status == 202) || (status == 400) || (status == 413) || (status == 503)

abbrev pub reason : ℕ → List ℕ
reason status =
    if status == 200 then codes "OK"
    else (if status == 202 then codes "Accepted"
    else (if status == 400 then codes "Bad Request"
    else (if status == 404 then codes "Not Found"
    else (if status == 409 then codes "Conflict"
    else (if status == 410 then codes "Gone"
    else (if status == 413 then codes "Content Too Large" else codes "Service Unavailable"))))))

abbrev pub status_line : ℕ → List ℕ
status_line status = codes "HTTP/1.1 " ++ decimal status ++ line (codes " " ++ reason status)

-- a response that says of its connection that it goes on, or closes
unfoldable pub response_text : ℕ → Option (List ℕ) → List ℕ → List ℕ → List ℕ
response_text status media connection body =
    status_line status ++ fields_and_body media connection body

-- what follows `http://`
abbrev pub behind_scheme : List ℕ → List ℕ
behind_scheme address = drop 7 address

-- the host and the port, as written
abbrev pub host : List ℕ → List ℕ
host address = before_first (λ b. b == 47) (behind_scheme address)

-- the target, which is `/` where the address has none
abbrev pub slash_or : List ℕ → List ℕ
slash_or [] = 47 ∷ []
slash_or (b ∷ bytes) = b ∷ bytes

abbrev pub target : List ℕ → List ℕ
target address = slash_or (drop (position_or_len (λ b. b == 47) (behind_scheme address)) (behind_scheme address))

-- whether nothing is sent, and the target asks for an entry or a status
abbrev pub asks : List ℕ → Option (List ℕ) → List ℕ → Bool
asks target media body =
    is_none media && ((length body == 0) && (starts_with nat_eq target (codes "/inbox/") || starts_with nat_eq target (codes "/status/")))

-- GET where it asks, and else POST
abbrev pub method : List ℕ → Option (List ℕ) → List ℕ → List ℕ
method target media body = if asks target media body then codes "GET" else codes "POST"

abbrev pub request_line : List ℕ → List ℕ → List ℕ
request_line method target = method ++ codes " " ++ line (target ++ codes " HTTP/1.1")

unfoldable pub request_text : List ℕ → Option (List ℕ) → List ℕ → List ℕ
request_text address media body =
    request_line (method (target address) media body) (target address) ++ line (codes "Host: " ++ host address) ++ fields_and_body media (codes "close") body

-- A message on the wire: the media text and the body that carry it. And message files, a form of this program's own.
use Rattle.std.specs.Prelude.{◌≡◌, ℕ, List, [], ◌∷◌, ◌++◌, if◌then◌else◌, Option, Some, None, option_map, nat_eq, codes, unwrap_or, length, drop}
use Rattle.std.specs.List.{starts_with}
use Rattle.byte_forms.specs.Cuts.{◌>>=◌, strip_prefix}
use Rattle.as4_values.specs.declared.message.Message.{Message}
use Rattle.as4_values.specs.declared.message.Message.TheVariants as message
use Rattle.message_model.specs.UnitText.{user_message, signal_message, pair_text, envelope_text}
use Rattle.message_model.specs.Package.{crlf, envelope_media, package_media, package_body, IsBoundary}

-- a user message is a package with the boundary of number n, a signal or a pair is a bare envelope
abbrev pub media_of : ℕ → Message → List ℕ
media_of n (message.User header payloads) = package_media n
media_of n (message.Signal signal) = envelope_media
media_of n (message.Pair pair) = envelope_media

abbrev pub body_of : ℕ → Message → List ℕ
body_of n (message.User header payloads) = package_body n (envelope_text (user_message header)) payloads
body_of n (message.Signal signal) = envelope_text (signal_message signal)
body_of n (message.Pair pair) = envelope_text (pair_text pair)

-- n is the number of the message's boundary, or 0 for a signal or a pair, which have none
abbrev pub HasBoundary : ℕ → Message → Type 0
HasBoundary n (message.User header payloads) = IsBoundary n (envelope_text (user_message header)) payloads
HasBoundary n (message.Signal signal) = n ≡ 0
HasBoundary n (message.Pair pair) = n ≡ 0

-- the media text and the body of a message, with its boundary
pub record IsWire (message : Message) (media body : List ℕ) : Type 0 where
  pub number : ℕ
  pub boundary : HasBoundary number message
  pub media_is : media ≡ media_of number message
  pub body_is : body ≡ body_of number message

-- a message file: the media text as a field, an empty line, and the body
abbrev pub message_file : List ℕ → List ℕ → List ℕ
message_file media body = codes "Content-Type: " ++ media ++ crlf ++ crlf ++ body

-- the message file of a message
pub record IsFile (message : Message) (file : List ℕ) : Type 0 where
  pub media : List ℕ
  pub body : List ℕ
  pub wire : IsWire message media body
  pub file_is : file ≡ message_file media body

-- how a message file is read: the bytes before and after the first occurrence of these bytes
unfoldable pub cut_at : List ℕ → List ℕ → Option (List ℕ × List ℕ)
cut_at needle [] = None
cut_at needle (x ∷ xs) =
    if starts_with nat_eq (x ∷ xs) needle then Some ([], drop (length needle) (x ∷ xs))
    else option_map (λ cut. (x ∷ cut.0, cut.1)) (cut_at needle xs)

-- the media text, up to the first empty line, and the body
unfoldable pub file_at : List ℕ → Option (List ℕ × List ℕ)
file_at bytes = strip_prefix (codes "Content-Type: ") bytes >>= cut_at (crlf ++ crlf)

-- the media text and the body of a message file; both are empty if the bytes have another form
abbrev pub media_and_body : List ℕ → List ℕ × List ℕ
media_and_body bytes = unwrap_or (file_at bytes) ([], [])

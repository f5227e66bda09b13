-- The targets and the submissions of the local door.
use Rattle.std.specs.Prelude.{◌≡◌, ℕ, ◌<◌, ◌≤◌, ◌^◌, ◌==◌, List, [], ◌∷◌, Option, Some, None, map, codes, decimal, length}
use Rattle.std.specs.List.{slice_split}
use Rattle.percent_encoding.specs.Percent.{percent_decode}
use Rattle.as4_values.specs.Texts.{Spells}
use Rattle.as4_values.specs.Word.{IsWord}
use Rattle.as4_values.specs.declared.word.Word.TheVariants.{Identifier}
use Rattle.as4_values.specs.declared.payload.Load.{Load}
use Rattle.as4_http.specs.declared.message.Method.{Method}
use Rattle.as4_http.specs.declared.message.Method.TheVariants.{Get, Post}
use Rattle.as4_http.specs.declared.message.Request.{Request}
use Rattle.exchange_model.specs.declared.what.What.{What}
use Rattle.exchange_model.specs.declared.what.What.TheVariants.{Submit, Read, Confirm, Status}
use Rattle.as4_doors.specs.declared.local.Call.{Call}
use Rattle.as4_doors.specs.declared.local.Call.TheVariants as call

-- the most bytes of a mode's name and of a conversation
abbrev pub short_limit : ℕ
short_limit = 255

-- a target, cut at each `/`, and each piece percent-decoded once
unfoldable pub pieces : List ℕ → List (List ℕ)
pieces target = map percent_decode (slice_split (λ b. b == 47) target)

-- the piece is read as this text of at most 255 bytes
abbrev pub IsShortText : List ℕ → List ℕ → Type 0
IsShortText piece text = Spells piece text × (length text ≤ short_limit)

-- an empty piece is no conversation
abbrev pub IsConversation : List ℕ → Option (List ℕ) → Type 0
IsConversation piece None = piece ≡ []
IsConversation piece (Some text) = IsShortText piece text

-- the media text of a body that says none
unfoldable pub any_media : List ℕ
any_media = codes "application/octet-stream"

abbrev pub load : List ℕ → List ℕ → Load
load media body = record { media = media; content = body }

-- the body is the one load; without a media text, an empty body is none
abbrev pub loads_of : Option (List ℕ) → List ℕ → List Load
loads_of (Some media) body = load media body ∷ []
loads_of None [] = []
loads_of None (b ∷ body) = load any_media (b ∷ body) ∷ []

-- the calls of the local door: a method, the pieces that follow the first `/` of the target, and what they ask for
abbrev pub AsksBy : Method → List (List ℕ) → Option (List ℕ) → List ℕ → What → Type 0
AsksBy method names media body (Submit mode conversation loads) =
    (first : List ℕ) × (second : List ℕ) × (method ≡ Post) × (names ≡ codes "submit" ∷ first ∷ second ∷ [])
    × IsShortText first mode × IsConversation second conversation × (loads ≡ loads_of media body)
AsksBy method names media body (Read n) = (method ≡ Get) × (names ≡ codes "inbox" ∷ decimal n ∷ []) × (n < 2 ^ 64)
AsksBy method names media body (Confirm upto) = (method ≡ Post) × (names ≡ codes "confirm" ∷ decimal upto ∷ []) × (upto < 2 ^ 64)
AsksBy method names media body (Status id) = (method ≡ Get) × (names ≡ codes "status" ∷ id ∷ []) × IsWord Identifier id
AsksBy method names media body what = ⊥

-- what a request at the local door asks for; its target begins with `/`
abbrev pub AsksLocally : Request → What → Type 0
AsksLocally request what =
    (names : List (List ℕ)) × (pieces request.target ≡ [] ∷ names) × AsksBy request.method names request.media request.body what

-- some value has this property, or no value has it
abbrev pub Finds : {X : Type 0} → (X → Type 0) → Option X → Type 0
Finds holds (Some x) = holds x
Finds {X} holds None = (x : X) → ¬ (holds x)

-- the method and the first piece of a call whose target has one value
abbrev pub method_of : Call → Method
method_of call.Read = Get
method_of call.Confirm = Post
method_of call.Status = Get

abbrev pub word_of : Call → List ℕ
word_of call.Read = codes "inbox"
word_of call.Confirm = codes "confirm"
word_of call.Status = codes "status"

-- what such a call asks for, by the piece with its value
abbrev pub AsksWith : Call → List ℕ → What → Type 0
AsksWith by piece (Read n) = (by ≡ call.Read) × (piece ≡ decimal n) × (n < 2 ^ 64)
AsksWith by piece (Confirm upto) = (by ≡ call.Confirm) × (piece ≡ decimal upto) × (upto < 2 ^ 64)
AsksWith by piece (Status id) = (by ≡ call.Status) × (piece ≡ id) × IsWord Identifier id
AsksWith by piece what = ⊥

-- what a submission asks for, by the pieces of its texts
abbrev pub Submits : List ℕ → List ℕ → Option (List ℕ) → List ℕ → What → Type 0
Submits first second media body (Submit mode conversation loads) =
    IsShortText first mode × IsConversation second conversation × (loads ≡ loads_of media body)
Submits first second media body what = ⊥

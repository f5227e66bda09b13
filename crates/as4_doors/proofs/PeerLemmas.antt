-- The peer's door.
use Rattle.std.proofs.Common.{◌≡◌, ℕ, List, [], Result, Ok, Err, unwrap_or, subst}
use Rattle.as4_http.specs.declared.message.Method.TheVariants.{Post}
use Rattle.as4_http.specs.declared.message.Request.{Request}
use Rattle.as4_message.specs.Meaning.{Means}
use Rattle.exchange_model.specs.declared.what.What.{What}
use Rattle.exchange_model.specs.declared.what.What.TheVariants as what
use Rattle.as4_doors.specs.Asking.{Asks, MeansWhat}
use Rattle.as4_doors.specs.declared.door.DoorKind.TheVariants.{Peer}
use Rattle.as4_doors.specs.declared.door.DoorRefusal.{DoorRefusal}
use Rattle.as4_doors.specs.declared.door.DoorRefusal.TheVariants as refusal

-- a POST asks for what its message means
posted_means : (request : Request) (result : Result What DoorRefusal) → request.method ≡ Post
    → MeansWhat (Means (unwrap_or request.media []) request.body) result → Asks Peer request result
posted_means request (Ok (what.Submit mode conversation loads)) post means = absurd means
posted_means request (Ok what.Tick) post means = absurd means
posted_means request (Ok what.Take) post means = absurd means
posted_means request (Ok (what.Ask mode)) post means = absurd means
posted_means request (Ok (what.AskWith mode n)) post means = absurd means
posted_means request (Ok (what.Came m)) post means = (post, means)
posted_means request (Ok (what.Read n)) post means = absurd means
posted_means request (Ok (what.Confirm upto)) post means = absurd means
posted_means request (Ok (what.Status id)) post means = absurd means
posted_means request (Err refusal.Stranger) post means = absurd means
posted_means request (Err (refusal.Refused by)) post means = (post, means)
posted_means request (Err refusal.NoMemory) post means = tt

pub posted_asks : (request : Request) (media body : List ℕ) (result : Result What DoorRefusal) → request.method ≡ Post → media ≡ unwrap_or request.media []
    → body ≡ request.body → MeansWhat (Means media body) result → Asks Peer request result
posted_asks request media body result post medias bodies means =
    posted_means request result post
    (subst (λ (m : List ℕ). MeansWhat (Means m request.body) result) medias (subst (λ (b : List ℕ). MeansWhat (Means media b) result) bodies means))

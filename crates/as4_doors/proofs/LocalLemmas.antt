-- The calls of the local door.
use Rattle.std.proofs.Common.{◌≡◌, ℕ, ◌<◌, List, [], ◌∷◌, Option, Some, None, Result, Ok, Err, IfOk, refl, sym, ap, ap₂, ◌∙◌, subst, codes, decimal, length, arith}
use Rattle.as4_values.specs.declared.payload.Load.{Load}
use Rattle.as4_http.specs.declared.message.Method.{Method}
use Rattle.as4_http.specs.declared.message.Method.TheVariants.{Get, Post}
use Rattle.as4_http.specs.declared.message.Request.{Request}
use Rattle.exchange_model.specs.declared.what.What.{What}
use Rattle.exchange_model.specs.declared.what.What.TheVariants as what
use Rattle.as4_doors.specs.Targets.{pieces, IsShortText, IsConversation, AsksBy, AsksLocally, AsksWith, Finds, Submits, any_media, load, loads_of, method_of, word_of}
use Rattle.as4_doors.specs.declared.local.Call.{Call}
use Rattle.as4_doors.specs.declared.local.Call.TheVariants as call
use Rattle.as4_values.specs.declared.memory.NoMemory.{NoMemory}

inbox_confirm : codes "inbox" ≡ codes "confirm" → ⊥
inbox_confirm same = absurd cc

pub inbox_status : codes "inbox" ≡ codes "status" → ⊥
inbox_status same = absurd cc

confirm_status : codes "confirm" ≡ codes "status" → ⊥
confirm_status same = absurd cc

pub get_post : Get ≡ Post → ⊥
get_post same = absurd cc

pub one_call : (a b : Call) → method_of a ≡ method_of b → word_of a ≡ word_of b → a ≡ b
one_call call.Read call.Read methods words = refl
one_call call.Read call.Confirm methods words = absurd (inbox_confirm words)
one_call call.Read call.Status methods words = absurd (inbox_status words)
one_call call.Confirm call.Read methods words = absurd (inbox_confirm (sym words))
one_call call.Confirm call.Confirm methods words = refl
one_call call.Confirm call.Status methods words = absurd (confirm_status words)
one_call call.Status call.Read methods words = absurd (inbox_status (sym words))
one_call call.Status call.Confirm methods words = absurd (confirm_status (sym words))
one_call call.Status call.Status methods words = refl

-- a call with one value asks for what its piece says
to_row : (by : Call) (method : Method) (word piece : List ℕ) (media : Option (List ℕ)) (body : List ℕ) (asked : What)
    → method ≡ method_of by → word ≡ word_of by → AsksWith by piece asked → AsksBy method (word ∷ piece ∷ []) media body asked
to_row by method word piece media body (what.Submit mode conversation loads) methods words asks = absurd asks
to_row by method word piece media body what.Tick methods words asks = absurd asks
to_row by method word piece media body what.Take methods words asks = absurd asks
to_row by method word piece media body (what.Ask mode) methods words asks = absurd asks
to_row by method word piece media body (what.AskWith mode n) methods words asks = absurd asks
to_row by method word piece media body (what.Came m) methods words asks = absurd asks
to_row by method word piece media body (what.Read n) methods words asks =
    (methods ∙ ap method_of asks.0, ap₂ (λ (w p : List ℕ). w ∷ p ∷ []) (words ∙ ap word_of asks.0) asks.1, asks.2)
to_row by method word piece media body (what.Confirm upto) methods words asks =
    (methods ∙ ap method_of asks.0, ap₂ (λ (w p : List ℕ). w ∷ p ∷ []) (words ∙ ap word_of asks.0) asks.1, asks.2)
to_row by method word piece media body (what.Status id) methods words asks =
    (methods ∙ ap method_of asks.0, ap₂ (λ (w p : List ℕ). w ∷ p ∷ []) (words ∙ ap word_of asks.0) asks.1, asks.2)

from_row : (by : Call) (method : Method) (word piece : List ℕ) (media : Option (List ℕ)) (body : List ℕ) (asked : What)
    → method ≡ method_of by → word ≡ word_of by → AsksBy method (word ∷ piece ∷ []) media body asked → AsksWith by piece asked
from_row by method word piece media body (what.Submit mode conversation loads) methods words asks = let e = asks.3 in absurd cc
from_row by method word piece media body what.Tick methods words asks = absurd asks
from_row by method word piece media body what.Take methods words asks = absurd asks
from_row by method word piece media body (what.Ask mode) methods words asks = absurd asks
from_row by method word piece media body (what.AskWith mode n) methods words asks = absurd asks
from_row by method word piece media body (what.Came m) methods words asks = absurd asks
from_row by method word piece media body (what.Read n) methods words asks =
    let first : word ≡ word_of call.Read = cc in
    let second : piece ≡ decimal n = cc in
    (one_call by call.Read (sym methods ∙ asks.0) (sym words ∙ first), second, asks.2)
from_row by method word piece media body (what.Confirm upto) methods words asks =
    let first : word ≡ word_of call.Confirm = cc in
    let second : piece ≡ decimal upto = cc in
    (one_call by call.Confirm (sym methods ∙ asks.0) (sym words ∙ first), second, asks.2)
from_row by method word piece media body (what.Status id) methods words asks =
    let first : word ≡ word_of call.Status = cc in
    let second : piece ≡ id = cc in
    (one_call by call.Status (sym methods ∙ asks.0) (sym words ∙ first), second, asks.2)

pub by_call : (by : Call) (method : Method) (word piece : List ℕ) (media : Option (List ℕ)) (body : List ℕ) (found : Option What)
    → method ≡ method_of by → word ≡ word_of by → Finds (AsksWith by piece) found → Finds (AsksBy method (word ∷ piece ∷ []) media body) found
by_call by method word piece media body (Some asked) methods words asks = to_row by method word piece media body asked methods words asks
by_call by method word piece media body None methods words none = λ asked asks. none asked (from_row by method word piece media body asked methods words asks)

pub by_call_ok : (by : Call) (method : Method) (word piece : List ℕ) (media : Option (List ℕ)) (body : List ℕ) (found : Result (Option What) NoMemory)
    → method ≡ method_of by → word ≡ word_of by → IfOk found (Finds (AsksWith by piece)) → IfOk found (Finds (AsksBy method (word ∷ piece ∷ []) media body))
by_call_ok by method word piece media body (Ok found) methods words asks = by_call by method word piece media body found methods words asks
by_call_ok by method word piece media body (Err e) methods words asks = tt

-- no call has this method and this word
pub by_none : (method : Method) (word piece : List ℕ) (media : Option (List ℕ)) (body : List ℕ) → ((by : Call) → ¬ ((method ≡ method_of by) × (word ≡ word_of by)))
    → (asked : What) → ¬ (AsksBy method (word ∷ piece ∷ []) media body asked)
by_none method word piece media body none (what.Submit mode conversation loads) asks = let e = asks.3 in absurd cc
by_none method word piece media body none what.Tick asks = absurd asks
by_none method word piece media body none what.Take asks = absurd asks
by_none method word piece media body none (what.Ask mode) asks = absurd asks
by_none method word piece media body none (what.AskWith mode n) asks = absurd asks
by_none method word piece media body none (what.Came m) asks = absurd asks
by_none method word piece media body none (what.Read n) asks = let first : word ≡ word_of call.Read = let e = asks.1 in cc in none call.Read (asks.0, first)
by_none method word piece media body none (what.Confirm upto) asks = let first : word ≡ word_of call.Confirm = let e = asks.1 in cc in none call.Confirm (asks.0, first)
by_none method word piece media body none (what.Status id) asks = let first : word ≡ word_of call.Status = let e = asks.1 in cc in none call.Status (asks.0, first)

-- submissions
to_submission : (method : Method) (word first second : List ℕ) (media : Option (List ℕ)) (body : List ℕ) (asked : What)
    → method ≡ Post → word ≡ codes "submit" → Submits first second media body asked → AsksBy method (word ∷ first ∷ second ∷ []) media body asked
to_submission method word first second media body (what.Submit mode conversation loads) methods words asks =
    (first, second, methods, ap (λ (w : List ℕ). w ∷ first ∷ second ∷ []) words, asks.0, asks.1, asks.2)
to_submission method word first second media body what.Tick methods words asks = absurd asks
to_submission method word first second media body what.Take methods words asks = absurd asks
to_submission method word first second media body (what.Ask mode) methods words asks = absurd asks
to_submission method word first second media body (what.AskWith mode n) methods words asks = absurd asks
to_submission method word first second media body (what.Came m) methods words asks = absurd asks
to_submission method word first second media body (what.Read n) methods words asks = absurd asks
to_submission method word first second media body (what.Confirm upto) methods words asks = absurd asks
to_submission method word first second media body (what.Status id) methods words asks = absurd asks

from_submission : (method : Method) (word first second : List ℕ) (media : Option (List ℕ)) (body : List ℕ) (asked : What)
    → AsksBy method (word ∷ first ∷ second ∷ []) media body asked → (method ≡ Post) × (word ≡ codes "submit") × Submits first second media body asked
from_submission method word first second media body (what.Submit mode conversation loads) asks =
    let e = asks.3 in
    let words : word ≡ codes "submit" = cc in
    let ones : asks.0 ≡ first = cc in
    let others : asks.1 ≡ second = cc in
    (asks.2, words, (subst (λ (piece : List ℕ). IsShortText piece mode) ones asks.4, subst (λ (piece : List ℕ). IsConversation piece conversation) others asks.5, asks.6))
from_submission method word first second media body what.Tick asks = absurd asks
from_submission method word first second media body what.Take asks = absurd asks
from_submission method word first second media body (what.Ask mode) asks = absurd asks
from_submission method word first second media body (what.AskWith mode n) asks = absurd asks
from_submission method word first second media body (what.Came m) asks = absurd asks
from_submission method word first second media body (what.Read n) asks = let e = asks.1 in absurd cc
from_submission method word first second media body (what.Confirm upto) asks = let e = asks.1 in absurd cc
from_submission method word first second media body (what.Status id) asks = let e = asks.1 in absurd cc

pub by_texts : (method : Method) (word first second : List ℕ) (media : Option (List ℕ)) (body : List ℕ) (found : Option What)
    → method ≡ Post → word ≡ codes "submit" → Finds (Submits first second media body) found → Finds (AsksBy method (word ∷ first ∷ second ∷ []) media body) found
by_texts method word first second media body (Some asked) methods words asks = to_submission method word first second media body asked methods words asks
by_texts method word first second media body None methods words none = λ asked asks. none asked (from_submission method word first second media body asked asks).2

pub by_texts_ok : (method : Method) (word first second : List ℕ) (media : Option (List ℕ)) (body : List ℕ) (found : Result (Option What) NoMemory)
    → method ≡ Post → word ≡ codes "submit" → IfOk found (Finds (Submits first second media body)) → IfOk found (Finds (AsksBy method (word ∷ first ∷ second ∷ []) media body))
by_texts_ok method word first second media body (Ok found) methods words asks = by_texts method word first second media body found methods words asks
by_texts_ok method word first second media body (Err e) methods words asks = tt

pub no_texts : (first second : List ℕ) (media : Option (List ℕ)) (body : List ℕ) → ((mode : List ℕ) (conversation : Option (List ℕ)) → ¬ (IsShortText first mode × IsConversation second conversation))
    → (asked : What) → ¬ (Submits first second media body asked)
no_texts first second media body none (what.Submit mode conversation loads) asks = none mode conversation (asks.0, asks.1)
no_texts first second media body none what.Tick asks = absurd asks
no_texts first second media body none what.Take asks = absurd asks
no_texts first second media body none (what.Ask mode) asks = absurd asks
no_texts first second media body none (what.AskWith mode n) asks = absurd asks
no_texts first second media body none (what.Came m) asks = absurd asks
no_texts first second media body none (what.Read n) asks = absurd asks
no_texts first second media body none (what.Confirm upto) asks = absurd asks
no_texts first second media body none (what.Status id) asks = absurd asks

-- the loads of a body that is not empty
pub some_load : (body : List ℕ) (r : Result (List Load) NoMemory) → 0 < length body
    → IfOk r (λ l. l ≡ load any_media body ∷ []) → IfOk r (λ l. l ≡ loads_of None body)
some_load [] r some made = absurd (omega (arith, some))
some_load (b ∷ body) r some made = made

pub none_found : {X : Type 0} (P : X → Type 0) (o : Option X) → o ≡ None → Finds P o → (x : X) → ¬ (P x)
none_found P None same found = found
none_found P (Some y) same found = absurd cc

-- by the pieces of the target
pub by_pieces : (request : Request) (list : List (List ℕ)) (r : Result (Option What) NoMemory) → list ≡ pieces request.target
    → IfOk r (Finds (λ asked. (names : List (List ℕ)) × (list ≡ [] ∷ names) × AsksBy request.method names request.media request.body asked))
    → IfOk r (Finds (AsksLocally request))
by_pieces request list r same found =
    subst (λ (l : List (List ℕ)). IfOk r (Finds (λ asked. (names : List (List ℕ)) × (l ≡ [] ∷ names) × AsksBy request.method names request.media request.body asked))) same found

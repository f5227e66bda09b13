-- A request asks for one thing at most.
use Rattle.std.proofs.Common.{◌≡◌, ℕ, ◌+◌, List, [], ◌∷◌, ◌++◌, Option, Some, None, Ok, map, refl, sym, ap, ap₂, ◌∙◌, subst, codes, decimal, length, length-append, arith}
use Rattle.std.proofs.lemmas.Fmt.{decimal_injective}
use Rattle.as4_values.proofs.TextLemmas.{one_text_of}
use Rattle.as4_values.specs.Texts.{Spells}
use Rattle.as4_values.specs.declared.payload.Load.{Load}
use Rattle.as4_values.specs.declared.payload.Payload.{Payload}
use Rattle.as4_values.specs.declared.message.Message.{Message}
use Rattle.as4_values.specs.declared.message.Message.TheVariants as message
use Rattle.as4_effects.proofs.PartLemmas.{payload_told}
use Rattle.as4_http.specs.declared.message.Method.{Method}
use Rattle.as4_http.specs.declared.message.Request.{Request}
use Rattle.as4_message.proofs.MeaningLemmas.{one_meaning_of}
use Rattle.as4_message.specs.Attached.{AttachedValue}
use Rattle.as4_message.specs.Meaning.{ReceivedValue, user, signal, pair, IsMessage, payload_value}
use Rattle.as4_message.specs.declared.received.Refusal.{Refusal}
use Rattle.exchange_model.specs.declared.what.What.{What}
use Rattle.exchange_model.specs.declared.what.What.TheVariants as what
use Rattle.as4_doors.specs.Asking.{AsksFor, IsRefusedBy, IsStranger, PostMeans}
use Rattle.as4_doors.specs.Targets.{IsShortText, IsConversation, AsksBy, AsksLocally}
use Rattle.as4_doors.specs.declared.door.DoorKind.{DoorKind}
use Rattle.as4_doors.specs.declared.door.DoorKind.TheVariants.{Peer, Local}
use Rattle.as4_doors.proofs.LocalLemmas.{get_post, inbox_status}

-- ---- the local door

no_short : (text : List ℕ) → IsShortText [] text → ⊥
no_short text is =
    let core = is.0.1 in
    let front = core.1.0 in
    let back = core.1.1 in
    let counted : 0 ≡ length (front ++ text ++ back) = ap length core.1.5 in
    let sums : length (front ++ text ++ back) ≡ length front + length text + length back = length-append (front ++ text) back ∙ ap (λ (n : ℕ). n + length back) (length-append front text) in
    let some = is.0.0.trimmed.some in
    absurd (omega (arith, counted, sums, some))

one_conversation : (piece : List ℕ) (a b : Option (List ℕ)) → IsConversation piece a → IsConversation piece b → a ≡ b
one_conversation piece None None first second = refl
one_conversation piece (Some a) (Some b) first second = ap Some (one_text_of piece a b first.0 second.0)
one_conversation piece None (Some b) first second = absurd (no_short b (subst (λ (p : List ℕ). IsShortText p b) first second))
one_conversation piece (Some a) None first second = absurd (no_short a (subst (λ (p : List ℕ). IsShortText p a) second first))

one_row : (method : Method) (names : List (List ℕ)) (media : Option (List ℕ)) (body : List ℕ) (one other : What)
    → AsksBy method names media body one → AsksBy method names media body other → one ≡ other
one_row method names media body (what.Submit mode1 conversation1 loads1) (what.Submit mode2 conversation2 loads2) first second =
    let e = sym first.3 ∙ second.3 in
    let firsts : second.0 ≡ first.0 = cc in
    let seconds : second.1 ≡ first.1 = cc in
    let modes : mode1 ≡ mode2 = one_text_of first.0 mode1 mode2 first.4.0 (subst (λ (piece : List ℕ). Spells piece mode2) firsts second.4.0) in
    let conversations : conversation1 ≡ conversation2 = one_conversation first.1 conversation1 conversation2 first.5 (subst (λ (piece : List ℕ). IsConversation piece conversation2) seconds second.5) in
    ap (λ (m : List ℕ). what.Submit m conversation1 loads1) modes
    ∙ ap₂ (λ (c : Option (List ℕ)) (l : List Load). what.Submit mode2 c l) conversations (first.6 ∙ sym second.6)
one_row method names media body (what.Submit mode1 conversation1 loads1) what.Tick first second = absurd second
one_row method names media body (what.Submit mode1 conversation1 loads1) what.Take first second = absurd second
one_row method names media body (what.Submit mode1 conversation1 loads1) (what.Ask mode2) first second = absurd second
one_row method names media body (what.Submit mode1 conversation1 loads1) (what.AskWith mode2 n2) first second = absurd second
one_row method names media body (what.Submit mode1 conversation1 loads1) (what.Came m2) first second = absurd second
one_row method names media body (what.Submit mode1 conversation1 loads1) (what.Read n2) first second = absurd (get_post (sym second.0 ∙ first.2))
one_row method names media body (what.Submit mode1 conversation1 loads1) (what.Confirm upto2) first second = let e = sym first.3 ∙ second.1 in absurd cc
one_row method names media body (what.Submit mode1 conversation1 loads1) (what.Status id2) first second = absurd (get_post (sym second.0 ∙ first.2))
one_row method names media body what.Tick other first second = absurd first
one_row method names media body what.Take other first second = absurd first
one_row method names media body (what.Ask mode1) other first second = absurd first
one_row method names media body (what.AskWith mode1 n1) other first second = absurd first
one_row method names media body (what.Came m1) other first second = absurd first
one_row method names media body (what.Read n1) (what.Submit mode2 conversation2 loads2) first second = absurd (get_post (sym first.0 ∙ second.2))
one_row method names media body (what.Read n1) what.Tick first second = absurd second
one_row method names media body (what.Read n1) what.Take first second = absurd second
one_row method names media body (what.Read n1) (what.Ask mode2) first second = absurd second
one_row method names media body (what.Read n1) (what.AskWith mode2 n2) first second = absurd second
one_row method names media body (what.Read n1) (what.Came m2) first second = absurd second
one_row method names media body (what.Read n1) (what.Read n2) first second =
    let e = sym first.1 ∙ second.1 in let digits : decimal n1 ≡ decimal n2 = cc in ap what.Read (decimal_injective n1 n2 first.2 second.2 digits)
one_row method names media body (what.Read n1) (what.Confirm upto2) first second = absurd (get_post (sym first.0 ∙ second.0))
one_row method names media body (what.Read n1) (what.Status id2) first second =
    let e = sym first.1 ∙ second.1 in let w : codes "inbox" ≡ codes "status" = cc in absurd (inbox_status w)
one_row method names media body (what.Confirm upto1) (what.Submit mode2 conversation2 loads2) first second = let e = sym first.1 ∙ second.3 in absurd cc
one_row method names media body (what.Confirm upto1) what.Tick first second = absurd second
one_row method names media body (what.Confirm upto1) what.Take first second = absurd second
one_row method names media body (what.Confirm upto1) (what.Ask mode2) first second = absurd second
one_row method names media body (what.Confirm upto1) (what.AskWith mode2 n2) first second = absurd second
one_row method names media body (what.Confirm upto1) (what.Came m2) first second = absurd second
one_row method names media body (what.Confirm upto1) (what.Read n2) first second = absurd (get_post (sym second.0 ∙ first.0))
one_row method names media body (what.Confirm upto1) (what.Confirm upto2) first second =
    let e = sym first.1 ∙ second.1 in let digits : decimal upto1 ≡ decimal upto2 = cc in ap what.Confirm (decimal_injective upto1 upto2 first.2 second.2 digits)
one_row method names media body (what.Confirm upto1) (what.Status id2) first second = absurd (get_post (sym second.0 ∙ first.0))
one_row method names media body (what.Status id1) (what.Submit mode2 conversation2 loads2) first second = absurd (get_post (sym first.0 ∙ second.2))
one_row method names media body (what.Status id1) what.Tick first second = absurd second
one_row method names media body (what.Status id1) what.Take first second = absurd second
one_row method names media body (what.Status id1) (what.Ask mode2) first second = absurd second
one_row method names media body (what.Status id1) (what.AskWith mode2 n2) first second = absurd second
one_row method names media body (what.Status id1) (what.Came m2) first second = absurd second
one_row method names media body (what.Status id1) (what.Read n2) first second =
    let e = sym first.1 ∙ second.1 in let w : codes "status" ≡ codes "inbox" = cc in absurd (inbox_status (sym w))
one_row method names media body (what.Status id1) (what.Confirm upto2) first second = absurd (get_post (sym first.0 ∙ second.0))
one_row method names media body (what.Status id1) (what.Status id2) first second = let e = sym first.1 ∙ second.1 in let ids : id1 ≡ id2 = cc in ap what.Status ids

one_local : (request : Request) (one other : What) → AsksLocally request one → AsksLocally request other → one ≡ other
one_local request one other first second =
    let e = sym first.1 ∙ second.1 in
    let names : second.0 ≡ first.0 = cc in
    one_row request.method first.0 request.media request.body one other first.2 (subst (λ (n : List (List ℕ)). AsksBy request.method n request.media request.body other) names second.2)

-- ---- the peer's door

same_payloads : (payloads others : List Payload) → map payload_value payloads ≡ map payload_value others → payloads ≡ others
same_payloads [] [] same = refl
same_payloads [] (other ∷ others) same = absurd cc
same_payloads (payload ∷ payloads) [] same = absurd cc
same_payloads (payload ∷ payloads) (other ∷ others) same =
    let first : payload_value payload ≡ payload_value other = cc in
    let rest : map payload_value payloads ≡ map payload_value others = cc in
    ap₂ ◌∷◌ (payload_told payload other (ap (λ (value : AttachedValue). ((value.cid, value.media), value.content)) first)) (same_payloads payloads others rest)

one_message : (received : ReceivedValue) (m other : Message) → IsMessage received m → IsMessage received other → m ≡ other
one_message (user header parts) m other first second =
    first.2 ∙ (ap (message.User header) (same_payloads first.0 second.0 (sym first.1 ∙ second.1)) ∙ sym second.2)
one_message (signal s) m other first second = first ∙ sym second
one_message (pair p) m other first second = first ∙ sym second

one_came : (request : Request) (m other : Message) → PostMeans request (Ok m) → PostMeans request (Ok other) → m ≡ other
one_came request m other first second =
    let e = one_meaning_of _ _ _ _ first.1.1 second.1.1 in
    let same : second.1.0 ≡ first.1.0 = cc in
    one_message first.1.0 m other first.1.2 (subst (λ (r : ReceivedValue). IsMessage r other) same second.1.2)

pub one_thing : (door : DoorKind) (request : Request) (one other : What) → AsksFor door request one → AsksFor door request other → one ≡ other
one_thing Local request one other first second = one_local request one other first second
one_thing Peer request (what.Submit mode1 conversation1 loads1) other first second = absurd first
one_thing Peer request what.Tick other first second = absurd first
one_thing Peer request what.Take other first second = absurd first
one_thing Peer request (what.Ask mode1) other first second = absurd first
one_thing Peer request (what.AskWith mode1 n1) other first second = absurd first
one_thing Peer request (what.Came m1) (what.Submit mode2 conversation2 loads2) first second = absurd second
one_thing Peer request (what.Came m1) what.Tick first second = absurd second
one_thing Peer request (what.Came m1) what.Take first second = absurd second
one_thing Peer request (what.Came m1) (what.Ask mode2) first second = absurd second
one_thing Peer request (what.Came m1) (what.AskWith mode2 n2) first second = absurd second
one_thing Peer request (what.Came m1) (what.Came m2) first second = ap what.Came (one_came request m1 m2 first second)
one_thing Peer request (what.Came m1) (what.Read n2) first second = absurd second
one_thing Peer request (what.Came m1) (what.Confirm upto2) first second = absurd second
one_thing Peer request (what.Came m1) (what.Status id2) first second = absurd second
one_thing Peer request (what.Read n1) other first second = absurd first
one_thing Peer request (what.Confirm upto1) other first second = absurd first
one_thing Peer request (what.Status id1) other first second = absurd first

pub stranger_asks_nothing : (door : DoorKind) (request : Request) (asked : What) → IsStranger door request → ¬ (AsksFor door request asked)
stranger_asks_nothing Local request asked is asks = is asked asks
stranger_asks_nothing Peer request (what.Submit mode conversation loads) is asks = asks
stranger_asks_nothing Peer request what.Tick is asks = asks
stranger_asks_nothing Peer request what.Take is asks = asks
stranger_asks_nothing Peer request (what.Ask mode) is asks = asks
stranger_asks_nothing Peer request (what.AskWith mode n) is asks = asks
stranger_asks_nothing Peer request (what.Came m) is asks = get_post (sym is ∙ asks.0)
stranger_asks_nothing Peer request (what.Read n) is asks = asks
stranger_asks_nothing Peer request (what.Confirm upto) is asks = asks
stranger_asks_nothing Peer request (what.Status id) is asks = asks

pub stranger_is_not_refused : (door : DoorKind) (request : Request) (by : Refusal) → IsStranger door request → ¬ (IsRefusedBy door request by)
stranger_is_not_refused Local request by is refused = refused
stranger_is_not_refused Peer request by is refused = get_post (sym is ∙ refused.0)

pub refused_asks_nothing : (door : DoorKind) (request : Request) (by : Refusal) (asked : What) → IsRefusedBy door request by → ¬ (AsksFor door request asked)
refused_asks_nothing Local request by asked refused asks = refused
refused_asks_nothing Peer request by (what.Submit mode conversation loads) refused asks = asks
refused_asks_nothing Peer request by what.Tick refused asks = asks
refused_asks_nothing Peer request by what.Take refused asks = asks
refused_asks_nothing Peer request by (what.Ask mode) refused asks = asks
refused_asks_nothing Peer request by (what.AskWith mode n) refused asks = asks
refused_asks_nothing Peer request by (what.Came m) refused asks = let e = one_meaning_of _ _ _ _ asks.1.1 refused.1 in absurd cc
refused_asks_nothing Peer request by (what.Read n) refused asks = asks
refused_asks_nothing Peer request by (what.Confirm upto) refused asks = asks
refused_asks_nothing Peer request by (what.Status id) refused asks = asks

pub one_refusal_of : (door : DoorKind) (request : Request) (one other : Refusal) → IsRefusedBy door request one → IsRefusedBy door request other → one ≡ other
one_refusal_of Local request one other first second = absurd first
one_refusal_of Peer request one other first second = let e = one_meaning_of _ _ _ _ first.1 second.1 in cc

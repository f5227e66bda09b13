-- The first request of a connection: if it asks for something, it makes a call.
use Rattle.std.proofs.Common.{◌≡◌, ◌⊎◌, ◌+◌, ◌≤◌, ◌&&◌, ◌==◌, ℕ, zero, suc, Bool, true, false, not, List, [], ◌∷◌, ◌++◌, Option, Some, None, is_some, length, inl, inr, refl, sym, ap, subst, ◌∙◌, append_assoc, length-append, arith}
use mathlib.Core.List.{IsPrefix}
use Rattle.as4_disk.specs.declared.disk.Disk.{Ghosts as DiskMeaning}
use Rattle.as4_doors.specs.Asking.{AsksFor, IsRefusedBy, IsStranger}
use Rattle.as4_doors.specs.declared.door.DoorKind.{DoorKind}
use Rattle.as4_flow.specs.Flow.{Rose, Streams, Told, before, between}
use Rattle.as4_flow.specs.declared.clock.Clock.{Ghosts as ClockMeaning}
use Rattle.as4_flow.specs.declared.nonces.Nonces.{Ghosts as NoncesMeaning}
use Rattle.as4_http.specs.Limits.{the_limits}
use Rattle.as4_http.specs.Refused.{Dooms}
use Rattle.as4_http.specs.Requests.{BeginsKept, BeginsRequest, HasNoRequest, IsNoRequest}
use Rattle.as4_http.specs.declared.message.Request.{Request}
use Rattle.as4_http.specs.declared.refusal.HttpRefusal.{HttpRefusal}
use Rattle.as4_http.specs.declared.refusal.HttpRefusal.TheVariants as http
use Rattle.as4_message.specs.declared.received.Refusal.{Refusal}
use Rattle.exchange_model.specs.declared.event.Event.{Event}
use Rattle.exchange_model.specs.declared.what.What.{What}
use Rattle.httparse.specs.Grammar.{RequestHead, print_request}
use Rattle.office.specs.declared.call.Call.{Call}
use Rattle.office.specs.declared.call.Call.TheVariants.{Done, Folded, Stop}
use Rattle.pass_book.specs.States.{PassState}
use Rattle.sessions.specs.Sessions.{IsWhyUnread, Replies, TurnsAway, Writes, ended_unread}
use Rattle.sessions.specs.Shared.{AnswersUnder}
use Rattle.sessions.specs.declared.ended.Ended.{Ended}
use Rattle.sessions.specs.declared.ended.Ended.TheVariants as ended
use Rattle.sessions.specs.declared.naming.Opening.{Ghosts as OpeningMeaning}
use Rattle.workers.specs.Bounds.{HasEventOf}
use Rattle.workers.specs.Endings.{after_session}
use Rattle.workers.specs.declared.turn.Turn.TheVariants as turn
use Rattle.as4_keep.specs.Connections.{Breaks, Keeps, Moment, ReadsBroken, ReadsNoMore, ServesRequest, ServesRequests, ahead}
use Rattle.as4_keep.specs.InOrder.{Answer, AnswersBy, AreAmong, call_of}
use Rattle.as4_keep.specs.KeptGuests.{after_connection}
use Rattle.as4_keep.specs.declared.keep_end.KeepEnd.{KeepEnd}
use Rattle.as4_keep.specs.declared.keep_end.KeepEnd.TheVariants.{Broken, Closed}
use Rattle.as4_keep.proofs.GrowthLemmas.{IsFull, MakesOne, Moves, answered, break_moved, one_moved}
use Rattle.as4_keep.proofs.OrderLemmas.{answers_one}

-- an entry stays when the calls go on
pub entered_later : (kind : DoorKind) (request : Request) (calls later : List Call) → IsPrefix calls later → HasEventOf kind request calls → HasEventOf kind request later
entered_later kind request calls later more has = record {
  before = has.before;
  call = has.call;
  after = has.after ++ more.0;
  entered = sym more.1 ∙ ap (λ (l : List Call). l ++ more.0) has.entered ∙ append_assoc has.before (has.call ∷ has.after) more.0;
  event = has.event;
  is = has.is;
  asked = has.asked;
}

-- the request has made a call
pub record Entered (kind : DoorKind) (request : Request) (old new : PassState Call) : Type 0 where
  pub share : old.share + 1 ≤ new.share
  pub event : HasEventOf kind request new.list

entered_then : (kind : DoorKind) (request : Request) (n : ℕ) (old middle new : PassState Call) → Moves n middle new → Entered kind request old middle → Entered kind request old new
entered_then kind request n old middle new moves entered = record {
  share = omega (arith, entered.share, moves.share);
  event = entered_later kind request middle.list new.list moves.list entered.event;
}

-- bytes that were read, and those that are left, are the whole stream
whole_stream : (stream read : List ℕ) (rest : Option (List ℕ)) → Some stream ≡ before read rest → (left : List ℕ) × (rest ≡ Some left) × (stream ≡ read ++ left)
whole_stream stream read None same = absurd cc
whole_stream stream read (Some left) same = (left, refl, cc)

-- where bytes are doomed, the stream that they begin has no request
doomed_stream : (P : List ℕ → Type 0) (stream : List ℕ) (rest : Option (List ℕ)) → Dooms P (Some stream) rest → P stream
doomed_stream P stream rest dooms =
    let whole = whole_stream stream dooms.read rest dooms.taken in
    subst P (sym whole.2) (dooms.doomed whole.0)

-- the stream begins with the request that was read
begun : (stream : List ℕ) (left : Option (List ℕ)) (request : Request) (allows : Bool) → is_some left ≡ true
    → Told left (BeginsKept stream request allows) → (later : List ℕ) × BeginsRequest stream request later
begun stream None request allows some told = absurd cc
begun stream (Some left) request allows some told = (left, (allows, told left refl))

-- no request is nothing
no_empty_head : (h : RequestHead) (rest : List ℕ) → [] ≡ print_request h ++ rest → ⊥
unfolding print_request
no_empty_head h rest same = grind (arith, ap length same, length-append)

no_empty : (stream : List ℕ) (request : Request) (rest : List ℕ) → BeginsRequest stream request rest → stream ≡ [] → ⊥
no_empty stream request rest (kept, begins) none = no_empty_head begins.head begins.behind (sym none ∙ begins.reads.1)

-- how a turn goes on after a connection that memory broke
memory_starves : (served : ℕ) (end : Ended) → end ≡ ended.NoMemory → after_connection (Broken served end) ≡ turn.Starved
memory_starves served end is = ap after_session is

not_rose : (faults later : ℕ) → faults ≡ 0 → later ≡ 0 → Rose faults later → ⊥
not_rose faults later none quiet rose = absurd (omega (arith, none, quiet, rose))

-- a request that asks for something isn't turned away, but for memory
not_turned_away : (strangers : (door : DoorKind) (request : Request) (what : What) → IsStranger door request → ¬ (AsksFor door request what))
    → (refused : (door : DoorKind) (request : Request) (refusal : Refusal) (what : What) → IsRefusedBy door request refusal → ¬ (AsksFor door request what))
    → (door : DoorKind) (request : Request) (kept : Bool) (moment nonce : ℕ) (what : What) (would : Ended) (bytes : List ℕ)
    → TurnsAway door request kept moment nonce would bytes → AsksFor door request what → would ≡ ended.NoMemory
not_turned_away strangers refused door request kept moment nonce what ended.Bad bytes turned asks = absurd (strangers door request what turned.0 asks)
not_turned_away strangers refused door request kept moment nonce what (ended.Refused by) bytes turned asks = absurd (refused door request by what turned.0 asks)
not_turned_away strangers refused door request kept moment nonce what ended.NoMemory bytes turned asks = refl
not_turned_away strangers refused door request kept moment nonce what ended.Answered bytes turned asks = absurd turned
not_turned_away strangers refused door request kept moment nonce what ended.Cut bytes turned asks = absurd turned
not_turned_away strangers refused door request kept moment nonce what ended.TooLong bytes turned asks = absurd turned
not_turned_away strangers refused door request kept moment nonce what ended.ReadFault bytes turned asks = absurd turned
not_turned_away strangers refused door request kept moment nonce what ended.WriteFault bytes turned asks = absurd turned
not_turned_away strangers refused door request kept moment nonce what (ended.DiskFault a b) bytes turned asks = absurd turned
not_turned_away strangers refused door request kept moment nonce what (ended.Stopped a b) bytes turned asks = absurd turned
not_turned_away strangers refused door request kept moment nonce what (ended.Full a b) bytes turned asks = absurd turned
not_turned_away strangers refused door request kept moment nonce what ended.Worn bytes turned asks = absurd turned

-- a stream that begins with a request is read, but for memory and faults
not_unread : (streams : Streams) (stream rest : List ℕ) (request : Request) (refusal : HttpRefusal)
    → streams.left ≡ Some stream → BeginsRequest stream request rest → IsWhyUnread refusal streams
    → (ended_unread refusal ≡ ended.NoMemory) ⊎ Rose streams.read_faults streams.later_read_faults
not_unread streams stream rest request http.Cut told begins why = absurd (why.0 stream told request rest begins)
not_unread streams stream rest request http.Bad told begins why =
    absurd (doomed_stream IsNoRequest stream streams.rest (subst (λ (t : Option (List ℕ)). Dooms IsNoRequest t streams.rest) told why.0) the_limits request rest begins)
not_unread streams stream rest request http.TooLong told begins why =
    absurd (doomed_stream HasNoRequest stream streams.rest (subst (λ (t : Option (List ℕ)). Dooms HasNoRequest t streams.rest) told why.0) request rest begins)
not_unread streams stream rest request http.ReadFault told begins why = inr why
not_unread streams stream rest request http.NoMemory told begins why = inl refl

module _ {D J C N : Type 0} (M : DiskMeaning D) (O : OpeningMeaning J) (T : ClockMeaning C) (R : NoncesMeaning N)
    (one : (stream : List ℕ) (a b : Request) (r q : List ℕ) → BeginsRequest stream a r → BeginsRequest stream b q → a ≡ b)
    (strangers : (door : DoorKind) (request : Request) (what : What) → IsStranger door request → ¬ (AsksFor door request what))
    (refused : (door : DoorKind) (request : Request) (refusal : Refusal) (what : What) → IsRefusedBy door request refusal → ¬ (AsksFor door request what))
    (kind : DoorKind) (stream rest : List ℕ) (request : Request) (what : What) (begins : BeginsRequest stream request rest) (asks : AsksFor kind request what) where
  -- the call of a request that was answered in full
  call_entered : (call : Option Call) (a : Answer) (old new : PassState Call) (calls : List Call) → AnswersBy call kind a → a.request ≡ request
      → new.list ≡ old.list ++ calls → AreAmong (call_of call) calls → new.share ≡ old.share + length (call_of call) → Entered kind request old new
  call_entered (Some (Done event reply)) a old new calls answers is list among share = record {
    share = omega (arith, share);
    event = record {
      before = old.list ++ among.0;
      call = Done event reply;
      after = among.1;
      entered = list ∙ ap (λ (l : List Call). old.list ++ l) among.2 ∙ sym (append_assoc old.list among.0 (Done event reply ∷ among.1));
      event = event;
      is = refl;
      asked = subst (λ (r : Request). AsksFor kind r event.what) is answers.0.asked;
    };
  }
  call_entered (Some (Folded size)) a old new calls answers is list among share = absurd answers
  call_entered (Some (Stop event counts)) a old new calls answers is list among share = absurd answers
  call_entered None a old new calls answers is list among share =
      absurd (refused kind request answers.0 what (subst (λ (r : Request). IsRefusedBy kind r answers.0) is answers.1) asks)

  -- the first request was answered in full
  served_first : (is_last : Bool) (old new : Moment C N) (kept : Bool) → ServesRequest M O T R kind is_last old new kept → old.flow.left ≡ Some stream
      → Entered kind request old.caller.pass new.caller.pass
  served_first is_last old new kept serves told =
      let first = begun stream new.flow.left serves.request serves.allows (serves.tells ∙ ap is_some told) (serves.begins stream told) in
      let same : serves.request ≡ request = one stream serves.request request first.0 rest first.1 begins in
      let a = answers_one M O T R kind kept serves.request serves.responds.moment serves.responds.nonce serves.response old.caller.pass new.caller.pass serves.end
      serves.responds.replies serves.full in
      call_entered a.call _ old.caller.pass new.caller.pass a.calls a.answered.0 same a.list a.made a.share

  -- some requests were answered in full
  served_some : (limit n : ℕ) (old new : Moment C N) → ServesRequests M O T R kind limit (suc n) old new → old.flow.left ≡ Some stream
      → Entered kind request old.caller.pass new.caller.pass
  served_some limit zero old new (middle, same, last) told =
      subst (λ (at : Moment C N). Entered kind request at.caller.pass new.caller.pass) same
      (served_first _ middle new true last (ap (λ (at : Moment C N). at.flow.left) same ∙ told))
  served_some limit (suc n) old new (middle, first, last) told =
      let moved = one_moved M O T R kind _ middle new true last in
      entered_then kind request moved.count old.caller.pass middle.caller.pass new.caller.pass moved.moves (served_some limit n old middle first told)

  -- what becomes of the first request
  Asked : PassState Call → PassState Call → Type 0 → Type 0
  Asked old new Starves = Entered kind request old new ⊎ IsFull new ⊎ Starves

  made_one : (event : Event) (old new : PassState Call) (E : Type 0) → AsksFor kind request event.what → MakesOne event E old new → Entered kind request old new ⊎ IsFull new ⊎ E
  made_one event old new E asked made = elim made.cause as (λ _. Entered kind request old new ⊎ IsFull new ⊎ E) [
    | inl some ↦ inl (record {
      share = omega (arith, made.moves.share, some.0);
      event = record { before = some.1.before; call = some.1.call; after = []; entered = some.1.list; event = event; is = some.1.is; asked = asked };
    })
    | inr without ↦ inr without
  ]

  -- the first request broke the connection
  replied_first : (kept : Bool) (old new : PassState Call) (moment nonce : ℕ) (would : Ended) (bytes : List ℕ)
      → Replies (AnswersUnder M O old new) (new ≡ old) kind request kept moment nonce would bytes
      → Entered kind request old new ⊎ IsFull new ⊎ (would ≡ ended.NoMemory)
  replied_first kept old new moment nonce would bytes (inl (event, is, answers)) =
      made_one event old new (would ≡ ended.NoMemory) is.asked (answered M O T R kind kept event old new would bytes answers)
  replied_first kept old new moment nonce would bytes (inr (turned, same)) =
      inr (inr (not_turned_away strangers refused kind request kept moment nonce what would bytes turned asks))

  caused_first : (is_last : Bool) (old new : Moment C N) (would : Ended) (bytes : List ℕ)
      → ReadsBroken M O T R kind is_last old new would bytes ⊎ ReadsNoMore M O T R kind old new would bytes
      → old.flow.left ≡ Some stream → is_some new.flow.left ≡ true → old.flow.reads ≡ 0 → new.flow.reads ≡ 0
      → Entered kind request old.caller.pass new.caller.pass ⊎ IsFull new.caller.pass ⊎ (would ≡ ended.NoMemory)
  caused_first is_last old new would bytes (inl broken) told some none quiet =
      let first = begun stream (before broken.held new.flow.left) broken.request broken.allows (observed broken.held new.flow.left some) (broken.begins stream told) in
      let same : broken.request ≡ request = one stream broken.request request first.0 rest first.1 begins in
      replied_first (broken.allows && not is_last) old.caller.pass new.caller.pass broken.responds.moment broken.responds.nonce would bytes
      (subst (λ (r : Request). Replies (AnswersUnder M O old.caller.pass new.caller.pass) (new.caller.pass ≡ old.caller.pass) kind r (broken.allows && not is_last)
      broken.responds.moment broken.responds.nonce would bytes) same broken.responds.replies)
    where
      observed : (held : List ℕ) (left : Option (List ℕ)) → is_some left ≡ true → is_some (before held left) ≡ true
      observed held None is = is
      observed held (Some left) is = refl
  caused_first is_last old new would bytes (inr unread) told some none quiet =
      elim (not_unread (between old.flow new.flow) stream rest request unread.none.refusal told begins unread.none.why)
      as (λ _. Entered kind request old.caller.pass new.caller.pass ⊎ IsFull new.caller.pass ⊎ (would ≡ ended.NoMemory)) [
        | inl memory ↦ inr (inr (unread.none.ended ∙ memory))
        | inr rose ↦ absurd (not_rose old.flow.reads new.flow.reads none quiet rose)
      ]

  ends_so : (would : Ended) (bytes : List ℕ) (end : Ended) (old new : Moment C N) → Writes would bytes end (between old.flow new.flow) → old.flow.writes ≡ 0 → new.flow.writes ≡ 0
      → end ≡ would
  ends_so would bytes end old new (inl whole) none quiet = whole.0
  ends_so would bytes end old new (inr failed) none quiet = absurd (not_rose old.flow.writes new.flow.writes none quiet failed.2)

  broken_first : (is_last : Bool) (old new : Moment C N) (end : Ended) → Breaks M O T R kind is_last old new end
      → old.flow.left ≡ Some stream → is_some new.flow.left ≡ true → old.flow.reads ≡ 0 → new.flow.reads ≡ 0 → old.flow.writes ≡ 0 → new.flow.writes ≡ 0
      → Entered kind request old.caller.pass new.caller.pass ⊎ IsFull new.caller.pass ⊎ (end ≡ ended.NoMemory)
  broken_first is_last old new end breaks told some none quiet unfailed calm =
      elim (caused_first is_last old new breaks.would breaks.text breaks.cause told some none quiet)
      as (λ _. Entered kind request old.caller.pass new.caller.pass ⊎ IsFull new.caller.pass ⊎ (end ≡ ended.NoMemory)) [
        | inl entered ↦ inl entered
        | inr without ↦ elim without as (λ _. Entered kind request old.caller.pass new.caller.pass ⊎ IsFull new.caller.pass ⊎ (end ≡ ended.NoMemory)) [
          | inl full ↦ inr (inl full)
          | inr memory ↦ inr (inr (ends_so breaks.would breaks.text end old new breaks.writes unfailed calm ∙ memory))
        ]
      ]

  -- the first request of a connection that asks for something makes a call, if neither stream failed; unless memory ran
  -- out or the history is full
  pub first_asks : (limit : ℕ) (old new : Moment C N) (end : KeepEnd) → Keeps M O T R kind limit old new end
      → old.flow.left ≡ Some stream → is_some new.flow.left ≡ true → old.flow.reads ≡ 0 → new.flow.reads ≡ 0 → old.flow.writes ≡ 0 → new.flow.writes ≡ 0
      → Entered kind request old.caller.pass new.caller.pass ⊎ IsFull new.caller.pass ⊎ (after_connection end ≡ turn.Starved)
  first_asks limit old new (Closed zero) (inl ends) told some none quiet unfailed calm =
      absurd (no_empty stream request rest begins (ends.ended stream (ap (λ (at : Moment C N). at.flow.left) ends.serves ∙ told)))
  first_asks limit old new (Closed (suc n)) (inl ends) told some none quiet unfailed calm =
      inl (subst (λ (at : Moment C N). Entered kind request old.caller.pass at.caller.pass) (sym ends.same) (served_some limit n old ends.middle ends.serves told))
  first_asks limit old new (Closed served) (inr ends) told some none quiet unfailed calm = inl (by_others ends.others ends.serves)
    where
      by_others : (others : ℕ) → ServesRequests M O T R kind limit others old ends.middle → Entered kind request old.caller.pass new.caller.pass
      by_others zero same =
          subst (λ (at : Moment C N). Entered kind request at.caller.pass new.caller.pass) same
          (served_first _ ends.middle (ahead ends.held new) false ends.closes (ap (λ (at : Moment C N). at.flow.left) same ∙ told))
      by_others (suc n) serves =
          let moved = one_moved M O T R kind _ ends.middle (ahead ends.held new) false ends.closes in
          entered_then kind request moved.count old.caller.pass ends.middle.caller.pass new.caller.pass moved.moves (served_some limit n old ends.middle serves told)
  first_asks limit old new (Broken zero end) (middle, same, breaks) told some none quiet unfailed calm =
      let found = broken_first _ old new end (subst (λ (at : Moment C N). Breaks M O T R kind (1 == limit) at new end) same breaks) told some none quiet unfailed calm in
      elim found as (λ _. Entered kind request old.caller.pass new.caller.pass ⊎ IsFull new.caller.pass ⊎ (after_connection (Broken zero end) ≡ turn.Starved)) [
        | inl entered ↦ inl entered
        | inr without ↦ elim without as (λ _. Entered kind request old.caller.pass new.caller.pass ⊎ IsFull new.caller.pass ⊎ (after_connection (Broken zero end) ≡ turn.Starved)) [
          | inl full ↦ inr (inl full)
          | inr memory ↦ inr (inr (memory_starves zero end memory))
        ]
      ]
  first_asks limit old new (Broken (suc n) end) (middle, serves, breaks) told some none quiet unfailed calm =
      let moved = break_moved M O T R kind _ middle new end breaks in
      inl (entered_then kind request moved.count old.caller.pass middle.caller.pass new.caller.pass moved.moves (served_some limit n old middle serves told))

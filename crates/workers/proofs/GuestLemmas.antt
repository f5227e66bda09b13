-- What a turn at a door adds to a pass, and what becomes of its guest.
use Rattle.std.proofs.Common.{◌≡◌, ◌⊎◌, ◌+◌, ◌≤◌, ◌<◌, ◌^◌, ℕ, zero, suc, Bool, true, false, if◌then◌else◌, List, [], ◌∷◌, ◌++◌, Option, Some, None, Result, Ok, Err, is_some, length, min, inl, inr, refl, sym, ap, subst, ◌∙◌, arith}
use Rattle.as4_disk.specs.declared.disk.Disk.{Ghosts as DiskMeaning}
use Rattle.as4_disk.specs.Faults.{Rises}
use Rattle.as4_doors.specs.Asking.{AsksFor}
use Rattle.as4_doors.specs.declared.door.DoorKind.{DoorKind}
use Rattle.as4_flow.specs.Flow.{Rose, Streams}
use Rattle.as4_flow.specs.declared.clock.Clock.{Ghosts as ClockMeaning}
use Rattle.as4_flow.specs.declared.nonces.Nonces.{Ghosts as NoncesMeaning}
use Rattle.as4_host.specs.Counts.{HasNotRisen, raised}
use Rattle.as4_host.specs.declared.door.Door.{Ghosts as DoorMeaning}
use Rattle.as4_host.proofs.CountLemmas.{settled}
use Rattle.as4_http.specs.Requests.{BeginsRequest}
use Rattle.as4_http.specs.declared.message.Request.{Request}
use Rattle.exchange_model.specs.declared.event.Event.{Event}
use Rattle.exchange_model.specs.declared.what.What.{What}
use Rattle.exchange_model.specs.declared.reply.Reply.{Reply}
use Rattle.office.specs.declared.call.Call.{Call}
use Rattle.office.specs.declared.fault.OfficeFault.{OfficeFault}
use Rattle.office.specs.declared.fault.OfficeFault.TheVariants as fault
use Rattle.pass_book.specs.States.{PassState}
use Rattle.sessions.specs.Answering.{Tells}
use Rattle.sessions.specs.Sessions.{DrawsBoth, Ends, IsEventOf, IsHandled, Replies, WasHandled, WouldEnd, Writes}
use Rattle.sessions.specs.Shared.{AnswersUnder}
use Rattle.sessions.specs.declared.ended.Ended.{Ended}
use Rattle.sessions.specs.declared.ended.Ended.TheVariants as ended
use Rattle.sessions.specs.declared.naming.Opening.{Ghosts as OpeningMeaning}
use Rattle.workers.specs.Bounds.{HasEventOf, IsQuiet}
use Rattle.workers.specs.Endings.{after_session, session_starves}
use Rattle.workers.specs.Guests.{Caller, MeetsGuest, ServesGuest}
use Rattle.workers.specs.declared.turn.Turn.{Turn}
use Rattle.workers.specs.declared.turn.Turn.TheVariants.{Starved, Worked}
use Rattle.workers.proofs.GrowthLemmas.{EndsWith, IsFull, MakesOne, Moves, because, handled, moves_same}
use Rattle.workers.proofs.RoundLemmas.{MakesUpTo, makes_none}

not_rose : (later : ℕ) (faults : ℕ) → faults ≡ 0 → later ≡ 0 → Rose faults later → ⊥
not_rose later faults none quiet rose = absurd (omega (arith, none, quiet, rose))

-- how a session ends whose call got no reply since memory ran out
no_reply : (kept : Bool) (result : Result Reply OfficeFault) (would : Ended) (bytes : List ℕ) → Tells kept result would bytes
    → result ≡ Err fault.NoMemory → would ≡ ended.NoMemory
no_reply kept result would bytes tells is =
    let tells_none : Tells kept (Err fault.NoMemory) would bytes = subst (λ (r : Result Reply OfficeFault). Tells kept r would bytes) is tells in tells_none.0

module _ {D J W In Out C N : Type 0} (M : DiskMeaning D) (O : OpeningMeaning J) (G : DoorMeaning W In Out) (T : ClockMeaning C) (R : NoncesMeaning N) where
  answered : (kept : Bool) (event : Event) (old new : PassState Call) (end : Ended) (bytes : List ℕ) → AnswersUnder M O old new kept event end bytes
      → MakesOne event (end ≡ ended.NoMemory) old new
  answered kept event old new end bytes answers =
      because event (answers.result ≡ Err fault.NoMemory) (end ≡ ended.NoMemory) old new (no_reply kept answers.result end bytes answers.tells)
      (handled M answers.steps.found answers.steps.left old new event answers.result answers.steps.handles)

  replied : (kind : DoorKind) (request : Request) (old new : PassState Call) (moment nonce : ℕ) (end : Ended) (bytes : List ℕ)
      → Replies (AnswersUnder M O old new) (new ≡ old) kind request false moment nonce end bytes → MakesUpTo 1 old new
  replied kind request old new moment nonce end bytes (inl (event, is, answers)) =
      let one = answered false event old new end bytes answers in record { count = one.count; few = one.one; moves = one.moves }
  replied kind request old new moment nonce end bytes (inr (turned, same)) = makes_none 1 old new same

  would_make : (Drawn : ℕ → ℕ → Type 0) (Undrawn : Type 0) (kind : DoorKind) (old new : PassState Call) (streams : Streams) (end : Ended) (bytes : List ℕ)
      → WouldEnd (AnswersUnder M O old new) (new ≡ old) Drawn Undrawn kind streams end bytes → MakesUpTo 1 old new
  would_make Drawn Undrawn kind old new streams end bytes (inl serves) = replied kind serves.request old new serves.moment serves.nonce end bytes serves.replies
  would_make Drawn Undrawn kind old new streams end bytes (inr none) = makes_none 1 old new none.2

  -- a session makes at most one call
  pub guest_makes : (kind : DoorKind) (door later : W) (old new : Caller C N) (end : Ended) → ServesGuest M O G T R kind door later old new end
      → MakesUpTo 1 old.pass new.pass
  guest_makes kind door later old new end serves =
      would_make _ _ kind old.pass new.pass serves.streams serves.ends.would serves.ends.bytes serves.ends.serves

  -- the streams of a guest didn't fail if no count of the door has risen
  quiet_reads : (kind : DoorKind) (door later : W) (old new : Caller C N) (end : Ended) → (serves : ServesGuest M O G T R kind door later old new end) → IsQuiet G door later
      → serves.streams.later_read_faults ≡ 0
  quiet_reads kind door later old new end serves quiet =
      settled serves.streams.later_read_faults (G.reads door) (subst (λ (n : ℕ). HasNotRisen (G.reads door) n) serves.reads quiet.reads)

  quiet_writes : (kind : DoorKind) (door later : W) (old new : Caller C N) (end : Ended) → (serves : ServesGuest M O G T R kind door later old new end) → IsQuiet G door later
      → serves.streams.later_write_faults ≡ 0
  quiet_writes kind door later old new end serves quiet =
      settled serves.streams.later_write_faults (G.writes door) (subst (λ (n : ℕ). HasNotRisen (G.writes door) n) serves.writes quiet.writes)

  -- what a session would end with, if its sink doesn't fail
  ends_so : (would : Ended) (bytes : List ℕ) (end : Ended) (streams : Streams) → Writes would bytes end streams → streams.write_faults ≡ 0 → streams.later_write_faults ≡ 0
      → end ≡ would
  ends_so would bytes end streams (inl whole) none quiet = whole.0
  ends_so would bytes end streams (inr failed) none quiet = absurd (not_rose streams.later_write_faults streams.write_faults none quiet failed.2)

  -- the event of the guest's request was handled, or memory ran out
  was_handled : (Drawn : ℕ → ℕ → Type 0) (kind : DoorKind) (request : Request) (old new : PassState Call) (streams : Streams) (would : Ended) (bytes : List ℕ)
      → WasHandled (AnswersUnder M O old new) Drawn kind request streams would bytes → streams.read_faults ≡ 0 → streams.later_read_faults ≡ 0
      → ((event : Event) × AsksFor kind request event.what × MakesOne event (would ≡ ended.NoMemory) old new) ⊎ (would ≡ ended.NoMemory)
  was_handled Drawn kind request old new streams would bytes (inl (event, moment, nonce, drawn, is, answers)) none quiet =
      inl (event, is.asked, answered false event old new would bytes answers)
  was_handled Drawn kind request old new streams would bytes (inr (inl is)) none quiet = inr is
  was_handled Drawn kind request old new streams would bytes (inr (inr failed)) none quiet =
      absurd (not_rose streams.later_read_faults streams.read_faults none quiet failed.1)

  -- a guest who asks for something makes a call, if no count of the door has risen; unless memory ran out or the history
  -- is full
  pub guest_asks : (kind : DoorKind) (door later : W) (old new : Caller C N) (end : Ended) (request : Request)
      → (serves : ServesGuest M O G T R kind door later old new end) → IsQuiet G door later
      → IsHandled (AnswersUnder M O old.pass new.pass) (DrawsBoth T R old.clock new.clock old.nonces new.nonces) kind request serves.streams end
      → (Moves 1 old.pass new.pass × HasEventOf kind request new.pass.list) ⊎ IsFull new.pass ⊎ (end ≡ ended.NoMemory)
  guest_asks kind door later old new end request serves quiet is =
      let same = ends_so is.would is.bytes end serves.streams is.writes serves.no_writes (quiet_writes kind door later old new end serves quiet) in
      let done = was_handled (DrawsBoth T R old.clock new.clock old.nonces new.nonces) kind request old.pass new.pass serves.streams is.would is.bytes is.handled
      serves.no_reads (quiet_reads kind door later old new end serves quiet) in
      made same done
    where
      made : end ≡ is.would
          → ((event : Event) × AsksFor kind request event.what × MakesOne event (is.would ≡ ended.NoMemory) old.pass new.pass) ⊎ (is.would ≡ ended.NoMemory)
          → (Moves 1 old.pass new.pass × HasEventOf kind request new.pass.list) ⊎ IsFull new.pass ⊎ (end ≡ ended.NoMemory)
      made same (inl (event, asks, one)) = elim one.cause as (λ _. (Moves 1 old.pass new.pass × HasEventOf kind request new.pass.list) ⊎ IsFull new.pass ⊎ (end ≡ ended.NoMemory)) [
        | inl some ↦ inl (
          subst (λ (n : ℕ). Moves n old.pass new.pass) some.0 one.moves,
          record { before = some.1.before; call = some.1.call; after = []; entered = some.1.list; event = event; is = some.1.is; asked = asks },
        )
        | inr none ↦ elim none as (λ _. (Moves 1 old.pass new.pass × HasEventOf kind request new.pass.list) ⊎ IsFull new.pass ⊎ (end ≡ ended.NoMemory)) [
          | inl full ↦ inr (inl full)
          | inr memory ↦ inr (inr (same ∙ memory))
        ]
      ]
      made same (inr memory) = inr (inr (same ∙ memory))

  -- a turn whose guest was served ends as the session says
  pub meets : (kind : DoorKind) (door later : W) (old new : Caller C N) (end : Ended) (so : Turn) → ServesGuest M O G T R kind door later old new end → so ≡ after_session end
      → MeetsGuest M O G T R kind door later old new so
  meets kind door later old new end so serves is =
      subst (λ (t : Turn). MeetsGuest M O G T R kind door later old new t) (sym is) (by_starving (session_starves end) refl)
    where
      by_starving : (b : Bool) → session_starves end ≡ b → MeetsGuest M O G T R kind door later old new (if b then Starved else Worked)
      by_starving true starves = inl (end, serves, ap (λ (b : Bool). if b then Starved else Worked) starves)
      by_starving false starves = (end, serves, ap (λ (b : Bool). if b then Starved else Worked) starves)

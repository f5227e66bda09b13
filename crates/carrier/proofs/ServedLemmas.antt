-- What a session over memory does with the bytes of one request.
use Rattle.std.proofs.Common.{◌≡◌, ℕ, ◌<◌, ◌≤◌, ◌^◌, Bool, false, List, [], ◌∷◌, ◌++◌, Option, Some, min, sym, ap, subst, ◌∙◌, inl, inr, arith}
use Rattle.as4_disk.specs.declared.disk.Disk.{Ghosts as DiskMeaning}
use Rattle.as4_doors.specs.declared.door.DoorKind.TheVariants.{Peer}
use Rattle.as4_flow.specs.ClocksInMemory.{ClockState, NoncesState, moment_at, new_clock, new_nonces, nonce_at}
use Rattle.as4_flow.specs.Draws.{last_moment}
use Rattle.as4_flow.specs.Flow.{Streams, Told, appended, before}
use Rattle.as4_http.specs.declared.message.Request.{Request}
use Rattle.as4_http.specs.declared.refusal.HttpRefusal.{HttpRefusal}
use Rattle.as4_http.specs.declared.refusal.HttpRefusal.TheVariants as http
use Rattle.carrier.specs.Carrying.{IsServed, gives_up}
use Rattle.exchange_model.specs.declared.event.Event.{Event}
use Rattle.office.specs.State.{OfficeState}
use Rattle.office.specs.declared.call.Call.{Call}
use Rattle.pass_book.specs.States.{PassState}
use Rattle.sessions.specs.Answering.{Answers}
use Rattle.sessions.specs.Sessions.{Ends, Replies, Serves, TurnsAway, WouldEnd, Writes, ended_unread}
use Rattle.sessions.specs.declared.ended.Ended.{Ended}
use Rattle.sessions.specs.declared.ended.Ended.TheVariants as ended

turned_gives_up : (request : Request) (moment nonce : ℕ) (end : Ended) (bytes : List ℕ) → TurnsAway Peer request false moment nonce end bytes → gives_up end
turned_gives_up request moment nonce ended.Answered bytes turned = turned
turned_gives_up request moment nonce ended.Cut bytes turned = tt
turned_gives_up request moment nonce ended.Bad bytes turned = tt
turned_gives_up request moment nonce ended.TooLong bytes turned = tt
turned_gives_up request moment nonce (ended.Refused by) bytes turned = tt
turned_gives_up request moment nonce ended.ReadFault bytes turned = tt
turned_gives_up request moment nonce ended.WriteFault bytes turned = tt
turned_gives_up request moment nonce (ended.DiskFault a b) bytes turned = turned
turned_gives_up request moment nonce (ended.Stopped a b) bytes turned = turned
turned_gives_up request moment nonce (ended.Full a b) bytes turned = turned
turned_gives_up request moment nonce ended.Worn bytes turned = turned
turned_gives_up request moment nonce ended.NoMemory bytes turned = tt

unread_gives_up : (refusal : HttpRefusal) → gives_up (ended_unread refusal)
unread_gives_up http.Cut = tt
unread_gives_up http.Bad = tt
unread_gives_up http.TooLong = tt
unread_gives_up http.ReadFault = tt
unread_gives_up http.NoMemory = tt

-- a sink that had taken nothing has taken these bytes
all_taken : (streams : Streams) (bytes text : List ℕ) → streams.taken ≡ Some [] → streams.later ≡ Some bytes → streams.later ≡ appended streams.taken text → text ≡ bytes
all_taken streams bytes text none later wrote =
    let all : streams.later ≡ Some text = wrote ∙ ap (λ (o : Option (List ℕ)). appended o text) none in
    let same : Some text ≡ Some bytes = sym all ∙ later in cc

module _ {Answered : Bool → Event → Ended → List ℕ → Type 0} {Untouched : Type 0} {Drawn : ℕ → ℕ → Type 0} {Undrawn : Type 0} where
  -- by what the session would do
  by_reply : (streams : Streams) (text left : List ℕ) (moment nonce : ℕ) (end : Ended) (bytes : List ℕ) → streams.left ≡ Some text → streams.rest ≡ Some left
      → ((m n : ℕ) → Drawn m n → (m ≡ moment) × (n ≡ nonce)) → Serves Answered Untouched Drawn Undrawn Peer streams end bytes
      → IsServed Answered text moment nonce end bytes
  by_reply streams text left moment nonce end bytes told rest drawn serves = by_case serves.replies
    where
      by_case : Replies Answered Untouched Peer serves.request false serves.moment serves.nonce end bytes → IsServed Answered text moment nonce end bytes
      by_case (inl (event, is, answered)) = inr (record {
        request = serves.request;
        rest = serves.read.held ++ left;
        begins = serves.read.begins text told (serves.read.held ++ left) (ap (before serves.read.held) rest);
        event = event;
        is = record {
          dated = is.dated ∙ (drawn serves.moment serves.nonce serves.drawn).0;
          named = is.named ∙ (drawn serves.moment serves.nonce serves.drawn).1;
          asked = is.asked;
        };
        answered = answered;
      })
      by_case (inr turned) = inl (turned_gives_up serves.request serves.moment serves.nonce end bytes turned.0)

  would_end : (streams : Streams) (text left : List ℕ) (moment nonce : ℕ) (end : Ended) (bytes : List ℕ) → streams.left ≡ Some text → streams.rest ≡ Some left
      → ((m n : ℕ) → Drawn m n → (m ≡ moment) × (n ≡ nonce)) → WouldEnd Answered Untouched Drawn Undrawn Peer streams end bytes
      → IsServed Answered text moment nonce end bytes
  would_end streams text left moment nonce end bytes told rest drawn (inl serves) = by_reply streams text left moment nonce end bytes told rest drawn serves
  would_end streams text left moment nonce end bytes told rest drawn (inr none) = inl (subst gives_up (sym none.0.ended) (unread_gives_up none.0.refusal))

  pub served : (streams : Streams) (text left : List ℕ) (moment nonce : ℕ) (end : Ended) (bytes : List ℕ) → streams.left ≡ Some text → streams.rest ≡ Some left
      → streams.taken ≡ Some [] → streams.later ≡ Some bytes → ((m n : ℕ) → Drawn m n → (m ≡ moment) × (n ≡ nonce))
      → Ends Answered Untouched Drawn Undrawn Peer streams end → IsServed Answered text moment nonce end bytes
  served streams text left moment nonce end bytes told rest none later drawn ends = by_writes ends.writes
    where
      by_writes : Writes ends.would ends.bytes end streams → IsServed Answered text moment nonce end bytes
      by_writes (inl all) =
          subst (λ (e : Ended). IsServed Answered text moment nonce e bytes) (sym all.0)
          (subst (IsServed Answered text moment nonce ends.would) (all_taken streams bytes ends.bytes none later all.1)
          (would_end streams text left moment nonce ends.would ends.bytes told rest drawn ends.serves))
      by_writes (inr failed) = inl (subst gives_up (sym failed.0) tt)

-- an office keeps its modes
pub modes_stay : {D : Type 0} (M : DiskMeaning D) (old new : OfficeState D) (pass_old pass_new : PassState Call) (Drawn : ℕ → ℕ → Type 0) (Undrawn : Type 0)
    (streams : Streams) (end : Ended)
    → Ends (Answers M old new pass_old pass_new) ((new ≡ old) × (pass_new ≡ pass_old)) Drawn Undrawn Peer streams end → new.modes ≡ old.modes
modes_stay {D} M old new pass_old pass_new Drawn Undrawn streams end ends = by_end ends.serves
  where
    untouched : (new ≡ old) × (pass_new ≡ pass_old) → new.modes ≡ old.modes
    untouched same = ap (λ (o : OfficeState D). o.modes) same.0

    by_replies : (request : Request) (moment nonce : ℕ)
        → Replies (Answers M old new pass_old pass_new) ((new ≡ old) × (pass_new ≡ pass_old)) Peer request false moment nonce ends.would ends.bytes
        → new.modes ≡ old.modes
    by_replies request moment nonce (inl answered) = answered.2.handles.keeps.modes
    by_replies request moment nonce (inr turned) = untouched turned.1

    by_end : WouldEnd (Answers M old new pass_old pass_new) ((new ≡ old) × (pass_new ≡ pass_old)) Drawn Undrawn Peer streams ends.would ends.bytes
        → new.modes ≡ old.modes
    by_end (inl serves) = by_replies serves.request serves.moment serves.nonce serves.replies
    by_end (inr none) = untouched none.2

-- the moment and the nonce that are drawn

pub moment_drawn : (clock : ClockState) (stamp m : ℕ) → clock ≡ new_clock (stamp ∷ []) → stamp ≤ last_moment
    → Told (Some (moment_at clock.moments 0)) (λ told. m ≡ told) → m ≡ stamp
moment_drawn clock stamp m is dated first =
    let cut : moment_at clock.moments 0 ≡ min stamp last_moment = ap (λ (c : ClockState). moment_at c.moments 0) is in
    first stamp (ap Some (cut ∙ min_stays stamp dated))
  where
    min_stays : (n : ℕ) → n ≤ last_moment → min n last_moment ≡ n
    min_stays n small = omega (arith, small)

pub nonce_drawn : (nonces : NoncesState) (nonce n : ℕ) → nonces ≡ new_nonces nonce → nonce < 2 ^ 128
    → Told (Some (nonce_at nonces.next 0)) (λ told. n ≡ told) → n ≡ nonce
nonce_drawn nonces nonce n is small first =
    let drawn : nonce_at nonces.next 0 ≡ nonce_at nonce 0 = ap (λ (s : NoncesState). nonce_at s.next 0) is in
    first nonce (ap Some (drawn ∙ omega (arith, small)))

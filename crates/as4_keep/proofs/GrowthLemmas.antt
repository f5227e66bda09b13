-- What the requests of a connection add to a pass.
use Rattle.std.proofs.Common.{◌≡◌, ◌⊎◌, ◌+◌, ◌≤◌, ◌^◌, ◌&&◌, ℕ, zero, suc, Bool, true, false, not, List, [], ◌∷◌, ◌++◌, Option, Some, None, Result, Ok, Err, length, inl, inr, refl, sym, ap, subst, ◌∙◌, append_assoc, length-append, arith}
use mathlib.Core.List.{IsPrefix}
use Rattle.as4_disk.specs.declared.disk.Disk.{Ghosts as DiskMeaning}
use Rattle.as4_doors.specs.declared.door.DoorKind.{DoorKind}
use Rattle.as4_flow.specs.declared.clock.Clock.{Ghosts as ClockMeaning}
use Rattle.as4_flow.specs.declared.nonces.Nonces.{Ghosts as NoncesMeaning}
use Rattle.as4_http.specs.declared.message.Request.{Request}
use Rattle.exchange_model.specs.declared.event.Event.{Event}
use Rattle.exchange_model.specs.declared.reply.Reply.{Reply}
use Rattle.exchange_model.specs.declared.reply.Reply.TheVariants as reply
use Rattle.office.specs.State.{OfficeState}
use Rattle.office.specs.Steps.{Enters, Handles}
use Rattle.office.specs.declared.call.Call.{Call}
use Rattle.office.specs.declared.call.Call.TheVariants.{Done, Stop}
use Rattle.office.specs.declared.fault.OfficeFault.{OfficeFault}
use Rattle.office.specs.declared.fault.OfficeFault.TheVariants as fault
use Rattle.pass_book.specs.States.{PassState}
use Rattle.pass_book.proofs.Beginnings.{prefix_self, prefix_more}
use Rattle.sessions.specs.Answering.{Tells}
use Rattle.sessions.specs.Sessions.{Replies}
use Rattle.sessions.specs.Shared.{AnswersUnder}
use Rattle.sessions.specs.declared.ended.Ended.{Ended}
use Rattle.sessions.specs.declared.ended.Ended.TheVariants as ended
use Rattle.sessions.specs.declared.naming.Opening.{Ghosts as OpeningMeaning}
use Rattle.workers.specs.Bounds.{event_of}
use Rattle.as4_keep.proofs.KeepLemmas.{below_limit}
use Rattle.as4_keep.specs.Connections.{Breaks, Keeps, Moment, ReadsBroken, ReadsNoMore, ServesRequest, ServesRequests, begun_of}
use Rattle.as4_keep.specs.InOrder.{Answer, call_of, calls_of}
use Rattle.as4_keep.specs.declared.keep_end.KeepEnd.{KeepEnd}
use Rattle.as4_keep.specs.declared.keep_end.KeepEnd.TheVariants.{Broken, Closed}

-- the calls that the pass has seen go on, and its share rises by this number
pub record Moves (n : ℕ) (old new : PassState Call) : Type 0 where
  pub list : IsPrefix old.list new.list
  pub share : new.share ≡ old.share + n

pub prefix_then : {A : Type 0} (xs ys zs : List A) → IsPrefix xs ys → IsPrefix ys zs → IsPrefix xs zs
prefix_then xs ys zs p q = (p.0 ++ q.0, sym (append_assoc xs p.0 q.0) ∙ ap (λ l. l ++ q.0) p.1 ∙ q.1)

pub moves_none : (pass : PassState Call) → Moves 0 pass pass
moves_none pass = record { list = prefix_self pass.list; share = omega arith }

pub moves_same : (old new : PassState Call) → new ≡ old → Moves 0 old new
moves_same old new same = subst (λ (pass : PassState Call). Moves 0 old pass) (sym same) (moves_none old)

pub moves_then : (m n : ℕ) (old middle new : PassState Call) → Moves m old middle → Moves n middle new → Moves (m + n) old new
moves_then m n old middle new first second = record {
  list = prefix_then old.list middle.list new.list first.list second.list;
  share = second.share ∙ omega (arith, first.share);
}

-- the last call that the pass has seen has this event
pub record EndsWith (event : Event) (pass : PassState Call) : Type 0 where
  pub before : List Call
  pub call : Call
  pub list : pass.list ≡ before ++ call ∷ []
  pub is : event_of call ≡ Some event

-- Why no call was made: the history is full, or E.
abbrev pub IsFull : PassState Call → Type 0
IsFull pass = 2 ^ 63 ≤ length pass.list

-- at most one call was made, with this event; if none, the history is full, or E
pub record MakesOne (event : Event) (E : Type 0) (old new : PassState Call) : Type 0 where
  pub count : ℕ
  pub one : count ≤ 1
  pub moves : Moves count old new
  pub cause : ((count ≡ 1) × EndsWith event new) ⊎ IsFull new ⊎ E

module _ {D : Type 0} (M : DiskMeaning D) (found left : OfficeState D) (old new : PassState Call) (event : Event) where
  one_more : (E : Type 0) (call : Call) → event_of call ≡ Some event → Enters found left old new call → MakesOne event E old new
  one_more E call is enters =
      let list = enters.whole ∙ enters.list in record {
        count = 1;
        one = omega arith;
        moves = record {
          list = subst (λ (l : List Call). IsPrefix old.list l) (sym list) (prefix_more old.list found.list (call ∷ []) enters.seen);
          share = enters.share;
        };
        cause = inl (refl, record { before = found.list; call = call; list = list; is = is });
      }

  -- an event that was handled made a call, unless the history is full or memory ran out
  pub handled : (result : Result Reply OfficeFault) → Handles M found left old new event result → MakesOne event (result ≡ Err fault.NoMemory) old new
  handled (Ok r) handles = one_more _ (Done event r) refl handles.answer.entered
  handled (Err (fault.Disk before after)) handles =
      one_more _ (Stop (Some event) (record { before = before; after = after })) refl handles.answer.stops.entered
  handled (Err (fault.Stopped before after)) handles = one_more _ (Done event (reply.Stopped before after)) refl handles.answer.1
  handled (Err fault.Worn) handles =
      let same = handles.answer.pass in record {
        count = 0;
        one = omega arith;
        moves = record {
          list = subst (λ (l : List Call). IsPrefix old.list l) (sym (ap (λ (p : PassState Call). p.list) same)) handles.answer.seen;
          share = ap (λ (p : PassState Call). p.share) same ∙ omega arith;
        };
        cause = inr (inl (omega (arith, ap (λ (p : PassState Call). length p.list) same, handles.answer.full)));
      }
  handled (Err fault.NoMemory) handles = record {
    count = 0;
    one = omega arith;
    moves = moves_same old new handles.answer.0.pass;
    cause = inr (inr refl);
  }

-- another reason for no call
pub because : (event : Event) (E F : Type 0) (old new : PassState Call) → (E → F) → MakesOne event E old new → MakesOne event F old new
because event E F old new why made = record {
  count = made.count;
  one = made.one;
  moves = made.moves;
  cause = elim made.cause [ inl some ↦ inl some | inr none ↦ elim none as (λ _. ((made.count ≡ 1) × EndsWith event new) ⊎ IsFull new ⊎ F) [ inl full ↦ inr (inl full) | inr e ↦ inr (inr (why e)) ] ];
}

-- a full history stays full
pub stays_full : (n : ℕ) (old new : PassState Call) → Moves n old new → IsFull old → IsFull new
stays_full n old new moves full =
    let longer : length (old.list ++ moves.list.0) ≡ length new.list = ap length moves.list.1 in
    omega (arith, full, longer, length-append old.list moves.list.0)

-- how a request ends whose call got no reply since memory ran out
no_reply : (kept : Bool) (result : Result Reply OfficeFault) (would : Ended) (bytes : List ℕ) → Tells kept result would bytes
    → result ≡ Err fault.NoMemory → would ≡ ended.NoMemory
no_reply kept result would bytes tells is =
    let tells_none : Tells kept (Err fault.NoMemory) would bytes = subst (λ (r : Result Reply OfficeFault). Tells kept r would bytes) is tells in tells_none.0

-- at most this number of calls was made
pub record MovesUpTo (most : ℕ) (old new : PassState Call) : Type 0 where
  pub count : ℕ
  pub few : count ≤ most
  pub moves : Moves count old new

pub none_moved : (most : ℕ) (old new : PassState Call) → new ≡ old → MovesUpTo most old new
none_moved most old new same = record { count = 0; few = omega arith; moves = moves_same old new same }

pub both_moved : (m n most : ℕ) (old middle new : PassState Call) → m + n ≤ most → MovesUpTo m old middle → MovesUpTo n middle new → MovesUpTo most old new
both_moved m n most old middle new within first second = record {
  count = first.count + second.count;
  few = omega (arith, first.few, second.few, within);
  moves = moves_then first.count second.count old middle new first.moves second.moves;
}

one_call : (call : Option Call) → length (call_of call) ≤ 1
one_call None = omega arith
one_call (Some call) = omega arith

few_calls : (answers : List Answer) → length (calls_of answers) ≤ length answers
few_calls [] = omega arith
few_calls (a ∷ answers) =
    let both : length (calls_of (a ∷ answers)) ≡ length (call_of a.call) + length (calls_of answers) = length-append (call_of a.call) (calls_of answers) in
    omega (arith, both, one_call a.call, few_calls answers)

module _ {D J C N : Type 0} (M : DiskMeaning D) (O : OpeningMeaning J) (T : ClockMeaning C) (R : NoncesMeaning N) (door : DoorKind) where
  pub answered : (kept : Bool) (event : Event) (old new : PassState Call) (end : Ended) (bytes : List ℕ) → AnswersUnder M O old new kept event end bytes
      → MakesOne event (end ≡ ended.NoMemory) old new
  answered kept event old new end bytes answers =
      because event (answers.result ≡ Err fault.NoMemory) (end ≡ ended.NoMemory) old new (no_reply kept answers.result end bytes answers.tells)
      (handled M answers.steps.found answers.steps.left old new event answers.result answers.steps.handles)

  replied : (request : Request) (kept : Bool) (old new : PassState Call) (moment nonce : ℕ) (end : Ended) (bytes : List ℕ)
      → Replies (AnswersUnder M O old new) (new ≡ old) door request kept moment nonce end bytes → MovesUpTo 1 old new
  replied request kept old new moment nonce end bytes (inl (event, is, answers)) =
      let one = answered kept event old new end bytes answers in record { count = one.count; few = one.one; moves = one.moves }
  replied request kept old new moment nonce end bytes (inr (turned, same)) = none_moved 1 old new same

  pub one_moved : (is_last : Bool) (old new : Moment C N) (kept : Bool) → ServesRequest M O T R door is_last old new kept → MovesUpTo 1 old.caller.pass new.caller.pass
  one_moved is_last old new kept serves =
      replied serves.request kept old.caller.pass new.caller.pass serves.responds.moment serves.responds.nonce serves.end serves.response serves.responds.replies

  pub all_moved : (limit n : ℕ) (old new : Moment C N) → ServesRequests M O T R door limit n old new → MovesUpTo n old.caller.pass new.caller.pass
  all_moved limit zero old new same = none_moved 0 old.caller.pass new.caller.pass (ap (λ (at : Moment C N). at.caller.pass) same)
  all_moved limit (suc n) old new (middle, first, last) =
      both_moved n 1 (suc n) old.caller.pass middle.caller.pass new.caller.pass (omega arith) (all_moved limit n old middle first) (one_moved _ middle new true last)

  broken_moved : (is_last : Bool) (old new : Moment C N) (would : Ended) (bytes : List ℕ)
      → ReadsBroken M O T R door is_last old new would bytes ⊎ ReadsNoMore M O T R door old new would bytes → MovesUpTo 1 old.caller.pass new.caller.pass
  broken_moved is_last old new would bytes (inl broken) =
      replied broken.request (broken.allows && not is_last) old.caller.pass new.caller.pass broken.responds.moment broken.responds.nonce would bytes broken.responds.replies
  broken_moved is_last old new would bytes (inr none) = none_moved 1 old.caller.pass new.caller.pass (ap (λ c. c.pass) none.same)

  pub break_moved : (is_last : Bool) (old new : Moment C N) (end : Ended) → Breaks M O T R door is_last old new end → MovesUpTo 1 old.caller.pass new.caller.pass
  break_moved is_last old new end breaks = broken_moved is_last old new breaks.would breaks.text breaks.cause

  -- the calls of a connection
  pub kept_moved : (limit : ℕ) (old new : Moment C N) (end : KeepEnd) → 1 ≤ limit → Keeps M O T R door limit old new end → MovesUpTo limit old.caller.pass new.caller.pass
  kept_moved limit old new (Closed served) some (inl between) =
      let fewer = below_limit M O T R door limit served old between.middle some between.serves in
      both_moved served 0 limit old.caller.pass between.middle.caller.pass new.caller.pass (omega (arith, fewer)) (all_moved limit served old between.middle between.serves)
      (none_moved 0 between.middle.caller.pass new.caller.pass (ap (λ (at : Moment C N). at.caller.pass) between.same))
  kept_moved limit old new (Closed served) some (inr last) =
      let fewer = below_limit M O T R door limit last.others old last.middle some last.serves in
      both_moved last.others 1 limit old.caller.pass last.middle.caller.pass new.caller.pass (omega (arith, fewer)) (all_moved limit last.others old last.middle last.serves)
      (one_moved _ last.middle _ false last.closes)
  kept_moved limit old new (Broken served end) some (middle, serves, breaks) =
      let fewer = below_limit M O T R door limit served old middle some serves in
      both_moved served 1 limit old.caller.pass middle.caller.pass new.caller.pass (omega (arith, fewer)) (all_moved limit served old middle serves)
      (break_moved _ middle new end breaks)

  -- no more requests are begun than the limit
  pub begun_within : (limit : ℕ) (old new : Moment C N) (end : KeepEnd) → 1 ≤ limit → Keeps M O T R door limit old new end → begun_of end ≤ limit
  begun_within limit old new (Closed served) some (inl between) =
      omega (arith, below_limit M O T R door limit served old between.middle some between.serves)
  begun_within limit old new (Closed served) some (inr last) =
      omega (arith, last.count, below_limit M O T R door limit last.others old last.middle some last.serves)
  begun_within limit old new (Broken served end) some (middle, serves, breaks) =
      omega (arith, below_limit M O T R door limit served old middle some serves)

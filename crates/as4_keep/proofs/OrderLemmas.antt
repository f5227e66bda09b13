-- Requests that were answered one after another, put together.
use Rattle.std.proofs.Common.{◌≡◌, ◌+◌, ℕ, zero, suc, Bool, true, List, [], ◌∷◌, ◌++◌, Option, Some, None, Result, Ok, Err, is_some, length, refl, sym, ap, subst, ◌∙◌, inl, inr, append_assoc, append-nil, length-append, true≢false, arith}
use Rattle.std.specs.List.{AllByRecursion}
use Rattle.std.proofs.lemmas.Grind.{flat_map-append}
use Rattle.as4_disk.specs.declared.disk.Disk.{Ghosts as DiskMeaning}
use Rattle.as4_doors.specs.Responses.{IsResponse}
use Rattle.as4_doors.specs.declared.door.DoorKind.{DoorKind}
use Rattle.as4_flow.specs.Flow.{Told, appended}
use Rattle.as4_flow.specs.declared.clock.Clock.{Ghosts as ClockMeaning}
use Rattle.as4_flow.specs.declared.nonces.Nonces.{Ghosts as NoncesMeaning}
use Rattle.as4_http.specs.declared.message.Request.{Request}
use Rattle.exchange_model.specs.declared.event.Event.{Event}
use Rattle.exchange_model.specs.declared.reply.Reply.{Reply}
use Rattle.exchange_model.specs.declared.reply.Reply.TheVariants as reply
use Rattle.office.specs.State.{OfficeState}
use Rattle.office.specs.Steps.{Enters, Handles}
use Rattle.office.specs.declared.call.Call.{Call}
use Rattle.office.specs.declared.call.Call.TheVariants.{Done}
use Rattle.office.specs.declared.fault.OfficeFault.{OfficeFault}
use Rattle.office.specs.declared.fault.OfficeFault.TheVariants as fault
use Rattle.pass_book.specs.States.{PassState}
use Rattle.sessions.specs.Answering.{Tells, TellsReply}
use Rattle.sessions.specs.Sessions.{IsEventOf, Replies, TurnsAway}
use Rattle.sessions.specs.Shared.{AnswersUnder}
use Rattle.sessions.specs.declared.ended.Ended.{Ended}
use Rattle.sessions.specs.declared.ended.Ended.TheVariants as ended
use Rattle.sessions.specs.declared.naming.Opening.{Ghosts as OpeningMeaning}
use Rattle.as4_keep.specs.Connections.{Moment, ServesRequest, ServesRequests, is_full}
use Rattle.as4_keep.proofs.ReplyLemmas.{is_answer, refusal_says_so, says_so, where_answers}
use Rattle.as4_keep.specs.InOrder.{Answer, AnswersInOrder, AreAmong, AreDrawn, BeginsAll, IsAnswered, IsKept, SaysConnection, call_of, calls_of, responses_of}

all_both : {X : Type 0} (P : X → Type 0) (first second : List X) → AllByRecursion P first → AllByRecursion P second → AllByRecursion P (first ++ second)
all_both P [] second one two = two
all_both P (x ∷ first) second one two = (one.0, all_both P first second one.1 two)

begins_both : (first second : List Answer) (stream middle rest : List ℕ) → BeginsAll first stream middle → BeginsAll second middle rest
    → BeginsAll (first ++ second) stream rest
begins_both [] second stream middle rest one two = subst (λ (s : List ℕ). BeginsAll second s rest) (sym one) two
begins_both (a ∷ first) second stream middle rest one two = (one.0, one.1, begins_both first second one.0 middle rest one.2 two)

appended_both : (told : Option (List ℕ)) (first second : List ℕ) → appended (appended told first) second ≡ appended told (first ++ second)
appended_both None first second = refl
appended_both (Some told) first second = ap Some (append_assoc told first second)

among_later : (calls before all : List Call) → AreAmong calls all → AreAmong calls (before ++ all)
among_later [] before all among = tt
among_later (call ∷ calls) before all among = (
  before ++ among.0,
  among.1,
  ap (λ (l : List Call). before ++ l) among.2 ∙ sym (append_assoc before among.0 (call ∷ among.1)),
  among.3,
)

among_both : (first second all others : List Call) → AreAmong first all → AreAmong second others → AreAmong (first ++ second) (all ++ others)
among_both [] second all others one two = among_later second all others two
among_both (call ∷ first) second all others one two = (
  one.0,
  one.1 ++ others,
  ap (λ (l : List Call). l ++ others) one.2 ∙ append_assoc one.0 (call ∷ one.1) others,
  among_both first second one.1 others one.3 two,
)

-- the same answers are still to come, but for the first ones
Shifts : (old new : ℕ → Option ℕ) (n : ℕ) → Type 0
Shifts old new n = (k : ℕ) → new k ≡ old (k + n)

drawn_later : (moments nonces first_moments first_nonces : ℕ → Option ℕ) (n k : ℕ) (answers : List Answer)
    → ((j : ℕ) → moments j ≡ first_moments (j + n)) → ((j : ℕ) → nonces j ≡ first_nonces (j + n))
    → AreDrawn moments nonces k answers → AreDrawn first_moments first_nonces (k + n) answers
drawn_later moments nonces first_moments first_nonces n k [] some others drawn = tt
drawn_later moments nonces first_moments first_nonces n k (a ∷ answers) some others drawn = (
  subst (λ (t : Option ℕ). Told t (λ (told : ℕ). a.moment ≡ told)) (some k) drawn.0,
  subst (λ (t : Option ℕ). Told t (λ (told : ℕ). a.nonce ≡ told)) (others k) drawn.1,
  subst (λ (m : ℕ). AreDrawn first_moments first_nonces m answers) (let same : suc k + n ≡ suc (k + n) = omega arith in same)
      (drawn_later moments nonces first_moments first_nonces n (suc k) answers some others drawn.2),
)

drawn_both : (moments nonces : ℕ → Option ℕ) (k : ℕ) (first second : List Answer) → AreDrawn moments nonces k first
    → AreDrawn moments nonces (k + length first) second → AreDrawn moments nonces k (first ++ second)
drawn_both moments nonces k [] second one two = subst (λ (n : ℕ). AreDrawn moments nonces n second) (omega arith) two
drawn_both moments nonces k (a ∷ first) second one two = (
  one.0,
  one.1,
  drawn_both moments nonces (suc k) first second one.2
      (subst (λ (n : ℕ). AreDrawn moments nonces n second) (let same : k + length (a ∷ first) ≡ suc k + length first = omega arith in same) two),
)

module _ {D J C N : Type 0} (M : DiskMeaning D) (O : OpeningMeaning J) (T : ClockMeaning C) (R : NoncesMeaning N) (door : DoorKind) where
  -- answers in order, and what is still to come of clock and nonces
  pub record GoesInOrder (answers : List Answer) (old new : Moment C N) : Type 0 where
    pub order : AnswersInOrder T R door answers old new
    pub tells : is_some new.flow.left ≡ is_some old.flow.left
    pub moments : (k : ℕ) → T.to_come new.caller.clock k ≡ T.to_come old.caller.clock (k + length answers)
    pub nonces : (k : ℕ) → R.to_come new.caller.nonces k ≡ R.to_come old.caller.nonces (k + length answers)

  order_none : (at : Moment C N) → GoesInOrder [] at at
  order_none at = record {
    order = record {
      answered = tt;
      stream = λ stream is rest same. cc;
      written = appended_none at.flow.taken;
      calls = [];
      list = sym (append-nil at.caller.pass.list);
      made = tt;
      share = omega arith;
      drawn = tt;
    };
    tells = refl;
    moments = λ k. ap (T.to_come at.caller.clock) (omega arith);
    nonces = λ k. ap (R.to_come at.caller.nonces) (omega arith);
  }
    where
      appended_none : (told : Option (List ℕ)) → told ≡ appended told []
      appended_none None = refl
      appended_none (Some told) = ap Some (sym (append-nil told))

  -- first these, and then those
  stream_both : (first second : List Answer) (old middle new : Option (List ℕ)) → is_some middle ≡ is_some old
      → Told old (λ (stream : List ℕ). Told middle (λ (rest : List ℕ). BeginsAll first stream rest))
      → Told middle (λ (stream : List ℕ). Told new (λ (rest : List ℕ). BeginsAll second stream rest))
      → Told old (λ (stream : List ℕ). Told new (λ (rest : List ℕ). BeginsAll (first ++ second) stream rest))
  stream_both first second old None new tells one two stream is rest same = absurd cc
  stream_both first second old (Some middle) new tells one two stream is rest same =
      begins_both first second stream middle rest (one stream is middle refl) (two middle refl rest same)

  pub order_then : (first second : List Answer) (old middle new : Moment C N)
      → GoesInOrder first old middle → GoesInOrder second middle new → GoesInOrder (first ++ second) old new
  order_then first second old middle new one two =
      let calls : calls_of (first ++ second) ≡ calls_of first ++ calls_of second = flat_map-append (λ (a : Answer). call_of a.call) first second in
      let texts : responses_of (first ++ second) ≡ responses_of first ++ responses_of second = flat_map-append (λ (a : Answer). a.response) first second in
      let count : length (first ++ second) ≡ length first + length second = length-append first second in
      let number : length (calls_of (first ++ second)) ≡ length (calls_of first) + length (calls_of second) =
      ap length calls ∙ length-append (calls_of first) (calls_of second) in record {
        order = record {
          answered = all_both (IsAnswered door) first second one.order.answered two.order.answered;
          stream = stream_both first second old.flow.left middle.flow.left new.flow.left one.tells one.order.stream two.order.stream;
          written = two.order.written ∙ ap (λ (t : Option (List ℕ)). appended t (responses_of second)) one.order.written
              ∙ appended_both old.flow.taken (responses_of first) (responses_of second) ∙ ap (appended old.flow.taken) (sym texts);
          calls = one.order.calls ++ two.order.calls;
          list = two.order.list ∙ ap (λ (l : List Call). l ++ two.order.calls) one.order.list ∙ append_assoc old.caller.pass.list one.order.calls two.order.calls;
          made = subst (λ (l : List Call). AreAmong l (one.order.calls ++ two.order.calls)) (sym calls)
              (among_both (calls_of first) (calls_of second) one.order.calls two.order.calls one.order.made two.order.made);
          share = omega (arith, one.order.share, two.order.share, number);
          drawn = drawn_both (T.to_come old.caller.clock) (R.to_come old.caller.nonces) 0 first second one.order.drawn
              (drawn_later (T.to_come middle.caller.clock) (R.to_come middle.caller.nonces) (T.to_come old.caller.clock) (R.to_come old.caller.nonces)
              (length first) 0 second one.moments one.nonces two.order.drawn);
        };
        tells = two.tells ∙ one.tells;
        moments = λ k. two.moments k ∙ one.moments (k + length second)
            ∙ ap (T.to_come old.caller.clock) (let same : k + length second + length first ≡ k + length (first ++ second) = omega (arith, count) in same);
        nonces = λ k. two.nonces k ∙ one.nonces (k + length second)
            ∙ ap (R.to_come old.caller.nonces) (let same : k + length second + length first ≡ k + length (first ++ second) = omega (arith, count) in same);
      }

  -- the response of a request that was replied to
  replied : (kept : Bool) (r : Reply) (end : Ended) (bytes : List ℕ) → TellsReply kept r end bytes → is_full end ≡ true → IsResponse kept r bytes
  replied kept (reply.Full size need) end bytes tells full = absurd (true≢false (sym full ∙ ap is_full tells.0))
  replied kept (reply.Answer message) end bytes tells full = tells.1
  replied kept reply.Quiet end bytes tells full = tells.1
  replied kept (reply.Submitted number id) end bytes tells full = tells.1
  replied kept reply.NoMode end bytes tells full = tells.1
  replied kept reply.OutboxFull end bytes tells full = tells.1
  replied kept reply.TooLarge end bytes tells full = tells.1
  replied kept (reply.Entry header payloads) end bytes tells full = tells.1
  replied kept reply.NoEntry end bytes tells full = tells.1
  replied kept reply.Gone end bytes tells full = tells.1
  replied kept (reply.Confirmed upto) end bytes tells full = tells.1
  replied kept (reply.Pending tries) end bytes tells full = tells.1
  replied kept reply.Receipted end bytes tells full = tells.1
  replied kept reply.Failed end bytes tells full = tells.1
  replied kept (reply.RefusedWith code) end bytes tells full = tells.1
  replied kept reply.Unknown end bytes tells full = tells.1
  replied kept (reply.Stopped before after) end bytes tells full = tells.1
  replied kept (reply.Ticked failed) end bytes tells full = tells.1
  replied kept (reply.Push address message) end bytes tells full = tells.1
  replied kept reply.Nothing end bytes tells full = tells.1
  replied kept (reply.Request address message) end bytes tells full = tells.1

  -- what a request does that is answered in full: how it is answered, and what it adds to the pass
  pub record AnswersOne (kept : Bool) (request : Request) (moment nonce : ℕ) (response : List ℕ) (old new : PassState Call) : Type 0 where
    pub call : Option Call
    pub answered : IsAnswered door (record { request = request; moment = moment; nonce = nonce; call = call; response = response; kept = kept })
    pub calls : List Call
    pub list : new.list ≡ old.list ++ calls
    pub made : AreAmong (call_of call) calls
    pub share : new.share ≡ old.share + length (call_of call)

  entered : (kept : Bool) (request : Request) (moment nonce : ℕ) (response : List ℕ) (found left : OfficeState D) (old new : PassState Call) (event : Event) (r : Reply)
      → IsEventOf door request moment nonce event → IsResponse kept r response → SaysConnection kept response → Enters found left old new (Done event r)
      → AnswersOne kept request moment nonce response old new
  entered kept request moment nonce response found left old new event r is responds says enters = record {
    call = Some (Done event r);
    answered = ((is, responds), says);
    calls = enters.seen.0 ++ Done event r ∷ [];
    list = enters.whole ∙ enters.list ∙ ap (λ (l : List Call). l ++ Done event r ∷ []) (sym enters.seen.1)
        ∙ append_assoc old.list enters.seen.0 (Done event r ∷ []);
    made = (enters.seen.0, [], refl, tt);
    share = enters.share;
  }

  handled : (kept : Bool) (request : Request) (moment nonce : ℕ) (response : List ℕ) (found left : OfficeState D) (old new : PassState Call) (event : Event)
      (result : Result Reply OfficeFault) (end : Ended) → IsEventOf door request moment nonce event → Handles M found left old new event result
      → Tells kept result end response → is_full end ≡ true → AnswersOne kept request moment nonce response old new
  handled kept request moment nonce response found left old new event (Ok r) end is handles tells full =
      entered kept request moment nonce response found left old new event r is (replied kept r end response tells full)
      (says_so kept r end response
      (ap is_answer handles.answer.reply ∙ where_answers (is_some (M.seen found.disk)) found.modes found.end event door request handles.answer.outcome is.asked handles.answer.step)
      tells full)
      handles.answer.entered
  handled kept request moment nonce response found left old new event (Err (fault.Disk before after)) end is handles tells full =
      absurd (true≢false (sym full ∙ ap is_full tells.0))
  handled kept request moment nonce response found left old new event (Err (fault.Stopped before after)) end is handles tells full =
      absurd (true≢false (sym full ∙ ap is_full tells.0))
  handled kept request moment nonce response found left old new event (Err fault.Worn) end is handles tells full =
      absurd (true≢false (sym full ∙ ap is_full tells.0))
  handled kept request moment nonce response found left old new event (Err fault.NoMemory) end is handles tells full =
      absurd (true≢false (sym full ∙ ap is_full tells.0))

  turned : (kept : Bool) (request : Request) (moment nonce : ℕ) (response : List ℕ) (old new : PassState Call) (end : Ended)
      → TurnsAway door request kept moment nonce end response → new ≡ old → is_full end ≡ true → AnswersOne kept request moment nonce response old new
  turned kept request moment nonce response old new (ended.Refused refusal) away same full = record {
    call = None;
    answered = ((refusal, away.0, away.1), refusal_says_so kept refusal moment nonce response away.1);
    calls = [];
    list = ap (λ (p : PassState Call). p.list) same ∙ sym (append-nil old.list);
    made = tt;
    share = ap (λ (p : PassState Call). p.share) same ∙ omega arith;
  }
  turned kept request moment nonce response old new ended.Answered away same full = absurd away
  turned kept request moment nonce response old new ended.Cut away same full = absurd away
  turned kept request moment nonce response old new ended.Bad away same full = absurd cc
  turned kept request moment nonce response old new ended.TooLong away same full = absurd away
  turned kept request moment nonce response old new ended.ReadFault away same full = absurd away
  turned kept request moment nonce response old new ended.WriteFault away same full = absurd away
  turned kept request moment nonce response old new (ended.DiskFault a b) away same full = absurd away
  turned kept request moment nonce response old new (ended.Stopped a b) away same full = absurd away
  turned kept request moment nonce response old new (ended.Full a b) away same full = absurd away
  turned kept request moment nonce response old new ended.Worn away same full = absurd away
  turned kept request moment nonce response old new ended.NoMemory away same full = absurd cc

  pub answers_one : (kept : Bool) (request : Request) (moment nonce : ℕ) (response : List ℕ) (old new : PassState Call) (end : Ended)
      → Replies (AnswersUnder M O old new) (new ≡ old) door request kept moment nonce end response → is_full end ≡ true
      → AnswersOne kept request moment nonce response old new
  answers_one kept request moment nonce response old new end (inl (event, is, answers)) full =
      handled kept request moment nonce response answers.steps.found answers.steps.left old new event answers.result end is answers.steps.handles answers.tells full
  answers_one kept request moment nonce response old new end (inr (away, same)) full = turned kept request moment nonce response old new end away same full

  -- one request
  pub record GoesByOne (kept : Bool) (old new : Moment C N) : Type 0 where
    pub answer : Answer
    pub is : answer.kept ≡ kept
    pub goes : GoesInOrder (answer ∷ []) old new

  pub one_in_order : (is_last : Bool) (old new : Moment C N) (kept : Bool) → ServesRequest M O T R door is_last old new kept → GoesByOne kept old new
  one_in_order is_last old new kept serves =
      let one = answers_one kept serves.request serves.responds.moment serves.responds.nonce serves.response old.caller.pass new.caller.pass serves.end
      serves.responds.replies serves.full in
      let answer : Answer = record {
        request = serves.request;
        moment = serves.responds.moment;
        nonce = serves.responds.nonce;
        call = one.call;
        response = serves.response;
        kept = kept;
      } in
      let drawn = serves.responds.drawn in
      let calls : calls_of (answer ∷ []) ≡ call_of one.call = append-nil (call_of one.call) in
      let text : responses_of (answer ∷ []) ≡ serves.response = append-nil serves.response in record {
        answer = answer;
        is = refl;
        goes = record {
          order = record {
            answered = (one.answered, tt);
            stream = λ stream is rest same. (rest, (serves.allows, serves.begins stream is rest same), refl);
            written = serves.written ∙ ap (appended old.flow.taken) (sym text);
            calls = one.calls;
            list = one.list;
            made = subst (λ (l : List Call). AreAmong l one.calls) (sym calls) one.made;
            share = one.share ∙ ap (λ (l : List Call). old.caller.pass.share + length l) (sym calls);
            drawn = (drawn.from_clock.first, drawn.from_nonces.first, tt);
          };
          tells = serves.tells;
          moments = drawn.from_clock.others;
          nonces = drawn.from_nonces.others;
        };
      }

  -- some requests
  pub record GoesByAll (n : ℕ) (old new : Moment C N) : Type 0 where
    pub answers : List Answer
    pub count : length answers ≡ n
    pub kept : AllByRecursion IsKept answers
    pub goes : GoesInOrder answers old new

  pub all_in_order : (limit n : ℕ) (old new : Moment C N) → ServesRequests M O T R door limit n old new → GoesByAll n old new
  all_in_order limit zero old new same =
      subst (λ (at : Moment C N). GoesByAll 0 old at) (sym same) (record { answers = []; count = refl; kept = tt; goes = order_none old })
  all_in_order limit (suc n) old new (middle, first, last) =
      let before = all_in_order limit n old middle first in
      let one = one_in_order _ middle new true last in record {
        answers = before.answers ++ one.answer ∷ [];
        count = length-append before.answers (one.answer ∷ []) ∙ omega (arith, before.count);
        kept = all_both IsKept before.answers (one.answer ∷ []) before.kept (one.is, tt);
        goes = order_then before.answers (one.answer ∷ []) old middle new before.goes one.goes;
      }

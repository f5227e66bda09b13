-- What the bytes of a response say that an endpoint replied.
use Rattle.std.proofs.Common.{◌≡◌, ◌⊎◌, ℕ, ◌≤◌, false, List, [], ◌++◌, Option, Some, None, length, refl, sym, ap, subst, ◌∙◌, inl, inr, append-nil, arith, codes}
use Rattle.std.specs.Prelude.{Err, IfOk, IfSome, IsTrue, Ok, Result}
use Rattle.answer_laws.specs.ReadBack.{IsAnswer, IsReadAsItself}
use Rattle.as4_doors.specs.Responses.{Carries, IsResponse}
use Rattle.as4_http.specs.Limits.{Limits, the_limits}
use Rattle.as4_http.specs.ReadBack.{IsMedia, IsWithinLimits, response_with}
use Rattle.as4_http.specs.Responses.{BeginsResponse, BeginsResponseWithin}
use Rattle.as4_http.specs.Written.{is_status, response_text}
use Rattle.as4_http.specs.declared.limits.TheConstants.{MAX_BODY}
use Rattle.as4_http.specs.declared.message.Response.{Response}
use Rattle.as4_message.specs.Meaning.{AnswersBy, Copies, Means}
use Rattle.as4_message.specs.declared.received.MessageRefusal.{MessageRefusal}
use Rattle.as4_values.specs.declared.message.Message.{Message}
use Rattle.carrier.proofs.MediaLemmas.{answer_within, body_shorter, quiet_within, wire_is_short}
use Rattle.carrier.specs.Carrying.{IsReply, IsToldBy}
use Rattle.exchange_model.specs.declared.reply.Reply.{Reply}
use Rattle.exchange_model.specs.declared.reply.Reply.TheVariants as reply
use Rattle.message_model.specs.Wire.{IsWire}
use Rattle.office.specs.declared.fault.OfficeFault.{OfficeFault}
use Rattle.office.specs.declared.fault.OfficeFault.TheVariants as fault
use Rattle.sessions.specs.Answering.{Tells, TellsReply}
use Rattle.sessions.specs.declared.ended.Ended.{Ended}
use Rattle.sessions.specs.declared.ended.Ended.TheVariants as ended

-- the laws of responses

abbrev pub OneResponse : Type 0
OneResponse = (limits other : Limits) (stream : List ℕ) (a b : Response) (r q : List ℕ) → BeginsResponseWithin limits stream a r
    → BeginsResponseWithin other stream b q → (a ≡ b) × (r ≡ q)

abbrev pub ReadsClosed : Type 0
ReadsClosed = (status : ℕ) (media : Option (List ℕ)) (body rest : List ℕ) → IsTrue (is_status status) → IfSome media IsMedia
    → IsWithinLimits (response_text status media (codes "close") body) body
    → BeginsResponse (response_text status media (codes "close") body ++ rest) (response_with status media body) rest

-- the response that a stream begins with is the one that was written
written_is_read : OneResponse → ReadsClosed → (status : ℕ) (media : Option (List ℕ)) (body bytes rest : List ℕ) (response : Response) → IsTrue (is_status status)
    → IfSome media IsMedia → IsWithinLimits (response_text status media (codes "close") body) body → bytes ≡ response_text status media (codes "close") body
    → BeginsResponse bytes response rest → response ≡ response_with status media body
written_is_read one reads status media body bytes rest response known is within same begins =
    let text = response_text status media (codes "close") body in
    let first : BeginsResponse text (response_with status media body) [] =
    subst (λ (t : List ℕ). BeginsResponse t (response_with status media body) []) (append-nil text) (reads status media body [] known is within) in
    (one the_limits the_limits text response (response_with status media body) rest [] (subst (λ (t : List ℕ). BeginsResponse t response rest) same begins) first).0

-- the reply whose response was read

pub quiet_read : OneResponse → ReadsClosed → (bytes rest : List ℕ) (response : Response) → IsResponse false reply.Quiet bytes → BeginsResponse bytes response rest
    → response.status ≡ 202
quiet_read one reads bytes rest response is begins =
    ap (λ (r : Response). r.status) (written_is_read one reads 202 None [] bytes rest response refl tt quiet_within is begins)

pub answer_read : OneResponse → ReadsClosed → (m : Message) (bytes rest : List ℕ) (response : Response) (is : Carries false m bytes) → length bytes ≤ MAX_BODY
    → BeginsResponse bytes response rest → response ≡ response_with 200 (Some is.0) is.1
answer_read one reads m bytes rest response (media, body, wire, same) few begins =
    let short = wire_is_short m media body wire in
    let whole : length bytes ≡ length (response_text 200 (Some media) (codes "close") body) = ap length same in
    let within : length body ≤ MAX_BODY = omega (arith, body_shorter media body, whole, few) in
    written_is_read one reads 200 (Some media) body bytes rest response refl short.is (answer_within media body short.short within) same begins

pub reply_read : {E : Type 0} (result : Result Reply E) → OneResponse → ReadsClosed → (bytes rest : List ℕ) (response : Response)
    → length bytes ≤ MAX_BODY → BeginsResponse bytes response rest
    → (response.status ≡ 202 → IfOk result (λ read. read ≡ reply.Quiet))
    → ((m : Message) (media body : List ℕ) → response ≡ response_with 200 (Some media) body → IsWire m media body → IsReadAsItself m
    → IfOk result (λ read. read ≡ reply.Answer m))
    → (r : Reply) → IsResponse false r bytes → IsReply r → IfOk result (λ read. read ≡ r)
reply_read result one reads bytes rest response few begins quiet answer (reply.Answer m) is itself =
    answer m is.0 is.1 (answer_read one reads m bytes rest response is few begins) is.2 itself
reply_read result one reads bytes rest response few begins quiet answer reply.Quiet is itself =
    quiet (quiet_read one reads bytes rest response is begins)
reply_read result one reads bytes rest response few begins quiet answer (reply.Submitted number id) is itself = absurd itself
reply_read result one reads bytes rest response few begins quiet answer reply.NoMode is itself = absurd itself
reply_read result one reads bytes rest response few begins quiet answer reply.OutboxFull is itself = absurd itself
reply_read result one reads bytes rest response few begins quiet answer reply.TooLarge is itself = absurd itself
reply_read result one reads bytes rest response few begins quiet answer (reply.Entry header payloads) is itself = absurd itself
reply_read result one reads bytes rest response few begins quiet answer reply.NoEntry is itself = absurd itself
reply_read result one reads bytes rest response few begins quiet answer reply.Gone is itself = absurd itself
reply_read result one reads bytes rest response few begins quiet answer (reply.Confirmed upto) is itself = absurd itself
reply_read result one reads bytes rest response few begins quiet answer (reply.Pending tries) is itself = absurd itself
reply_read result one reads bytes rest response few begins quiet answer reply.Receipted is itself = absurd itself
reply_read result one reads bytes rest response few begins quiet answer reply.Failed is itself = absurd itself
reply_read result one reads bytes rest response few begins quiet answer (reply.RefusedWith code) is itself = absurd itself
reply_read result one reads bytes rest response few begins quiet answer reply.Unknown is itself = absurd itself
reply_read result one reads bytes rest response few begins quiet answer (reply.Full size need) is itself = absurd itself
reply_read result one reads bytes rest response few begins quiet answer (reply.Stopped before after) is itself = absurd itself
reply_read result one reads bytes rest response few begins quiet answer (reply.Ticked failed) is itself = absurd itself
reply_read result one reads bytes rest response few begins quiet answer (reply.Push address m) is itself = absurd itself
reply_read result one reads bytes rest response few begins quiet answer reply.Nothing is itself = absurd itself
reply_read result one reads bytes rest response few begins quiet answer (reply.Request address m) is itself = absurd itself

-- the answer that was read
pub message_read : (m : Message) (media body : List ℕ) (answer : Result Message MessageRefusal) → IsWire m media body → IsReadAsItself m
    → AnswersBy (λ read. read) answer (Copies (Means media body)) → IfOk answer (λ read. read ≡ m)
message_read m media body (Ok read) wire itself means = itself media body read wire means
message_read m media body (Err refusal) wire itself means = tt

-- how a session ends by what a call made

-- a reply of a full journal, or one with a response of its own
abbrev HasOwn : Reply → Type 0
HasOwn r = IsReply r × ((end : Ended) (bytes : List ℕ) → TellsReply false r end bytes → (end ≡ ended.Answered) × IsResponse false r bytes)

kind : (r : Reply) → IsAnswer r → ((size : ℕ) × (need : ℕ) × (r ≡ reply.Full size need)) ⊎ HasOwn r
kind (reply.Answer m) told = inr (told, λ end bytes tells. tells)
kind reply.Quiet told = inr (tt, λ end bytes tells. tells)
kind (reply.Full size need) told = inl (size, need, refl)
kind (reply.Submitted number id) told = absurd told
kind reply.NoMode told = absurd told
kind reply.OutboxFull told = absurd told
kind reply.TooLarge told = absurd told
kind (reply.Entry header payloads) told = absurd told
kind reply.NoEntry told = absurd told
kind reply.Gone told = absurd told
kind (reply.Confirmed upto) told = absurd told
kind (reply.Pending tries) told = absurd told
kind reply.Receipted told = absurd told
kind reply.Failed told = absurd told
kind (reply.RefusedWith code) told = absurd told
kind reply.Unknown told = absurd told
kind (reply.Stopped before after) told = absurd told
kind (reply.Ticked failed) told = absurd told
kind (reply.Push address m) told = absurd told
kind reply.Nothing told = absurd told
kind (reply.Request address m) told = absurd told

-- what a call made whose session ends with a reply
pub made_reply : (made : Result Reply OfficeFault) (bytes : List ℕ) → Tells false made ended.Answered bytes → IsToldBy made
    → (r : Reply) × (made ≡ Ok r) × IsResponse false r bytes × IsReply r
made_reply (Ok r) bytes tells told = elim (kind r told) [
  | inl (size, need, full) ↦ (let end = (subst (λ (s : Reply). TellsReply false s ended.Answered bytes) full tells).0 in absurd cc)
  | inr own ↦ (r, refl, (own.1 ended.Answered bytes tells).1, own.0)
]
made_reply (Err (fault.Disk a b)) bytes tells told = (let end = tells.0 in absurd cc)
made_reply (Err (fault.Stopped a b)) bytes tells told = (let end = tells.0 in absurd cc)
made_reply (Err fault.Worn) bytes tells told = (let end = tells.0 in absurd cc)
made_reply (Err fault.NoMemory) bytes tells told = (let end = tells.0 in absurd cc)

-- and with a full journal
pub made_full : (made : Result Reply OfficeFault) (size need : ℕ) (bytes : List ℕ) → Tells false made (ended.Full size need) bytes → IsToldBy made
    → made ≡ Ok (reply.Full size need)
made_full (Ok r) size need bytes tells told = elim (kind r told) [
  | inl (s, n, full) ↦ (let end = (subst (λ (t : Reply). TellsReply false t (ended.Full size need) bytes) full tells).0 in let same : reply.Full s n ≡ reply.Full size need = cc in ap Ok (full ∙ same))
  | inr own ↦ (let end = (own.1 (ended.Full size need) bytes tells).0 in absurd cc)
]
made_full (Err (fault.Disk a b)) size need bytes tells told = (let end = tells.0 in absurd cc)
made_full (Err (fault.Stopped a b)) size need bytes tells told = (let end = tells.0 in absurd cc)
made_full (Err fault.Worn) size need bytes tells told = (let end = tells.0 in absurd cc)
made_full (Err fault.NoMemory) size need bytes tells told = (let end = tells.0 in absurd cc)

-- a session that ends otherwise tells of a fault
abbrev pub fault_of : Ended → OfficeFault
fault_of (ended.DiskFault a b) = fault.Disk a b
fault_of (ended.Stopped a b) = fault.Stopped a b
fault_of ended.Worn = fault.Worn
fault_of other = fault.NoMemory

abbrev pub IsHalt : Ended → Type 0
IsHalt (ended.DiskFault a b) = Unit {0}
IsHalt (ended.Stopped a b) = Unit {0}
IsHalt ended.Worn = Unit {0}
IsHalt other = ⊥

pub made_fault : (made : Result Reply OfficeFault) (end : Ended) (bytes : List ℕ) → Tells false made end bytes → IsToldBy made → IsHalt end → made ≡ Err (fault_of end)
made_fault (Ok r) end bytes tells told halts = elim (kind r told) [
  | inl (size, need, full) ↦ absurd (subst IsHalt (subst (λ (s : Reply). TellsReply false s end bytes) full tells).0 halts)
  | inr own ↦ absurd (subst IsHalt (own.1 end bytes tells).0 halts)
]
made_fault (Err (fault.Disk a b)) end bytes tells told halts = ap (λ (e : Ended). Err (fault_of e)) (sym tells.0)
made_fault (Err (fault.Stopped a b)) end bytes tells told halts = ap (λ (e : Ended). Err (fault_of e)) (sym tells.0)
made_fault (Err fault.Worn) end bytes tells told halts = ap (λ (e : Ended). Err (fault_of e)) (sym tells.0)
made_fault (Err fault.NoMemory) end bytes tells told halts = absurd (subst IsHalt tells.0 halts)

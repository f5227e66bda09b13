-- The rows of the events of this endpoint's producer, consumer and transport.
use Rattle.std.proofs.Common.{◌≡◌, ℕ, ◌<◌, ◌≤◌, List, [], ◌∷◌, length, Option, Some, None, option_map, refl, ap, sym, ◌∙◌, subst}
use Rattle.std.specs.Prelude.{MatchOption, slice_get}
use Rattle.std.specs.List.{count_by}
use Rattle.std.specs.Option.{option_and_then}
use Rattle.std.proofs.lemmas.Bool.{le-ltb, lt-leb}
use Rattle.std.proofs.lemmas.Option.{same_Some}
use Rattle.as4_effects.specs.declared.effect.Effect.TheVariants as effect
use Rattle.as4_effects.specs.declared.queue.Queue.TheVariants as queue
use Rattle.as4_effects.specs.declared.submission.Submission.{Submission}
use Rattle.as4_effects.specs.declared.effect.Tick.{Tick}
use Rattle.as4_values.specs.Identifiers.{submission_id}
use Rattle.mode_values.specs.declared.mode.Mode.{Mode}
use Rattle.as4_values.specs.declared.payload.Load.{Load}
use Rattle.as4_values.specs.declared.header.UserHeader.{UserHeader}
use Rattle.as4_values.specs.declared.message.Pair.{Pair}
use Rattle.as4_values.specs.declared.message.Message.{Message}
use Rattle.as4_values.specs.declared.message.Message.TheVariants as message
use Rattle.as4_values.specs.declared.route.Route.{Route}
use Rattle.as4_values.specs.declared.route.Route.TheVariants as route
use Rattle.as4_values.specs.declared.signal.Signal.{Signal}
use Rattle.exchange_model.specs.End.{End}
use Rattle.exchange_model.specs.Questions.{head_of, is_spent, sent_at, standing_of}
use Rattle.as4_codes.specs.Signals.{IsPullOf, IsPairOf}
use Rattle.exchange_model.specs.Submitting.{IsSubmissionOf, address_of}
use Rattle.exchange_model.specs.Table.{AsksBy, AsksWithBy, AsksWithEntry, Gives, Rests, Takes, TakesIn, Ticks, entry_reply, message_of, mark_reply, read_reply, standing_reply}
use Rattle.exchange_model.specs.declared.event.Event.{Event}
use Rattle.exchange_model.specs.declared.inbox_entry.InboxEntry.{InboxEntry}
use Rattle.exchange_model.specs.declared.outcome.Outcome.{Outcome}
use Rattle.exchange_model.specs.declared.reply.Reply.{Reply}
use Rattle.exchange_model.specs.declared.reply.Reply.TheVariants as reply
use Rattle.as4_effects.specs.declared.mark.Mark.{Mark}
use Rattle.as4_effects.specs.declared.mark.Mark.TheVariants as mark
use Rattle.exchange_model.specs.declared.sent.Sent.{Sent}
use Rattle.exchange_model.specs.declared.sent.Standing.{Standing}
use Rattle.exchange_model.specs.declared.sent.Standing.TheVariants as standing
use Rattle.msh_transitions.specs.Free.{IsBare}
use Rattle.msh_transitions.specs.Given.{bare_read, bare_reply}

-- a queue with a head of this number, and the submission of the number
a_head : (P : Type 0) (Q : Sent → Type 0) (o found : Option Sent) (number : ℕ) (submission : Submission)
    → Some number ≡ option_map (λ (s : Sent). s.submission.number) o → found ≡ o
    → Some submission ≡ option_map (λ (s : Sent). s.submission) found
    → ((s : Sent) → number ≡ s.submission.number → submission ≡ s.submission → Q s) → MatchOption o P Q
a_head P Q None found number submission e f g q = absurd cc
a_head P Q (Some s) found number submission e f g q =
    q s (same_Some number s.submission.number e)
    (same_Some submission s.submission (g ∙ ap (option_map (λ (t : Sent). t.submission)) f))

-- the submission that is asked for has these parts
pushed : (number : ℕ) (submission other : Submission) (address : List ℕ) (what : Message) (outcome : Outcome)
    → Gives (effect.Tried number) (reply.Push address what) outcome
    → address ≡ address_of submission.route → what ≡ message_of submission
    → number ≡ other.number → submission ≡ other
    → Gives (effect.Tried other.number) (reply.Push (address_of other.route) (message_of other)) outcome
pushed number submission other address what outcome g a m k s =
    let to : address ≡ address_of other.route = a ∙ ap (λ (x : Submission). address_of x.route) s in
    let says : what ≡ message_of other = m ∙ ap (λ (x : Submission). message_of x) s in
    cc

pub takes_head : (end : End) (number : ℕ) (submission : Submission) (address : List ℕ) (what : Message) (outcome : Outcome)
    → Some number ≡ option_map (λ (s : Sent). s.submission.number) (head_of queue.Push end)
    → sent_at number end.sent ≡ head_of queue.Push end
    → Some submission ≡ option_map (λ (s : Sent). s.submission) (sent_at number end.sent)
    → Gives (effect.Tried number) (reply.Push address what) outcome
    → address ≡ address_of submission.route → what ≡ message_of submission → Takes end outcome
unfolding Takes
takes_head end number submission address what outcome e f got g a m =
    a_head _ _ (head_of queue.Push end) (sent_at number end.sent) number submission e f got
    (λ s k same. pushed number submission s.submission address what outcome g a m k same)

-- Status: the reply about a submission in this state, unless it is refused
abbrev pub told : Standing → Reply
told (standing.Pending tries) = reply.Pending tries
told standing.Receipted = reply.Receipted
told standing.Failed = reply.Failed
told standing.Refused = reply.Unknown

told_mark : (tries : ℕ) (m : Mark) → (standing_of tries m ≡ standing.Refused → ⊥) → told (standing_of tries m) ≡ mark_reply tries m
unfolding standing_of
told_mark tries mark.Pending h = refl
told_mark tries mark.Receipted h = refl
told_mark tries mark.Failed h = refl
told_mark tries (mark.Refused other) h = absurd (h refl)

told_by : (o : Option Sent) (stands : Standing) → Some stands ≡ option_map (λ (s : Sent). standing_of s.tries s.mark) o
    → (stands ≡ standing.Refused → ⊥) → told stands ≡ standing_reply o
told_by None stands e h = absurd cc
told_by (Some s) stands e h =
    let is : stands ≡ standing_of s.tries s.mark = same_Some stands (standing_of s.tries s.mark) e in
    ap told is ∙ told_mark s.tries s.mark (λ r. h (is ∙ r))

pub told_as : (o found : Option Sent) (stands : Standing) → Some stands ≡ option_map (λ (s : Sent). standing_of s.tries s.mark) found
    → found ≡ o → (stands ≡ standing.Refused → ⊥) → told stands ≡ standing_reply o
told_as o found stands e f h = told_by o stands (e ∙ ap (option_map (λ (s : Sent). standing_of s.tries s.mark)) f) h

-- a refused one is refused with a code
refused_mark : (P : Type 0) (tries : ℕ) (m : Mark) → standing_of tries m ≡ standing.Refused
    → ((code : List ℕ) → m ≡ mark.Refused code → P) → P
unfolding standing_of
refused_mark P tries mark.Pending e p = absurd cc
refused_mark P tries mark.Receipted e p = absurd cc
refused_mark P tries mark.Failed e p = absurd cc
refused_mark P tries (mark.Refused code) e p = p code refl

pub no_code : (code_of : Sent → Option (List ℕ)) (o : Option Sent)
    → option_map (λ (s : Sent). standing_of s.tries s.mark) o ≡ Some standing.Refused
    → None ≡ option_and_then code_of o
    → ((s : Sent) (code : List ℕ) → s.mark ≡ mark.Refused code → code_of s ≡ None → ⊥) → ⊥
no_code code_of None e h has = cc
no_code code_of (Some s) e h has =
    refused_mark ⊥ s.tries s.mark (same_Some (standing_of s.tries s.mark) standing.Refused e) (λ code m. has s code m (sym h))

-- the reply about a refused one isn't free: it has the code
pub refused_speaks : (o found : Option Sent) → Some standing.Refused ≡ option_map (λ (s : Sent). standing_of s.tries s.mark) found
    → found ≡ o → IsBare (standing_reply o) → ⊥
refused_speaks None found e f bare =
    let absent : Some standing.Refused ≡ None = e ∙ ap (option_map (λ (s : Sent). standing_of s.tries s.mark)) f in cc
refused_speaks (Some s) found e f bare =
    let is : standing.Refused ≡ standing_of s.tries s.mark =
    same_Some standing.Refused (standing_of s.tries s.mark) (e ∙ ap (option_map (λ (t : Sent). standing_of t.tries t.mark)) f) in
    refused_mark ⊥ s.tries s.mark (sym is) (λ code m. subst (λ (k : Mark). IsBare (mark_reply s.tries k)) m bare)

-- Ask
pub asks_pull : (mpc address copied : List ℕ) (by : Route) (event : Event) (signal : Signal) (outcome : Outcome)
    → by ≡ route.Pull mpc address → copied ≡ address → IsPullOf mpc event.stamp event.nonce signal
    → Rests (reply.Request copied (message.Signal signal)) outcome → AsksBy by event outcome
asks_pull mpc address copied by event signal outcome is same pull rests =
    rw is (signal, pull, rests ∙ ap (λ a. record { effects = []; reply = reply.Request a (message.Signal signal) }) same)

-- AskWith
asks_headed : (header : UserHeader) (mpc address : List ℕ) (event : Event) (found : Option InboxEntry) (outcome : Outcome)
    → option_map (λ (e : InboxEntry). e.header) found ≡ Some header
    → (pair : Pair) × IsPairOf header mpc event.stamp event.nonce pair × Rests (reply.Request address (message.Pair pair)) outcome
    → AsksWithEntry mpc address event found outcome
asks_headed header mpc address event None outcome headed pair = absurd cc
asks_headed header mpc address event (Some entry) outcome headed pair =
    let same : header ≡ entry.header = cc in
    (pair.0, subst (λ h. IsPairOf h mpc event.stamp event.nonce pair.0) same pair.1, pair.2)

pub asks_pair : (by : Route) (end : End) (event : Event) (n : ℕ) (mpc address : List ℕ) (header : UserHeader) (outcome : Outcome)
    → by ≡ route.Pull mpc address → end.confirmed ≤ n → option_map (λ (e : InboxEntry). e.header) (slice_get end.inbox n) ≡ Some header
    → (pair : Pair) × IsPairOf header mpc event.stamp event.nonce pair × Rests (reply.Request address (message.Pair pair)) outcome
    → AsksWithBy by end event n outcome
asks_pair by end event n mpc address header outcome is later at pair =
    rw (is, le-ltb n end.confirmed later) (asks_headed header mpc address event (slice_get end.inbox n) outcome at pair)

-- Read
bare_headed : (header : UserHeader) (found : Option InboxEntry) → option_map (λ (e : InboxEntry). e.header) found ≡ Some header
    → reply.Entry header [] ≡ bare_reply (entry_reply found)
unfolding bare_reply
bare_headed header None headed = absurd cc
bare_headed header (Some entry) headed =
    let same : header ≡ entry.header = cc in
    ap (λ (h : UserHeader). reply.Entry h []) same

pub bare_entry : (end : End) (n : ℕ) (header : UserHeader) → end.confirmed ≤ n
    → option_map (λ (e : InboxEntry). e.header) (slice_get end.inbox n) ≡ Some header → reply.Entry header [] ≡ bare_read end n
unfolding read_reply
bare_entry end n header later at = rw (le-ltb n end.confirmed later) (bare_headed header (slice_get end.inbox n) at)

-- Submit
pub takes_in : (mode : Mode) (end : End) (event : Event) (conversation : Option (List ℕ)) (loads : List Load) (s : Submission)
    (number now : ℕ) (id : List ℕ) (outcome : Outcome)
    → Gives (effect.Submitted s) (reply.Submitted number id) outcome
    → number ≡ length end.sent → now ≡ end.moment → id ≡ submission_id number event.nonce
    → IsSubmissionOf mode number now event.stamp event.nonce conversation loads s
    → TakesIn mode end event conversation loads outcome
takes_in mode end event conversation loads s number now id outcome g k t same is = (
  s,
  subst (λ n. IsSubmissionOf mode n end.moment event.stamp event.nonce conversation loads s) k
      (subst (λ m. IsSubmissionOf mode number m event.stamp event.nonce conversation loads s) t is),
  g ∙ (ap (λ n. record { effects = effect.Submitted s ∷ []; reply = reply.Submitted n id }) (sym is.numbered)
      ∙ ap (λ i. record { effects = effect.Submitted s ∷ []; reply = reply.Submitted s.number i }) (same ∙ sym is.headed.named)),
)

-- Tick
pub ticks : (end : End) (event : Event) (tick : Tick) (failed : ℕ) (outcome : Outcome)
    → Gives (effect.Ticked tick) (reply.Ticked failed) outcome
    → end.moment < event.stamp → tick.moment ≡ event.stamp → failed ≡ count_by (is_spent event.stamp) end.sent
    → Ticks end event outcome
unfolding Ticks
ticks end event tick failed outcome g later at count =
    rw (lt-leb event.stamp end.moment later)
    (tick, at, g ∙ ap (λ n. record { effects = effect.Ticked tick ∷ []; reply = reply.Ticked n }) count)

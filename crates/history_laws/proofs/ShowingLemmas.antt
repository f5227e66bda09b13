-- A message that came is shown to its consumer.
use Rattle.std.proofs.Common.{◌≡◌, inl, inr, ℕ, ◌≤◌, Bool, true, false, List, [], ◌∷◌, ◌++◌, None, length, refl, sym, ap, ◌∙◌, subst, arith}
use Rattle.std.specs.Prelude.{if◌then◌else◌, slice_get}
use Rattle.as4_values.specs.declared.header.UserHeader.{UserHeader}
use Rattle.as4_values.specs.declared.payload.Payload.{Payload}
use Rattle.mode_values.specs.declared.mode.Mode.{Mode}
use Rattle.exchange_model.specs.Apply.{applied}
use Rattle.exchange_model.specs.End.{End}
use Rattle.exchange_model.specs.Questions.{is_known}
use Rattle.exchange_model.specs.Table.{Rests, entry_reply, read_reply}
use Rattle.exchange_model.specs.declared.event.Event.{Event}
use Rattle.exchange_model.specs.declared.outcome.Outcome.{Outcome}
use Rattle.exchange_model.specs.declared.reply.Reply.{Reply}
use Rattle.exchange_model.specs.declared.reply.Reply.TheVariants as reply
use Rattle.exchange_model.specs.declared.what.What.{What}
use Rattle.exchange_model.specs.declared.what.What.TheVariants.{Read}
use Rattle.exchange_laws.proofs.ToldLemmas.{not_below}
use Rattle.msh_transitions.specs.Given.{bare_reply}
use Rattle.office.specs.Calls.{Leads, LeadsWhere, stop_of}
use Rattle.office.specs.Observed.{RepliesToRead, StepWhere}
use Rattle.office.specs.Openings.{LeadsOver, Opening}
use Rattle.office.specs.declared.call.Call.{Call}
use Rattle.office.specs.declared.call.Call.TheVariants.{Done}
use Rattle.history_laws.specs.Agreeing.{AgreesOn, AgreesWhere}
use Rattle.history_laws.specs.Following.{GoesOn}
use Rattle.history_laws.specs.Holding.{IsHeldAt, IsReceipted}
use Rattle.history_laws.proofs.FollowingLemmas.{HasOneOutcome, one_end, split}
use Rattle.history_laws.proofs.HoldingLemmas.{answered_on, delivered_held, held_later}
use Rattle.history_laws.proofs.KeepingLemmas.{keeps_calls}
use Rattle.history_laws.proofs.OpeningLemmas.{OpeningsMayHappen, keeps_later}
use Rattle.history_laws.proofs.UnseenLemmas.{read_shows}

-- a held entry is what a `Read` of its number gives
read_held : (n : ℕ) (header : UserHeader) (payloads : List Payload) (end : End) → IsHeldAt n header payloads end → end.confirmed ≤ n
    → read_reply end n ≡ reply.Entry header payloads
unfolding read_reply
read_held n header payloads end held waiting =
    let headers : held.entry.header ≡ header = held.same in
    let contents : held.entry.payloads ≡ payloads = held.contents waiting in
    let entry : reply.Entry held.entry.header held.entry.payloads ≡ reply.Entry header payloads = cc in
    ap (λ (b : Bool). if b then reply.Gone else entry_reply (slice_get end.inbox n)) (not_below n end.confirmed waiting)
    ∙ ap entry_reply held.there ∙ entry

-- a `Read` of this number
shown_by : (observable : Bool) (modes : List Mode) (end : End) (asked : Event) (outcome : Outcome) (shown known : Reply) (n : ℕ) → asked.what ≡ Read n
    → StepWhere observable modes end asked outcome → shown ≡ outcome.reply → read_reply end n ≡ known → AgreesWhere observable asked.what shown known
shown_by true modes end asked outcome shown known n reads step is knows =
    let rests : Rests (read_reply end n) outcome = read_shows modes end asked outcome n reads step in
    is ∙ ap (λ (o : Outcome). o.reply) rests ∙ knows
shown_by false modes end asked outcome shown known n reads (inl step) is knows =
    let rests : Rests (read_reply end n) outcome = read_shows modes end asked outcome n reads step in
    let same : shown ≡ known = is ∙ ap (λ (o : Outcome). o.reply) rests ∙ knows in
    subst (λ (w : What). AgreesOn w shown known) (sym reads) (inl (ap bare_reply same))
shown_by false modes end asked outcome shown known n reads (inr read) is knows =
    let both : Read read.number ≡ Read n = sym read.asked ∙ reads in
    let same : read.number ≡ n = cc in
    let found : RepliesToRead false end n shown =
    subst (λ (m : ℕ). RepliesToRead false end m shown) same (subst (RepliesToRead false end read.number) (sym is) read.reply) in
    let P : Reply → Type 0 = λ r. AgreesOn (Read n) shown r in
    subst (λ (w : What). AgreesOn w shown known) (sym reads) (subst P knows found)

-- after these calls
shown_after : (observable : Bool) (modes : List Mode) (calls : List Call) (asked : Event) (shown : Reply) (n : ℕ) (header : UserHeader)
    (payloads : List Payload) (here end : End) → IsHeldAt n header payloads here → asked.what ≡ Read n → stop_of calls ≡ None
    → LeadsWhere observable modes here (calls ++ Done asked shown ∷ []) end → end.confirmed ≤ n
    → AgreesWhere observable asked.what shown (reply.Entry header payloads)
shown_after observable modes calls asked shown n header payloads here end held reads going leads waiting =
    let parts = split observable modes calls (Done asked shown ∷ []) here end leads in
    let mid : End = parts.0 in
    let last : LeadsWhere observable modes mid (Done asked shown ∷ []) end =
    subst (λ stop. GoesOn observable modes stop mid (Done asked shown ∷ []) end) going parts.2 in
    let less : mid.confirmed ≤ end.confirmed = (keeps_calls observable modes (Done asked shown ∷ []) mid end last).confirmed in
    let still = held_later n header payloads here mid (keeps_calls observable modes calls here mid parts.1) held in
    shown_by observable modes mid asked last.0 shown (reply.Entry header payloads) n reads last.1 last.2
    (read_held n header payloads mid still (omega arith))

pub shown_on : (observable : Bool) (modes : List Mode) (more : List Call) (event asked : Event) (r shown : Reply) (header : UserHeader)
    (payloads : List Payload) (start end : End) → IsReceipted header payloads event r → is_known header.id start.inbox ≡ false
    → asked.what ≡ Read (length start.inbox) → stop_of more ≡ None
    → LeadsWhere observable modes start (Done event r ∷ more ++ Done asked shown ∷ []) end → end.confirmed ≤ length start.inbox
    → AgreesWhere observable asked.what shown (reply.Entry header payloads)
shown_on observable modes more event asked r shown header payloads start end receipted new reads going (outcome, step, is, rest) waiting =
    let next : End = applied outcome.effects start in
    let held = delivered_held observable modes [] event r header payloads start next receipted new (outcome, step, is, refl) in
    shown_after observable modes more asked shown (length start.inbox) header payloads next end held reads going rest waiting

module _ (one : HasOneOutcome) (may_happen : OpeningsMayHappen) where
  pub shown_over : (observable : Bool) (opening : Opening) (later : List Opening) (modes : List Mode) (before more calls : List Call)
      (event asked : Event) (r shown : Reply) (header : UserHeader) (payloads : List Payload) (start here next end : End)
      → opening.calls ≡ before ++ Done event r ∷ more → Leads opening.modes start before here → IsReceipted header payloads event r
      → is_known header.id here.inbox ≡ false → LeadsOver (opening ∷ later) start next → asked.what ≡ Read (length here.inbox)
      → stop_of calls ≡ None → LeadsWhere observable modes next (calls ++ Done asked shown ∷ []) end → end.confirmed ≤ length here.inbox
      → AgreesWhere observable asked.what shown (reply.Entry header payloads)
  shown_over observable opening later modes before more calls event asked r shown header payloads start here next end is led receipted new over reads going leads waiting =
      let first = keeps_later may_happen opening later start next over in
      let there : End = first.0 in
      let parts = split true opening.modes before (Done event r ∷ more) start there
      (subst (λ (l : List Call). Leads opening.modes start l there) is first.1) in
      let same : parts.0 ≡ here = one_end one true opening.modes before start parts.0 here parts.1 led in
      let goes : LeadsWhere true opening.modes here (Done event r ∷ more) there =
      subst (λ (e : End). LeadsWhere true opening.modes e (Done event r ∷ more) there) same
      (answered_on true opening.modes (stop_of before) more event r header payloads parts.0 there receipted parts.2) in
      let held = delivered_held true opening.modes more event r header payloads here there receipted new goes in
      shown_after observable modes calls asked shown (length here.inbox) header payloads next end
      (held_later (length here.inbox) header payloads there next first.2 held) reads going leads waiting

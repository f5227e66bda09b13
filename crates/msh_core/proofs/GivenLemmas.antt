-- The outcomes that are given to events, and the steps of the machine's table.
use Rattle.std.proofs.Common.{◌≡◌, ℕ, ◌<◌, ◌≤◌, List, [], Bool, true, false, nat_lt, Option, Some, None, length, refl, sym, ap, subst, ◌∙◌, ◌⊎◌, inl, inr}
use Rattle.std.specs.Prelude.{if◌then◌else◌}
use Rattle.std.specs.List.{slice_get}
use Rattle.std.proofs.lemmas.Bool.{lt-ltb, ltb-false}
use Rattle.std.proofs.lemmas.Option.{slice_get_past}
use Rattle.as4_values.specs.declared.payload.Payload.{Payload}
use Rattle.mode_values.specs.declared.mode.Mode.{Mode}
use Rattle.exchange_model.specs.End.{End}
use Rattle.exchange_model.specs.Table.{IsLimited, Rests, RowOf, Step, entry_reply, has_room, read_reply}
use Rattle.exchange_model.specs.declared.event.Event.{Event}
use Rattle.exchange_model.specs.declared.inbox_entry.InboxEntry.{InboxEntry}
use Rattle.exchange_model.specs.declared.outcome.Outcome.{Outcome}
use Rattle.exchange_model.specs.declared.reply.Reply.{Reply}
use Rattle.exchange_model.specs.declared.reply.Reply.TheVariants as reply
use Rattle.exchange_model.specs.declared.what.What.{What}
use Rattle.exchange_model.specs.declared.what.What.TheVariants as what
use Rattle.msh_transitions.specs.Given.{GivesRow, bare_read, bare_reply}
use Rattle.msh_core.specs.Machine.{IsGiven, filled, filled_reply}

-- a row that the journal has room for is given
pub limited_given : (modes : List Mode) (end : End) (event : Event) (row outcome : Outcome) → GivesRow modes end event event.what row
    → IsLimited end row outcome → IsGiven modes end event outcome
limited_given modes end event row outcome given limited = record { row = row; given = given; limited = limited }

-- a row without effects is the outcome
pub rests_outcome : (end : End) (r : Reply) (row outcome : Outcome) → Rests r row → IsLimited end row outcome → Rests r outcome
unfolding has_room
rests_outcome end r row outcome rests limited = subst (λ (o : Outcome). IsLimited end o outcome) rests limited

rests_limited : (end : End) (r : Reply) (outcome : Outcome) → Rests r outcome → IsLimited end (record { effects = []; reply = r }) outcome
unfolding has_room
rests_limited end r outcome rests = rests

-- the row of any event but `Read` is that of the table
other_row : (modes : List Mode) (end : End) (event : Event) (asked : What) (row : Outcome) → ((n : ℕ) → asked ≡ what.Read n → ⊥)
    → GivesRow modes end event asked row → RowOf modes end event asked row
other_row modes end event (what.Read n) row other given = absurd (other n refl)
other_row modes end event asked row other given = given

-- so the outcome of any other event is a step
pub other_step : (modes : List Mode) (end : End) (event : Event) (outcome : Outcome) → ((n : ℕ) → event.what ≡ what.Read n → ⊥)
    → IsGiven modes end event outcome → Step modes end event outcome
other_step modes end event outcome other g =
    record { row = g.row; decided = other_row modes end event event.what g.row other g.given; limited = g.limited }

-- the row of an outcome that changes something is that of the table
changing_row : (modes : List Mode) (end : End) (event : Event) (asked : What) (row outcome : Outcome) → (outcome.effects ≡ [] → ⊥)
    → GivesRow modes end event asked row → IsLimited end row outcome → RowOf modes end event asked row
changing_row modes end event (what.Read n) row outcome some given limited =
    absurd (some (ap (λ (o : Outcome). o.effects) (rests_outcome end (bare_read end n) row outcome given limited)))
changing_row modes end event asked row outcome some given limited = given

-- so an outcome that changes something is a step
pub given_step : (modes : List Mode) (end : End) (event : Event) (outcome : Outcome) → (outcome.effects ≡ [] → ⊥)
    → IsGiven modes end event outcome → Step modes end event outcome
given_step modes end event outcome some g =
    record { row = g.row; decided = changing_row modes end event event.what g.row outcome some g.given g.limited; limited = g.limited }

-- the reply to `Read`, with the payloads of the open entry
place_filled : (b : Bool) (found : Option InboxEntry) (payloads : List Payload) → (b ≡ false → (entry : InboxEntry) → found ≡ Some entry → payloads ≡ entry.payloads)
    → filled_reply payloads (bare_reply (if b then reply.Gone else entry_reply found)) ≡ (if b then reply.Gone else entry_reply found)
unfolding bare_reply
place_filled true found payloads are = refl
place_filled false None payloads are = refl
place_filled false (Some entry) payloads are = ap (λ p. reply.Entry entry.header p) (are refl entry refl)

pub read_filled : (end : End) (n : ℕ) (payloads : List Payload)
    → ((entry : InboxEntry) → end.confirmed ≤ n → slice_get end.inbox n ≡ Some entry → payloads ≡ entry.payloads)
    → filled_reply payloads (bare_read end n) ≡ read_reply end n
unfolding read_reply
read_filled end n payloads are =
    place_filled (nat_lt n end.confirmed) (slice_get end.inbox n) payloads (λ waits entry there. are entry (ltb-false _ _ waits) there)

-- and where there is no open entry
gone_bare : (b : Bool) (found : Option InboxEntry) → b ≡ true
    → bare_reply (if b then reply.Gone else entry_reply found) ≡ (if b then reply.Gone else entry_reply found)
unfolding bare_reply
gone_bare true found gone = refl
gone_bare false found gone = absurd cc

none_bare : (b : Bool) (found : Option InboxEntry) → found ≡ None
    → bare_reply (if b then reply.Gone else entry_reply found) ≡ (if b then reply.Gone else entry_reply found)
unfolding bare_reply
none_bare true found none = refl
none_bare false None none = refl
none_bare false (Some entry) none = absurd cc

pub closed_bare : (end : End) (n : ℕ) → (n < end.confirmed) ⊎ (length end.inbox ≤ n) → bare_read end n ≡ read_reply end n
unfolding read_reply
closed_bare end n (inl gone) = gone_bare (nat_lt n end.confirmed) (slice_get end.inbox n) (lt-ltb _ _ gone)
closed_bare end n (inr past) = none_bare (nat_lt n end.confirmed) (slice_get end.inbox n) (slice_get_past end.inbox n past)

-- the outcome of `Read`
pub read_outcome : (modes : List Mode) (end : End) (event : Event) (outcome : Outcome) (n : ℕ) → event.what ≡ what.Read n
    → IsGiven modes end event outcome → Rests (bare_read end n) outcome
read_outcome modes end event outcome n is g =
    rests_outcome end (bare_read end n) g.row outcome (subst (λ w. GivesRow modes end event w g.row) is g.given) g.limited

pub read_step : (modes : List Mode) (end : End) (event : Event) (outcome : Outcome) (n : ℕ) → event.what ≡ what.Read n
    → Rests (read_reply end n) outcome → Step modes end event outcome
read_step modes end event outcome n is rests = record {
  row = record { effects = []; reply = read_reply end n };
  decided = subst (λ w. RowOf modes end event w (record { effects = []; reply = read_reply end n })) (sym is) refl;
  limited = rests_limited end (read_reply end n) outcome rests;
}

-- the outcome of `Read`, with the payloads of the open entry, is a step
pub filled_step : (modes : List Mode) (end : End) (event : Event) (outcome : Outcome) (n : ℕ) (payloads : List Payload) → event.what ≡ what.Read n
    → IsGiven modes end event outcome
    → ((entry : InboxEntry) → end.confirmed ≤ n → slice_get end.inbox n ≡ Some entry → payloads ≡ entry.payloads)
    → Step modes end event (filled payloads outcome)
filled_step modes end event outcome n payloads is g are =
    read_step modes end event (filled payloads outcome) n is
    (ap (filled payloads) (read_outcome modes end event outcome n is g)
    ∙ ap (λ r. record { effects = []; reply = r }) (read_filled end n payloads are))

-- and so is the outcome of `Read` where there is no open entry
pub closed_step : (modes : List Mode) (end : End) (event : Event) (outcome : Outcome) (n : ℕ) → event.what ≡ what.Read n
    → IsGiven modes end event outcome → (n < end.confirmed) ⊎ (length end.inbox ≤ n) → Step modes end event outcome
closed_step modes end event outcome n is g closed =
    read_step modes end event outcome n is
    (read_outcome modes end event outcome n is g ∙ ap (λ r. record { effects = []; reply = r }) (closed_bare end n closed))

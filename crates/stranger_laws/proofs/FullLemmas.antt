-- The reply that the journal is full has its cause.
use Rattle.std.proofs.Common.{◌≡◌, ℕ, ◌+◌, ◌*◌, ◌<◌, ◌≤◌, ◌⊎◌, inl, inr, List, [], ◌∷◌, ◌++◌, Bool, true, false, Option, Some, None, length, length-append, map, refl, sym, ap, ◌∙◌, subst, arith}
use Rattle.std.specs.Prelude.{not, ◌==◌, ◌||◌, nat_le, nat_lt, slice_get, if◌then◌else◌}
use Rattle.std.specs.List.{AllByRecursion, IsDistinct, cons_option, filter_map, flat_map, list_any}
use Rattle.std.specs.Option.{option_and_then, option_or}
use Rattle.std.proofs.Math.Dec.{eqb}
use Rattle.std.proofs.lemmas.Bool.{eqb-true, ne_eqb}
use Rattle.std.proofs.lemmas.Bool.Decides.{nat_tests}
use Rattle.std.proofs.lemmas.List.{length-map}
use Rattle.std.proofs.lemmas.Map.Steps.{length-le_from_distinct_below}
use Rattle.std.proofs.lemmas.Option.{same_Some}
use Rattle.as4_effects.proofs.LengthLemmas.{number_length}
use Rattle.as4_effects.specs.Bodies.{number_body, text_body}
use Rattle.as4_effects.specs.Effects.{effect_body, effects_body}
use Rattle.as4_effects.specs.declared.effect.Effect.{Effect}
use Rattle.as4_effects.specs.declared.effect.Effect.TheVariants as effect
use Rattle.mode_values.specs.ModeMatch.{mode_named}
use Rattle.mode_values.specs.declared.mode.Mode.{Mode}
use Rattle.as4_values.specs.declared.message.Message.{Message}
use Rattle.as4_values.specs.declared.message.Message.TheVariants as message
use Rattle.as4_values.specs.declared.route.Route.{Route}
use Rattle.as4_values.specs.declared.route.Route.TheVariants as route
use Rattle.as4_values.specs.declared.signal_body.ErrorItem.{ErrorItem}
use Rattle.as4_values.specs.declared.signal_body.Severity.{Severity}
use Rattle.as4_values.specs.declared.signal_body.Severity.TheVariants.{Failure, Warning}
use Rattle.as4_values.specs.declared.signal_body.SignalBody.{SignalBody}
use Rattle.as4_values.specs.declared.signal_body.SignalBody.TheVariants as body
use Rattle.exchange_model.specs.Apply.{record_len}
use Rattle.exchange_model.specs.End.{End}
use Rattle.exchange_model.specs.Questions.{is_pending, sent_of}
use Rattle.exchange_model.specs.Refusing.{Rejection, once, refusal_by, refusal_of, refusal_with, refusals_of}
use Rattle.exchange_model.specs.Room.{HasRoomForOne}
use Rattle.exchange_model.specs.Table.{Asks, AsksBy, AsksWith, AsksWithBy, AsksWithEntry, Comes, Confirms, RowOf, SignalComes, Step, Ticks, has_room, journal_limit}
use Rattle.exchange_model.specs.declared.event.Event.{Event}
use Rattle.exchange_model.specs.declared.inbox_entry.InboxEntry.{InboxEntry}
use Rattle.exchange_model.specs.declared.outcome.Outcome.{Outcome}
use Rattle.exchange_model.specs.declared.reply.Reply.{Reply}
use Rattle.exchange_model.specs.declared.reply.Reply.TheVariants as reply
use Rattle.exchange_model.specs.declared.sent.Sent.{Sent}
use Rattle.exchange_model.specs.declared.what.What.{What}
use Rattle.exchange_model.specs.declared.what.What.TheVariants as what
use Rattle.exchange_model.proofs.ListLemmas.{Has, has_filtered}
use Rattle.exchange_laws.proofs.EndSteps.{by_option, by_bool}
use Rattle.exchange_laws.proofs.InboxLemmas.{or_either}
use Rattle.exchange_laws.proofs.ListLemmas.{contains_had}
use Rattle.exchange_laws.proofs.RefusalLemmas.{AreApart, once_apart}
use Rattle.exchange_laws.proofs.RoomLemmas.{IsSmall, pair_small, pull_small, receipt_small, row_taken, submits_small, takes_small, user_small}
use Rattle.stranger_laws.specs.NoRoom.{AreCodes, HasCodes, IsOutOfRoom}
use Rattle.stranger_laws.proofs.RefusalLemmas.{effects_of}
use Rattle.stranger_laws.proofs.ReplyLemmas.{Suits, row_suits}

-- the rejection of a submission with an error code
pub record IsShort (r : Rejection) : Type 0 where
  pub below : r.number < 1048576
  pub code : length r.code ≤ 64

short_by : (severity : Severity) (code : List ℕ) (about : Option (List ℕ)) (sent : List Sent) (r : Rejection) → length code ≤ 64
    → refusal_by severity code about sent ≡ Some r → IsShort r
short_by Warning code about sent r short e = absurd cc
short_by Failure code None sent r short e = absurd cc
short_by Failure code (Some id) sent r short e = by_found (sent_of id sent) e
  where
    by_pending : (s : Sent) (b : Bool) → (if b then Some (record { number = s.submission.number; code = code }) else None) ≡ Some r → IsShort r
    by_pending s true f = subst IsShort (same_Some _ r f) (record { below = s.submission.numbered; code = short })
    by_pending s false f = absurd cc

    by_found : (o : Option Sent) → option_and_then (refusal_with code) o ≡ Some r → IsShort r
    by_found None f = absurd cc
    by_found (Some s) f = by_pending s (is_pending s) f

-- what holds of the result of each item holds of each result
each_result : {X Y : Type 0} (P : Y → Type 0) (f : X → Option Y) (xs : List X) → ((x : X) → Has xs x → (y : Y) → f x ≡ Some y → P y)
    → (y : Y) → Has (filter_map f xs) y → P y
each_result P f [] all y h = absurd h
each_result {Y = Y} P f (x ∷ xs) all y h =
    by_result (f x) (all x (inl refl) y) (each_result P f xs (λ z k. all z (inr k)) y) h
  where
    by_result : (o : Option Y) → (o ≡ Some y → P y) → (Has (filter_map f xs) y → P y) → Has (cons_option o (filter_map f xs)) y → P y
    by_result None first rest k = rest k
    by_result (Some z) first rest (inl e) = first (ap Some e)
    by_result (Some z) first rest (inr k) = rest k

each_once : (P : Rejection → Type 0) (refusals : List Rejection) → ((r : Rejection) → Has refusals r → P r) → (r : Rejection)
    → Has (once refusals) r → P r
unfolding once
each_once P [] all r h = absurd h
each_once P (first ∷ refusals) all r (inl e) = all r (inl e)
each_once P (first ∷ refusals) all r (inr h) =
    each_once P refusals (λ x k. all x (inr k)) r (has_filtered (λ (later : Rejection). not (later.number == first.number)) (once refusals) r h).0

-- no two have the same number, and each number is below the limit, so they are few

none_same : (n : ℕ) (refusals : List Rejection) → ((r : Rejection) → Has refusals r → r.number ≡ n → ⊥)
    → AllByRecursion (λ y. eqb n y ≡ false) (map (λ (r : Rejection). r.number) refusals)
none_same n [] other = tt
none_same n (r ∷ refusals) other = (ne_eqb n r.number (λ e. other r (inl refl) (sym e)), none_same n refusals (λ x h. other x (inr h)))

distinct : (refusals : List Rejection) → AreApart refusals → IsDistinct eqb (map (λ (r : Rejection). r.number) refusals)
unfolding IsDistinct
distinct [] apart = tt
distinct (r ∷ refusals) apart = (none_same r.number refusals apart.0, distinct refusals apart.1)

all_below : (refusals : List Rejection) → ((r : Rejection) → Has refusals r → IsShort r) → (q : ℕ)
    → list_any (eqb q) (map (λ (r : Rejection). r.number) refusals) ≡ true → q < 1048576
all_below [] short q e = absurd cc
all_below (r ∷ refusals) short q e =
    elim (or_either (eqb q r.number) (list_any (eqb q) (map (λ (x : Rejection). x.number) refusals)) e) [
      | inl same ↦ omega (arith, eqb-true q r.number same, (short r (inl refl)).below)
      | inr later ↦ all_below refusals (λ x h. short x (inr h)) q later
    ]

few : (refusals : List Rejection) → AreApart refusals → ((r : Rejection) → Has refusals r → IsShort r) → length refusals ≤ 1048576
few refusals apart short =
    let most = length-le_from_distinct_below (map (λ (r : Rejection). r.number) refusals) 1048576 (distinct refusals apart) (all_below refusals short) in
    omega (arith, most, length-map refusals (λ (r : Rejection). r.number))

-- each takes at most 77 bytes
one_length : (number : ℕ) (code : List ℕ) → length (effect_body (effect.Refused number code)) ≡ length code + 13
unfolding effect_body text_body
one_length number code =
    simp length-append (omega (arith, number_length 8 number, number_length 4 (length code), length-append (number_body 8 number) (number_body 4 (length code) ++ code), length-append (number_body 4 (length code)) code))

all_length : (refusals : List Rejection) → ((r : Rejection) → Has refusals r → IsShort r)
    → length (flat_map effect_body (effects_of refusals)) ≤ 77 * length refusals
all_length [] short = omega arith
all_length (r ∷ refusals) short =
    let rest = all_length refusals (λ x h. short x (inr h)) in
    let one = one_length r.number r.code in
    let code = (short r (inl refl)).code in
    let both = length-append (effect_body (effect.Refused r.number r.code)) (flat_map effect_body (effects_of refusals)) in
    omega (arith, rest, one, code, both)

errors_length : (refusals : List Rejection) → AreApart refusals → ((r : Rejection) → Has refusals r → IsShort r)
    → record_len (effects_of refusals) ≤ 80740363
unfolding record_len effects_body
errors_length refusals apart short =
    let sum = all_length refusals short in
    let count = few refusals apart short in
    let both = length-append (number_body 2 (length (effects_of refusals))) (flat_map effect_body (effects_of refusals)) in
    omega (arith, sum, count, both, number_length 2 (length (effects_of refusals)))

or_any : (a b : Bool) → b ≡ true → (a || b) ≡ true
or_any true b e = refl
or_any false b e = e

roomy_for : (end : End) (effects : List Effect) → HasRoomForOne end → record_len effects ≤ 80740363 → has_room end effects ≡ true
unfolding has_room
roomy_for end effects room short =
    or_any (length effects == 0) (nat_le (end.size + record_len effects) journal_limit) (within (end.size + record_len effects) (omega (arith, room, short)))
  where
    within : (n : ℕ) → n ≤ journal_limit → nat_le n journal_limit ≡ true
    within n less = grind (arith, nat_tests)

-- with room for any effect there is room for the row
abbrev pub HasRoomFor : End → Outcome → Type 0
HasRoomFor end row = IsSmall row.effects ⊎ (has_room end row.effects ≡ true)

rests_small : {r : Reply} (row : Outcome) → row ≡ record { effects = []; reply = r } → IsSmall row.effects
rests_small row e = subst (λ (o : Outcome). IsSmall o.effects) (sym e) tt

numbered_small : (kind number : ℕ) → length (kind ∷ number_body 8 number) ≤ 536870910
numbered_small kind number = omega (arith, number_length 8 number)

ticks_small : (end : End) (event : Event) (row : Outcome) → Ticks end event row → IsSmall row.effects
unfolding Ticks effect_body
ticks_small end event row h =
    by_bool _ _ _ (nat_le event.stamp end.moment) h (λ _. rests_small row)
    (λ _ t. subst (λ (o : Outcome). IsSmall o.effects) (sym t.2) (numbered_small 2 t.0.moment))

asks_small : (modes : List Mode) (event : Event) (name : List ℕ) (row : Outcome) → Asks modes event name row → IsSmall row.effects
unfolding Asks
asks_small modes event name row h = by_option _ _ _ (mode_named modes name) h (rests_small row) (λ mode _. asked mode.route)
  where
    asked : (r : Route) → AsksBy r event row → IsSmall row.effects
    asked (route.Push address) k = rests_small row k
    asked (route.Pull mpc address) k = rests_small row k.2

asks_with_small : (modes : List Mode) (end : End) (event : Event) (name : List ℕ) (n : ℕ) (row : Outcome) → AsksWith modes end event name n row
    → IsSmall row.effects
unfolding AsksWith
asks_with_small modes end event name n row h = by_option _ _ _ (mode_named modes name) h (rests_small row) (λ mode _. asked mode.route)
  where
    paired : (mpc address : List ℕ) (o : Option InboxEntry) → AsksWithEntry mpc address event o row → IsSmall row.effects
    paired mpc address None k = rests_small row k
    paired mpc address (Some entry) k = rests_small row k.2

    asked : (r : Route) → AsksWithBy r end event n row → IsSmall row.effects
    asked (route.Push address) k = rests_small row k
    asked (route.Pull mpc address) k =
        by_bool _ _ _ (nat_lt n end.confirmed) k (λ _. rests_small row) (λ _. paired mpc address (slice_get end.inbox n))

confirms_small : (end : End) (upto : ℕ) (row : Outcome) → Confirms end upto row → IsSmall row.effects
unfolding Confirms effect_body
confirms_small end upto row h =
    by_bool _ _ _ (nat_lt upto end.confirmed) h (λ _. rests_small row) (λ _ k.
    by_bool _ _ _ (nat_le (length end.inbox) upto) k (λ _. rests_small row) (λ _ g.
    subst (λ (o : Outcome). IsSmall o.effects) (sym g) (numbered_small 7 upto)))

errors_fit : (end : End) (ref_to : Option (List ℕ)) (items : List ErrorItem) (row : Outcome) → AreCodes (body.Errors items) → HasRoomForOne end
    → row ≡ record { effects = refusals_of ref_to end.sent items; reply = reply.Quiet } → has_room end row.effects ≡ true
unfolding refusals_of
errors_fit end ref_to items row codes room e =
    subst (λ (o : Outcome). has_room end o.effects ≡ true) (sym e)
    (roomy_for end (effects_of (once rejections)) room (errors_length (once rejections) (once_apart rejections) short))
  where
    rejections : List Rejection
    rejections = filter_map (refusal_of ref_to end.sent) items

    short : (r : Rejection) → Has (once rejections) r → IsShort r
    short = each_once IsShort rejections (each_result IsShort (refusal_of ref_to end.sent) items (λ item there r found.
        short_by item.severity item.code (option_or item.about ref_to) end.sent r (codes item (contains_had items item there)).limited found))

comes_fits : (modes : List Mode) (end : End) (event : Event) (m : Message) (row : Outcome) → HasCodes (what.Came m) → HasRoomForOne end
    → Comes modes end event m row → HasRoomFor end row
comes_fits modes end event (message.User header payloads) row codes room h = inl (user_small modes end event header payloads row h)
comes_fits modes end event (message.Pair pair) row codes room h = inl (pair_small modes end event pair row h)
comes_fits modes end event (message.Signal signal) row codes room h = by_body signal.body codes h
  where
    by_body : (b : SignalBody) → AreCodes b → SignalComes modes end event signal.id signal.ref_to b row → HasRoomFor end row
    by_body (body.Pull mpc) codes k = inl (pull_small modes end event signal.id mpc row k)
    by_body (body.Receipt copy) codes k = inl (receipt_small end event signal.id signal.ref_to copy row k)
    by_body (body.Errors items) codes k = inr (errors_fit end signal.ref_to items row codes room k)

pub row_fits : (modes : List Mode) (end : End) (event : Event) (w : What) (row : Outcome) → HasCodes w → HasRoomForOne end
    → RowOf modes end event w row → HasRoomFor end row
row_fits modes end event (what.Submit mode conversation loads) row codes room h = inl (submits_small modes end event mode conversation loads row h)
row_fits modes end event what.Tick row codes room h = inl (ticks_small end event row h)
row_fits modes end event what.Take row codes room h = inl (takes_small end row h)
row_fits modes end event (what.Ask mode) row codes room h = inl (asks_small modes event mode row h)
row_fits modes end event (what.AskWith mode n) row codes room h = inl (asks_with_small modes end event mode n row h)
row_fits modes end event (what.Came m) row codes room h = comes_fits modes end event m row codes room h
row_fits modes end event (what.Read n) row codes room h = inl (rests_small row h)
row_fits modes end event (what.Confirm upto) row codes room h = inl (confirms_small end upto row h)
row_fits modes end event (what.Status id) row codes room h = inl (rests_small row h)

-- a record that the journal has no room for
past_limit : (end : End) (effects : List Effect) → has_room end effects ≡ false → journal_limit < end.size + record_len effects
unfolding has_room
past_limit end effects none = above (end.size + record_len effects) (or_none (length effects == 0) _ none)
  where
    or_none : (a b : Bool) → (a || b) ≡ false → b ≡ false
    or_none true b e = absurd cc
    or_none false b e = e

    above : (n : ℕ) → nat_le n journal_limit ≡ false → journal_limit < n
    above n e = grind (arith, nat_tests)

pub full_for_cause : (modes : List Mode) (end : End) (event : Event) (outcome : Outcome) (size need : ℕ) → Step modes end event outcome
    → outcome.reply ≡ reply.Full size need → IsOutOfRoom end event.what outcome size need
full_for_cause modes end event outcome size need step told =
    by_bool _ _ _ (has_room end step.row.effects) step.limited (λ _ same. absurd (not_row same)) out
  where
    not_row : outcome ≡ step.row → ⊥
    not_row same =
        subst (Suits event.what) told (subst (λ (o : Outcome). Suits event.what o.reply) (sym same)
        (row_suits modes end event event.what step.row step.decided))

    no_room : has_room end step.row.effects ≡ false → HasCodes event.what → HasRoomForOne end → ⊥
    no_room none codes room = elim (row_fits modes end event event.what step.row codes room step.decided) [
      | inl small ↦ not_row (row_taken end step.row outcome step.limited (inr (room, small)))
      | inr has ↦ (let no : false ≡ true = sym none ∙ has in absurd cc)
    ]

    out : has_room end step.row.effects ≡ false → outcome ≡ record { effects = []; reply = reply.Full end.size (record_len step.row.effects) }
        → IsOutOfRoom end event.what outcome size need
    out none full =
        let both : reply.Full end.size (record_len step.row.effects) ≡ reply.Full size need = sym (ap (λ (o : Outcome). o.reply) full) ∙ told in
        let one : record_len step.row.effects ≡ need = cc in
        record {
          size = (let same : end.size ≡ size = cc in sym same);
          past = subst (λ n. journal_limit < end.size + n) one (past_limit end step.row.effects none);
          unchanged = ap (λ (o : Outcome). o.effects) full;
          no_room = no_room none;
        }

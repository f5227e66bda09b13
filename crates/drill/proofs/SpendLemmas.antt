-- How many events the lines of the generated world make, and how many messages they leave to be pushed.
use Rattle.std.proofs.Common.{◌≡◌, ◌≢◌, ℕ, ◌+◌, ◌*◌, ◌<◌, ◌≤◌, ◌⊎◌, inl, inr, List, [], ◌∷◌, ◌++◌, Bool, true, false, ◌%◌, ◌==◌, if◌then◌else◌, length, Option, None, Some, refl, sym, ◌∙◌, ap, subst, arith, length-append}
use Rattle.std.specs.Prelude.{nat_eq, not}
use Rattle.std.proofs.lemmas.Bool.Decides.{nat_tests}
use Rattle.std.proofs.lemmas.List.Sums.{count_by-le-length}
use Rattle.as4_values.specs.declared.message.Message.{Message}
use Rattle.drill_world.specs.Events.{Doing, Sets, Does, Stops, Reopens, Folds, Says, comes, package_for}
use Rattle.drill.specs.Generated.{Leads, Pushes, PushesNone, carried, carried_both, transmission, ticks_a}
use Rattle.drill.specs.Generating.{Grows, IsPushed, handed, may_be_pushed, to_push}
use Rattle.drill_world.specs.Transcript.{Acts, Plays, PlaysAll, DrillState, doing_of, events_limit, running_of}
use Rattle.drill.proofs.PushLemmas.{IsCalm, TakeResult, Is_pushed, None_pushed, calm_none, came_calm, submit_hands, take_calm, take_result, tick_hands}
use Rattle.drill_script.specs.declared.line.EndName.{EndName}
use Rattle.drill_script.specs.declared.line.EndName.TheVariants as name
use Rattle.drill_script.specs.declared.line.Line.{Line}
use Rattle.drill_script.specs.declared.line.Line.TheVariants as line
use Rattle.drill_script.specs.declared.line.Stoppable.TheVariants as run
use Rattle.drill_script.specs.declared.line.ScriptLoad.{ScriptLoad}
use Rattle.as4_effects.specs.declared.effect.Effect.TheVariants as effect
use Rattle.exchange_model.specs.Apply.{applied}
use Rattle.exchange_model.specs.End.{End}
use Rattle.exchange_model.specs.Table.{has_room}
use Rattle.exchange_model.specs.World.{sends}
use Rattle.exchange_model.specs.declared.outcome.Outcome.{Outcome}
use Rattle.exchange_model.specs.declared.sent.Sent.{Sent}

-- each line makes one event or none
pub line_events : (l : Line) (doing : Doing) (old new : DrillState) (text : List ℕ) → Plays l doing old text new
    → (new.events ≡ old.events) ⊎ (new.events ≡ old.events + 1)
line_events (line.Mode name link way retries period) doing old new text plays = inl (ap (λ (s : DrillState). s.events) plays.3)
line_events l (Does ask) old new text makes = inr (ap (λ (s : DrillState). s.events) makes.leads)
line_events l (Stops call pick ask) old new text stops = inr (ap (λ (s : DrillState). s.events) stops.leads)
line_events l (Reopens end) old new text reopens = inl (ap (λ (s : DrillState). s.events) reopens.1)
line_events l (Folds end) old new text folds = inl (ap (λ (s : DrillState). s.events) folds.leads)
line_events l (Says end words) old new text says = inl (ap (λ (s : DrillState). s.events) says.1)
line_events l Sets old new text never = absurd never

one_event : (l : Line) (doing : Doing) (old new : DrillState) (text : List ℕ) → Plays l doing old text new → new.events ≤ old.events + 1
one_event l doing old new text plays = elim (line_events l doing old new text plays) [
  | inl same ↦ omega (arith, same)
  | inr more ↦ omega (arith, more)
]

some_events : (lines : List Line) (old new : DrillState) (text : List ℕ) → PlaysAll lines old text new → new.events ≤ old.events + length lines
some_events [] old new text plays = let same : new.events ≡ old.events = ap (λ (s : DrillState). s.events) plays.1 in omega arith
some_events (l ∷ lines) old new text plays =
    let first : plays.0.events ≤ old.events + 1 = one_event l (doing_of old.world l) old plays.0 plays.1 plays.5 in
    let rest : new.events ≤ plays.0.events + length lines = some_events lines plays.0 new plays.2 plays.6 in
    omega arith

pub leads_events : (lines : List Line) (old new : DrillState) → Leads lines old new → new.events ≤ old.events + length lines
leads_events lines old new leads = some_events lines old new leads.0 leads.1

-- a package that is carried makes two events at most
pub carried_few : (c : ℕ) (end : EndName) (place : ℕ) → length (carried c end place) ≤ 2
carried_few c end place = by_first (c % 3 == 2) (c % 5 == 4)
  where
    by_first : (b d : Bool) → length (if b then [] else line.Run (run.Came end None place) ∷ (if d then line.Lost end None place ∷ [] else [])) ≤ 2
    by_first true d = omega arith
    by_first false true = omega arith
    by_first false false = omega arith

pub both_few : (c place answer : ℕ) → length (carried_both c place answer) ≤ 4
both_few c place answer = by_first (c % 3 == 2)
  where
    by_first : (b : Bool) → length (if b then [] else carried c name.B place ++ carried (c + 1) name.A answer) ≤ 4
    by_first true = omega arith
    by_first false =
        omega (arith, carried_few c name.B place, carried_few (c + 1) name.A answer, length-append (carried c name.B place) (carried (c + 1) name.A answer))

-- end a, before and after
abbrev left : DrillState → End
left state = state.world.left.end

-- what comes changes end a calmly
comes_calmly : (end : EndName) (lost : Bool) (o : Option Message) (old new : DrillState) (text : List ℕ) → Acts (comes end lost o) old text new
    → IsCalm (left old) (left new)
comes_calmly end lost None old new text says =
    let same : left new ≡ left old = ap (λ (s : DrillState). s.world.left.end) says.1 in
    subst (IsCalm (left old)) (sym same) (calm_none (left old))
comes_calmly name.A lost (Some m) old new text makes =
    subst (λ (s : DrillState). IsCalm (left old) (left s)) (sym makes.leads) (came_calm makes.act.modes (left old) makes.act.event makes.act.outcome m makes.is.may.step makes.is.does)
comes_calmly end lost (Some m) old new text makes =
    subst (λ (s : DrillState). IsCalm (left old) (left s)) (sym makes.leads) (calm_none (left old))

-- lines of packages that come
abbrev IsCarrying : Line → Type 0
IsCarrying (line.Run (run.Came end from number)) = Unit {0}
IsCarrying (line.Lost end from number) = Unit {0}
IsCarrying other = ⊥

abbrev AllCarrying : List Line → Type 0
AllCarrying [] = Unit {0}
AllCarrying (l ∷ lines) = IsCarrying l × AllCarrying lines

line_calm : (l : Line) (old new : DrillState) (text : List ℕ) → IsCarrying l → Plays l (doing_of old.world l) old text new → IsCalm (left old) (left new)
unfolding doing_of running_of
line_calm (line.Run (run.Came end from number)) old new text is plays = comes_calmly end false (package_for end number old.world) old new text plays
line_calm (line.Lost end from number) old new text is plays = comes_calmly end true (package_for end number old.world) old new text plays
line_calm (line.Mode name link way retries period) old new text never plays = absurd never
line_calm (line.Run (run.Submit end mode load)) old new text never plays = absurd never
line_calm (line.Run (run.Tick end moment)) old new text never plays = absurd never
line_calm (line.Run (run.Take end)) old new text never plays = absurd never
line_calm (line.Run (run.Confirm end number)) old new text never plays = absurd never
line_calm (line.Ask end mode) old new text never plays = absurd never
line_calm (line.Pair end mode number) old new text never plays = absurd never
line_calm (line.Relay end mode) old new text never plays = absurd never
line_calm (line.Read end number) old new text never plays = absurd never
line_calm (line.Status end number) old new text never plays = absurd never
line_calm (line.Crash end) old new text never plays = absurd never
line_calm (line.Stop call pick l) old new text never plays = absurd never
line_calm (line.Fold end) old new text never plays = absurd never

lines_calm : (lines : List Line) (old new : DrillState) (text : List ℕ) → AllCarrying lines → PlaysAll lines old text new → IsCalm (left old) (left new)
lines_calm [] old new text all plays = subst (λ (s : DrillState). IsCalm (left old) (left s)) (sym plays.1) (calm_none (left old))
lines_calm (l ∷ lines) old new text all plays =
    let first = line_calm l old plays.0 plays.1 all.0 plays.5 in
    let rest = lines_calm lines plays.0 new plays.2 all.1 plays.6 in
    record { handed = omega (arith, first.handed, rest.handed); push = omega (arith, first.push, rest.push) }

all_carrying : (xs ys : List Line) → AllCarrying xs → AllCarrying ys → AllCarrying (xs ++ ys)
all_carrying [] ys first rest = rest
all_carrying (x ∷ xs) ys first rest = (first.0, all_carrying xs ys first.1 rest)

carried_carrying : (c : ℕ) (end : EndName) (place : ℕ) → AllCarrying (carried c end place)
carried_carrying c end place = by_first (c % 3 == 2) (c % 5 == 4)
  where
    by_first : (b d : Bool) → AllCarrying (if b then [] else line.Run (run.Came end None place) ∷ (if d then line.Lost end None place ∷ [] else []))
    by_first true d = tt
    by_first false true = (tt, (tt, tt))
    by_first false false = (tt, tt)

both_carrying : (c place answer : ℕ) → AllCarrying (carried_both c place answer)
both_carrying c place answer = by_first (c % 3 == 2)
  where
    by_first : (b : Bool) → AllCarrying (if b then [] else carried c name.B place ++ carried (c + 1) name.A answer)
    by_first true = tt
    by_first false =
        all_carrying (carried c name.B place) (carried (c + 1) name.A answer) (carried_carrying c name.B place) (carried_carrying (c + 1) name.A answer)

-- what end a takes

-- whether a message was pushed, by how many packages it has sent
pub record Took (old new : DrillState) : Type 0 where
  pub calm : IsCalm (left old) (left new)
  pub events : new.events ≡ old.events + 1
  pub result : (Pushes (left old) × (length new.world.left.said ≡ length old.world.left.said + 1) × (to_push (left new) + 1 ≤ to_push (left old)))
      ⊎ (PushesNone (left old) × (length new.world.left.said ≡ length old.world.left.said))

said_after : (lost : Bool) (said more : List Message) → lost ≡ false → length (if lost then said else said ++ more) ≡ length said + length more
said_after false said more is = length-append said more
said_after true said more is = absurd (cc is)

result_by : (end : End) (outcome : Outcome) (said later : List Message) → length later ≡ length said + length (sends outcome.reply) → TakeResult end outcome
    → (Pushes end × (length later ≡ length said + 1) × (to_push (applied outcome.effects end) + 1 ≤ to_push end))
    ⊎ (PushesNone end × (length later ≡ length said))
result_by end outcome said later is (Is_pushed pushes one fewer) = inl (pushes, omega (arith, is, one), fewer)
result_by end outcome said later is (None_pushed none nothing) = inr (none, omega (arith, is, ap length nothing))

take_took : (old new : DrillState) (text : List ℕ) → Plays (line.Run (run.Take name.A)) (doing_of old.world (line.Run (run.Take name.A))) old text new → Took old new
unfolding doing_of running_of
take_took old new text makes = subst (λ (s : DrillState). Took old s) (sym makes.leads) (record {
  calm = take_calm makes.act.modes (left old) makes.act.event makes.act.outcome makes.is.may.step makes.is.does;
  events = refl;
  result = result_by (left old) makes.act.outcome old.world.left.said _ (said_after makes.act.lost old.world.left.said (sends makes.act.outcome.reply) makes.is.lost)
      (take_result makes.act.modes (left old) makes.act.event makes.act.outcome makes.is.may.step makes.is.does);
})

pub leads_took : (old new : DrillState) → Leads (line.Run (run.Take name.A) ∷ []) old new → Took old new
leads_took old new leads = subst (λ (s : DrillState). Took old s) (sym leads.1.6.1) (take_took old leads.1.0 leads.1.1 leads.1.5)

-- by how many packages there are
pushed_by : (pushed : Bool) (before later : ℕ) (old new : DrillState) → Leads (line.Run (run.Take name.A) ∷ []) old new → before ≡ length old.world.left.said
    → later ≡ length new.world.left.said → (pushed ≡ true → later ≢ before) → (pushed ≡ false → later ≡ before) → IsPushed pushed (left old)
pushed_by true before later old new leads was is more none = elim (leads_took old new leads).result [
  | inl some ↦ some.0
  | inr rest ↦ absurd (more refl (is ∙ rest.1 ∙ sym was))
]
pushed_by false before later old new leads was is more none = elim (leads_took old new leads).result [
  | inl some ↦ absurd (omega (arith, was, is, none refl, some.1))
  | inr rest ↦ rest.0
]

pub pushed_is : (before later : ℕ) (old new : DrillState) → Leads (line.Run (run.Take name.A) ∷ []) old new → before ≡ length old.world.left.said
    → later ≡ length new.world.left.said → IsPushed (not (nat_eq later before)) (left old)
pushed_is before later old new leads was is =
    pushed_by (not (nat_eq later before)) before later old new leads was is (λ unlike. other later before unlike) (λ like. same later before like)
  where
    other : (a b : ℕ) → not (nat_eq a b) ≡ true → a ≢ b
    other a b unlike is = grind (arith, nat_tests)

    same : (a b : ℕ) → not (nat_eq a b) ≡ false → a ≡ b
    same a b like = grind (arith, nat_tests)

not_both : (end : End) → Pushes end → PushesNone end → ⊥
not_both end pushes (inl none) = let clash : None ≡ Some pushes.0 = sym none ∙ pushes.1 in cc
not_both end pushes (inr full) =
    let one : pushes.0 ≡ full.0 = (let same : Some pushes.0 ≡ Some full.0 = sym pushes.1 ∙ full.1 in cc) in
    let room : has_room end (effect.Tried full.0.submission.number ∷ []) ≡ true =
    subst (λ (s : Sent). has_room end (effect.Tried s.submission.number ∷ []) ≡ true) one pushes.2 in
    let clash : true ≡ false = sym room ∙ full.2 in cc

-- where a message is pushed, the events of its transmission are left
pub transmission_room : (pushed : Bool) (old new : DrillState) → Leads (line.Run (run.Take name.A) ∷ []) old new → IsPushed pushed (left old) → pushed ≡ true
    → old.events + 5 * to_push (left old) < events_limit → new.events + 4 ≤ events_limit
transmission_room false old new leads is never few = absurd (cc never)
transmission_room true old new leads is pushed few =
    let took = leads_took old new leads in elim took.result [
      | inl some ↦ omega (arith, took.events, some.2, few)
      | inr none ↦ absurd (not_both (left old) is none.0)
    ]

-- a transmission makes five events at most, and one message fewer is to be pushed
pub record TransmissionSpends (old new : DrillState) : Type 0 where
  pub events : new.events ≤ old.events + 5
  pub handed : handed new ≤ handed old
  pub push : to_push (left new) + 1 ≤ to_push (left old)

pub transmission_spends : (c place answer : ℕ) (old new : DrillState) → Pushes (left old) → Leads (transmission c place answer) old new → TransmissionSpends old new
transmission_spends c place answer old new pushes leads =
    let took : Took old leads.1.0 = take_took old leads.1.0 leads.1.1 leads.1.5 in
    let rest = lines_calm (carried_both c place answer) leads.1.0 new leads.1.2 (both_carrying c place answer) leads.1.6 in
    let more : new.events ≤ leads.1.0.events + length (carried_both c place answer) = some_events (carried_both c place answer) leads.1.0 new leads.1.2 leads.1.6 in
    let fewer : to_push (left leads.1.0) + 1 ≤ to_push (left old) = elim took.result [
      | inl some ↦ some.2
      | inr none ↦ absurd (not_both (left old) pushes none.0)
    ] in
    record {
      events = omega (arith, took.events, more, both_few c place answer);
      handed = omega (arith, took.calm.handed, rest.handed);
      push = omega (arith, fewer, rest.push);
    }

-- the last that is taken makes one
pub last_grows : (old new : DrillState) → Leads (line.Run (run.Take name.A) ∷ []) old new → Grows 1 0 old new
last_grows old new leads =
    let took = leads_took old new leads in (omega (arith, took.events), omega (arith, took.calm.handed))

-- the clock of end a is set
tick_grows : (moment : ℕ) (old new : DrillState) (text : List ℕ) → Plays (line.Run (run.Tick name.A moment)) (doing_of old.world (line.Run (run.Tick name.A moment))) old text new
    → Grows 1 0 old new
unfolding doing_of running_of
tick_grows moment old new text makes = subst (λ (s : DrillState). Grows 1 0 old s) (sym makes.leads)
    (omega arith, tick_hands makes.act.modes (left old) makes.act.event makes.act.outcome makes.is.may.step makes.is.does)

pub ticks_grow : (moment : ℕ) (old new : DrillState) → Leads (ticks_a moment) old new → Grows 1 0 old new
ticks_grow moment old new leads = subst (λ (s : DrillState). Grows 1 0 old s) (sym leads.1.6.1) (tick_grows moment old leads.1.0 leads.1.1 leads.1.5)

-- a message is handed in
submit_grows : (mode : List ℕ) (load : ScriptLoad) (old new : DrillState) (text : List ℕ)
    → Plays (line.Run (run.Submit name.A mode load)) (doing_of old.world (line.Run (run.Submit name.A mode load))) old text new → Grows 1 1 old new
unfolding doing_of running_of
submit_grows mode load old new text makes = subst (λ (s : DrillState). Grows 1 1 old s) (sym makes.leads)
    (omega arith, submit_hands makes.act.modes (left old) makes.act.event makes.act.outcome _ _ _ makes.is.may.step makes.is.does)

pub submits_grow : (mode : List ℕ) (load : ScriptLoad) (old new : DrillState) → Leads (line.Run (run.Submit name.A mode load) ∷ []) old new → Grows 1 1 old new
submits_grow mode load old new leads =
    subst (λ (s : DrillState). Grows 1 1 old s) (sym leads.1.6.1) (submit_grows mode load old leads.1.0 leads.1.1 leads.1.5)

-- no more is to be pushed than was handed in
pub push_few : (state : DrillState) → to_push (left state) ≤ handed state
push_few state = count_by-le-length (may_be_pushed state.world.left.end.moment) state.world.left.end.sent

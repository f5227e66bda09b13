-- How the generated world is led on, line by line.
use Rattle.std.proofs.Common.{◌≡◌, ◌≢◌, inl, inr, ℕ, zero, suc, ◌+◌, ◌*◌, ◌^◌, ◌%◌, ◌==◌, ◌<◌, ◌≤◌, List, [], ◌∷◌, ◌++◌, Bool, true, false, ◌&&◌, nat_le, if◌then◌else◌, length, None, Some, refl, sym, ◌∙◌, ap, subst, arith, append_assoc, length-append, codes}
use Rattle.std.specs.Prelude.{IsTrue, Ok, OnOk, Err, Result, ⊤}
use Rattle.std.specs.Fmt.{decimal}
use Rattle.std.proofs.lemmas.Bool.{and_from, eq-eqb, ne_eqb, le-leb, lt-ltb, leb-false}
use Rattle.std.proofs.lemmas.Fmt.{length-decimal-le}
use Rattle.std.proofs.lemmas.List.{append-nil}
use Rattle.std.proofs.Math.Nat.{mod-add-mod}
use Rattle.drill_world.specs.Events.{Doing}
use Rattle.drill.specs.Generated.{IsGenerated, Leads, Pushes, PlaysRound, Rounds, Taken, transmission, carried, carried_both, counted, submissions, ticks_a, invoice, next_number, size_by}
use Rattle.drill.specs.Generating.{Grows, PlaysTransmission}
use Rattle.drill_world.specs.Transcript.{Plays, PlaysAll, DrillState, doing_of, events_limit, is_right, is_too_many, new_state, running_of}
use Rattle.drill.proofs.SpendLemmas.{line_events, submits_grow}
use Rattle.drill_world.proofs.StateLemmas.{right_at_end}
use Rattle.drill_script.specs.LineText.{line_text, line_limit, is_line, is_name, is_stoppable, load_text}
use Rattle.drill_script.specs.Scripts.{is_of_pair, is_pair_line}
use Rattle.drill_script.specs.declared.line.EndName.{EndName}
use Rattle.drill_script.specs.declared.line.EndName.TheVariants as name
use Rattle.drill_script.specs.declared.line.Line.{Line}
use Rattle.drill_script.specs.declared.line.Line.TheVariants as line
use Rattle.drill_script.specs.declared.line.Stoppable.TheVariants as run
use Rattle.drill_script.specs.declared.line.ScriptLoad.TheVariants.{Size}
use Rattle.drill_script.specs.declared.line.Way.TheVariants.{Push}
use Rattle.exchange_model.specs.DeliveredOnce.{HasDeliveredOnce}

-- the law of delivery
abbrev pub Delivers : Type 0
Delivers = (lines : List Line) (text : List ℕ) (state : DrillState) → PlaysAll lines new_state text state → HasDeliveredOnce state.world

-- lines, and more of them

plays_append : (xs ys : List Line) (first old new : DrillState) (text words : List ℕ) → PlaysAll xs first text old → PlaysAll ys old words new
    → PlaysAll (xs ++ ys) first (text ++ words) new
plays_append [] ys first old new text words plays more =
    let here : PlaysAll ys first words new = subst (λ (s : DrillState). PlaysAll ys s words new) plays.1 more in
    subst (λ (t : List ℕ). PlaysAll ys first t new) (ap (λ (t : List ℕ). t ++ words) (sym plays.0)) here
plays_append (l ∷ xs) ys first old new text words plays more = (
  plays.0,
  plays.1,
  plays.2 ++ words,
  plays.3,
  plays.4,
  plays.5,
  plays_append xs ys plays.0 old new plays.2 words plays.6 more,
  ap (λ (t : List ℕ). t ++ words) plays.7 ∙ append_assoc plays.1 plays.2 words,
)

pub leads_append : (xs ys : List Line) (old mid new : DrillState) → Leads xs old mid → Leads ys mid new → Leads (xs ++ ys) old new
leads_append xs ys old mid new first rest = (first.0 ++ rest.0, plays_append xs ys old mid new first.0 rest.0 first.1 rest.1)

pub leads_none : (old new : DrillState) → new ≡ old → Leads [] old new
leads_none old new same = ([], (refl, same))

-- a package that is carried

-- the rule, at this number of the counter
carried_twice_is : (c : ℕ) (end : EndName) (place : ℕ) → c % 3 ≢ 2 → c % 5 ≡ 4
    → line.Run (run.Came end None place) ∷ line.Lost end None place ∷ [] ≡ carried c end place
carried_twice_is c end place first last = rw (ne_eqb (c % 3) 2 first, eq-eqb (c % 5) 4 last) refl

both_is : (c place answer : ℕ) → c % 3 ≢ 2 → carried c name.B place ++ carried (c + 1) name.A answer ≡ carried_both c place answer
both_is c place answer first =
    ap (λ (b : Bool). if b then [] else carried c name.B place ++ carried (c + 1) name.A answer) (sym (ne_eqb (c % 3) 2 first))

-- what is said of a call that didn't fail is said of the whole
pub on_ok : {X E : Type 0} (result : Result X E) (P Q : Type 0) → (P → Q) → OnOk result P → OnOk result Q
on_ok (Ok x) P Q so p = so p
on_ok (Err e) P Q so p = tt

-- more lines behind those that were played, where that didn't fail
pub leads_more : {E : Type 0} (result : Result ⊤ E) (xs ys all : List Line) (old mid new : DrillState) → xs ++ ys ≡ all → Leads xs old mid
    → OnOk result (Leads ys mid new) → OnOk result (Leads all old new)
leads_more (Ok done) xs ys all old mid new is first rest =
    subst (λ (l : List Line). Leads l old new) is (leads_append xs ys old mid new first rest)
leads_more (Err e) xs ys all old mid new is first rest = tt

pub carried_twice : {E : Type 0} (result : Result ⊤ E) (c : ℕ) (end : EndName) (place : ℕ) (old mid new : DrillState) → c % 3 ≢ 2 → c % 5 ≡ 4
    → Leads (line.Run (run.Came end None place) ∷ []) old mid → OnOk result (Leads (line.Lost end None place ∷ []) mid new) → OnOk result (Leads (carried c end place) old new)
carried_twice result c end place old mid new first last came lost =
    leads_more result (line.Run (run.Came end None place) ∷ []) (line.Lost end None place ∷ []) (carried c end place) old mid new (carried_twice_is c end place first last) came lost

pub both_carried : {E : Type 0} (result : Result ⊤ E) (c place answer : ℕ) (old mid new : DrillState) → c % 3 ≢ 2
    → Leads (carried c name.B place) old mid → OnOk result (Leads (carried (c + 1) name.A answer) mid new)
    → OnOk result (Leads (carried_both c place answer) old new)
both_carried result c place answer old mid new first there back =
    leads_more result (carried c name.B place) (carried (c + 1) name.A answer) (carried_both c place answer) old mid new (both_is c place answer first) there back

-- events don't fall

line_rises : (l : Line) (doing : Doing) (old new : DrillState) (text : List ℕ) → Plays l doing old text new → old.events ≤ new.events
line_rises l doing old new text plays = elim (line_events l doing old new text plays) [
  | inl same ↦ omega (arith, same)
  | inr more ↦ omega (arith, more)
]

plays_rise : (lines : List Line) (old new : DrillState) (text : List ℕ) → PlaysAll lines old text new → old.events ≤ new.events
plays_rise [] old new text plays = let same : new.events ≡ old.events = ap (λ (s : DrillState). s.events) plays.1 in omega arith
plays_rise (l ∷ lines) old new text plays =
    let first : old.events ≤ plays.0.events = line_rises l (doing_of old.world l) old plays.0 plays.1 plays.5 in
    let rest : plays.0.events ≤ new.events = plays_rise lines plays.0 new plays.2 plays.6 in
    omega arith

-- a message that is taken is one event
take_event : (old new : DrillState) (text : List ℕ) → Plays (line.Run (run.Take name.A)) (doing_of old.world (line.Run (run.Take name.A))) old text new
    → new.events ≡ old.events + 1
unfolding doing_of running_of
take_event old new text makes = ap (λ (s : DrillState). s.events) makes.leads

take_few : (old : DrillState) → is_too_many (line.Run (run.Take name.A)) old ≡ false → old.events < events_limit
unfolding doing_of running_of
take_few old few = leb-false events_limit old.events few

pub take_rises : (lines : List Line) (old new : DrillState) → Leads (line.Run (run.Take name.A) ∷ lines) old new
    → (old.events + 1 ≤ new.events) × (old.events < events_limit)
take_rises lines old new leads =
    let plays = leads.1 in
    let first : plays.0.events ≡ old.events + 1 = take_event old plays.0 plays.1 plays.5 in
    let rest : plays.0.events ≤ new.events = plays_rise lines plays.0 new plays.2 plays.6 in
    (omega arith, take_few old plays.4)

-- a transmission

pub transmission_played : (c place answer later : ℕ) (old mid new : DrillState) → place ≡ length old.world.left.said → answer ≡ length old.world.right.said
    → later ≡ counted c → Pushes old.world.left.end → Leads (line.Run (run.Take name.A) ∷ []) old mid → Leads (carried_both c place answer) mid new
    → PlaysTransmission c old new (Some later)
transmission_played c place answer later old mid new here there counts pushes took rest = (
  counts,
  pushes,
  subst (λ (n : ℕ). Leads (transmission c n (length old.world.right.said)) old new) here
      (subst (λ (n : ℕ). Leads (transmission c place n) old new) there
      (leads_append (line.Run (run.Take name.A) ∷ []) (carried_both c place answer) old mid new took rest)),
)

-- one more is taken
taken_more : (takes c : ℕ) (old : DrillState) (now : ℕ) (mid new : DrillState) → Taken takes c old now mid → Pushes mid.world.left.end
    → Leads (transmission now (length mid.world.left.said) (length mid.world.right.said)) mid new → Taken (suc takes) c old (counted now) new
taken_more zero c old now mid new taken some played =
    subst (λ (n : ℕ). Taken (suc zero) c old (counted n) new) (sym taken.0)
    (subst (λ (s : DrillState). Taken (suc zero) c s (counted c) new) taken.1
    (new, some, subst (λ (n : ℕ). Leads (transmission n (length mid.world.left.said) (length mid.world.right.said)) mid new) taken.0 played, (refl, refl)))
taken_more (suc takes) c old now mid new taken some played =
    (taken.0, taken.1, taken.2, taken_more takes (counted c) taken.0 now mid new taken.3 some played)

-- end a has taken some packages
abbrev pub TakenSome : ℕ → DrillState → ℕ → DrillState → Type 0
TakenSome c old later new = (takes : ℕ) × Taken takes c old later new

pub taken_on : (c : ℕ) (old : DrillState) (now next : ℕ) (mid new : DrillState) → TakenSome c old now mid → PlaysTransmission now mid new (Some next)
    → TakenSome c old next new
taken_on c old now next mid new taken played = (
  suc taken.0,
  subst (λ (n : ℕ). Taken (suc taken.0) c old n new) (sym played.0)
      (taken_more taken.0 c old now mid new taken.1 played.1 played.2),
)

counted_most : (c : ℕ) (b : Bool) → (c % 3 == 2) ≡ b → counted c ≤ c + 2
counted_most c true is = rw is (omega arith)
counted_most c false is = rw is (omega arith)

pub transmission_few : (c later : ℕ) (old new : DrillState) → c ≤ 2 * old.events → PlaysTransmission c old new (Some later)
    → (later ≤ 2 * new.events) × ((old.events + 1 ≤ new.events) × (old.events < events_limit))
transmission_few c later old new few transmission =
    let rises = take_rises (carried_both c (length old.world.left.said) (length old.world.right.said)) old new transmission.2 in
    let most : counted c ≤ c + 2 = counted_most c (c % 3 == 2) refl in
    let more : old.events + 1 ≤ new.events = rises.0 in
    let is : later ≡ counted c = transmission.0 in
    (omega arith, rises)

-- the lines of the generated world are short

decimal_short : (n : ℕ) → n < 2 ^ 64 → length (decimal n) ≤ 20
decimal_short n small = length-decimal-le 20 n (omega arith) (omega arith) small

pub came_short : (end : EndName) (n : ℕ) → n < 2 ^ 64 → length (line_text (line.Run (run.Came end None n))) ≤ line_limit
unfolding line_text
came_short name.A n small = let short = decimal_short n small in omega (arith, length-append {A = ℕ})
came_short name.B n small = let short = decimal_short n small in omega (arith, length-append {A = ℕ})
came_short name.First n small = let short = decimal_short n small in omega (arith, length-append {A = ℕ})
came_short name.Hub n small = let short = decimal_short n small in omega (arith, length-append {A = ℕ})
came_short name.Last n small = let short = decimal_short n small in omega (arith, length-append {A = ℕ})

pub lost_short : (end : EndName) (n : ℕ) → n < 2 ^ 64 → length (line_text (line.Lost end None n)) ≤ line_limit
unfolding line_text
lost_short name.A n small = let short = decimal_short n small in omega (arith, length-append {A = ℕ})
lost_short name.B n small = let short = decimal_short n small in omega (arith, length-append {A = ℕ})
lost_short name.First n small = let short = decimal_short n small in omega (arith, length-append {A = ℕ})
lost_short name.Hub n small = let short = decimal_short n small in omega (arith, length-append {A = ℕ})
lost_short name.Last n small = let short = decimal_short n small in omega (arith, length-append {A = ℕ})

pub tick_short : (n : ℕ) → n < 2 ^ 64 → length (line_text (line.Run (run.Tick name.A n))) ≤ line_limit
unfolding line_text
tick_short n small = let short = decimal_short n small in omega (arith, length-append {A = ℕ})

short_submission : (n : ℕ) → n < 2 ^ 64 → length (line_text (line.Run (run.Submit name.A invoice (Size n)))) ≤ line_limit
unfolding line_text load_text
short_submission n small = let short = decimal_short n small in omega (arith, length-append {A = ℕ})

pub submit_short : (mode : List ℕ) (n : ℕ) → mode ≡ invoice → n ≤ 40960 → length (line_text (line.Run (run.Submit name.A mode (Size n)))) ≤ line_limit
unfolding line_text load_text
submit_short mode n is low = rw is (short_submission n (omega arith))

pub take_short : length (line_text (line.Run (run.Take name.A))) ≤ line_limit
unfolding line_text
take_short = omega arith

pub mode_short : length (line_text (line.Mode invoice None Push 10 3000)) ≤ line_limit
unfolding line_text
mode_short =
    let first = decimal_short 10 (omega arith) in
    let second = decimal_short 3000 (omega arith) in
    omega (arith, length-append {A = ℕ}, length-append (decimal 10 ++ codes " ") (decimal 3000), length-append (decimal 10) (codes " "))

-- and in range

pub came_said : (end : EndName) (n : ℕ) → n < 2 ^ 64 → IsTrue (is_line (line.Run (run.Came end None n)))
unfolding is_line is_stoppable
came_said end n small = lt-ltb n (2 ^ 64) small

pub lost_said : (end : EndName) (n : ℕ) → n < 2 ^ 64 → IsTrue (is_line (line.Lost end None n))
unfolding is_line
lost_said end n small = lt-ltb n (2 ^ 64) small

pub tick_said : (n : ℕ) → n ≤ 33000 → IsTrue (is_line (line.Run (run.Tick name.A n)))
unfolding is_line is_stoppable
tick_said n small = le-leb n 253402300799999 (omega arith)

pub submit_said : (mode : List ℕ) (n : ℕ) → mode ≡ invoice → n ≤ 40960 → IsTrue (is_line (line.Run (run.Submit name.A mode (Size n))))
unfolding is_line is_stoppable is_name
submit_said mode n is small = rw is (le-leb n 16777216 (omega arith))

pub take_said : IsTrue (is_line (line.Run (run.Take name.A)))
unfolding is_line is_stoppable
take_said = refl

pub mode_said : IsTrue (is_line (line.Mode invoice None Push 10 3000))
unfolding is_line is_name
mode_said = refl

-- and right

-- the lines of a pair

came_of_pair : (end : EndName) (n : ℕ) → is_of_pair end ≡ true → is_pair_line (line.Run (run.Came end None n)) ≡ true
unfolding is_pair_line
came_of_pair end n pair = and_from (is_of_pair end) true pair refl

lost_of_pair : (end : EndName) (n : ℕ) → is_of_pair end ≡ true → is_pair_line (line.Lost end None n) ≡ true
unfolding is_pair_line
lost_of_pair end n pair = and_from (is_of_pair end) true pair refl

tick_of_pair : (n : ℕ) → is_pair_line (line.Run (run.Tick name.A n)) ≡ true
unfolding is_pair_line
tick_of_pair n = refl

take_of_pair : is_pair_line (line.Run (run.Take name.A)) ≡ true
unfolding is_pair_line
take_of_pair = refl

submit_of_pair : (mode : List ℕ) (n : ℕ) → is_pair_line (line.Run (run.Submit name.A mode (Size n))) ≡ true
unfolding is_pair_line
submit_of_pair mode n = refl

mode_of_pair : is_pair_line (line.Mode invoice None Push 10 3000) ≡ true
unfolding is_pair_line
mode_of_pair = refl

pub came_right : (end : EndName) (n : ℕ) (state : DrillState) → is_of_pair end ≡ true → n < 2 ^ 64 → is_right (line.Run (run.Came end None n)) state ≡ true
came_right end n state pair small = right_at_end (line.Run (run.Came end None n)) state tt (came_of_pair end n pair) (came_said end n small) (came_short end n small)

pub lost_right : (end : EndName) (n : ℕ) (state : DrillState) → is_of_pair end ≡ true → n < 2 ^ 64 → is_right (line.Lost end None n) state ≡ true
lost_right end n state pair small = right_at_end (line.Lost end None n) state tt (lost_of_pair end n pair) (lost_said end n small) (lost_short end n small)

pub tick_right : (n : ℕ) (state : DrillState) → n ≤ 33000 → is_right (line.Run (run.Tick name.A n)) state ≡ true
tick_right n state small = right_at_end (line.Run (run.Tick name.A n)) state tt (tick_of_pair n) (tick_said n small) (tick_short n (omega arith))

pub take_right : (state : DrillState) → is_right (line.Run (run.Take name.A)) state ≡ true
take_right state = right_at_end (line.Run (run.Take name.A)) state tt take_of_pair take_said take_short

pub submit_right : (mode : List ℕ) (n : ℕ) (state : DrillState) → mode ≡ invoice → n ≤ 40960 → is_right (line.Run (run.Submit name.A mode (Size n))) state ≡ true
submit_right mode n state is small = right_at_end (line.Run (run.Submit name.A mode (Size n))) state tt (submit_of_pair mode n) (submit_said mode n is small) (submit_short mode n is small)

abbrev invoice_mode : Line
invoice_mode = line.Mode invoice None Push 10 3000

pub mode_right : (state : DrillState) → state ≡ new_state → is_right (line.Mode invoice None Push 10 3000) state ≡ true
mode_right state is =
    subst (λ (s : DrillState). is_right (line.Mode invoice None Push 10 3000) s ≡ true) (sym is)
    (and_from (is_line invoice_mode) (nat_le (length (line_text invoice_mode)) line_limit && (is_pair_line invoice_mode && true)) mode_said
    (and_from (nat_le (length (line_text invoice_mode)) line_limit) (is_pair_line invoice_mode && true) (le-leb (length (line_text invoice_mode)) line_limit mode_short)
    (and_from (is_pair_line invoice_mode) true mode_of_pair refl)))

-- rounds

-- the rounds so far, and those to come
abbrev pub RoundsOn : DrillState → ℕ → ℕ → DrillState → Type 0
RoundsOn old round c mid = (more : ℕ) (new : DrillState) → Rounds more round c mid new → Rounds (round + more) 0 0 old new

none_more : (n : ℕ) → n ≡ 0 + n
none_more n = omega arith

pub rounds_none : (old : DrillState) → RoundsOn old 0 0 old
rounds_none old more new rounds = subst (λ (n : ℕ). Rounds n 0 0 old new) (none_more more) rounds

one_later : (round more : ℕ) → round + suc more ≡ (round + 1) + more
one_later round more = omega arith

next_round : (round : ℕ) → round + 1 ≡ suc round
next_round round = omega arith

pub rounds_more : (old : DrillState) (round c later : ℕ) (mid new : DrillState) → RoundsOn old round c mid → PlaysRound round c mid later new
    → RoundsOn old (round + 1) later new
rounds_more old round c later mid new on played more last rounds =
    let rest : Rounds more (suc round) later new last = subst (λ (n : ℕ). Rounds more n later new last) (next_round round) rounds in
    subst (λ (n : ℕ). Rounds n 0 0 old last) (one_later round more)
    (on (suc more) last (later, new, played, rest))

pub rounds_done : (old : DrillState) (c : ℕ) (mid : DrillState) → RoundsOn old 11 c mid → Rounds 11 0 0 old mid
rounds_done old c mid on = on 0 mid refl

-- the submissions so far are the first of all
pub record SubmitsSoFar (seed : ℕ) (old : DrillState) (done number : ℕ) (mid : DrillState) : Type 0 where
  pub front : List Line
  pub cut : (more : ℕ) → submissions seed seed (done + more) ≡ front ++ submissions seed number more
  pub leads : Leads front old mid
  pub grows : Grows done done old mid

pub submits_none : (seed : ℕ) (old : DrillState) → SubmitsSoFar seed old 0 seed old
submits_none seed old = record {
  front = [];
  cut = λ more. ap (submissions seed seed) (sym (none_more more));
  leads = leads_none old old refl;
  grows = (omega arith, omega arith);
}

pub submits_more : (seed : ℕ) (old : DrillState) (done number next size : ℕ) (mid new : DrillState) → next ≡ next_number number → size ≡ size_by seed next
    → SubmitsSoFar seed old done number mid → Leads (line.Run (run.Submit name.A invoice (Size size)) ∷ []) mid new
    → SubmitsSoFar seed old (done + 1) next new
submits_more seed old done number next size mid new is sized on one = record {
  front = on.front ++ line.Run (run.Submit name.A invoice (Size size)) ∷ [];
  cut = λ more. cuts more;
  leads = leads_append on.front (line.Run (run.Submit name.A invoice (Size size)) ∷ []) old mid new on.leads one;
  grows = (let more = submits_grow invoice (Size size) mid new one in (omega (arith, on.grows.0, more.0), omega (arith, on.grows.1, more.1)));
}
  where
    cuts : (more : ℕ) → submissions seed seed ((done + 1) + more)
        ≡ (on.front ++ line.Run (run.Submit name.A invoice (Size size)) ∷ []) ++ submissions seed next more
    cuts more =
        let first : size_by seed (next_number number) ≡ size = ap (size_by seed) (sym is) ∙ sym sized in
        ap (submissions seed seed) (sym (one_later done more)) ∙ on.cut (suc more)
        ∙ ap (λ (n : ℕ). on.front ++ line.Run (run.Submit name.A invoice (Size n)) ∷ submissions seed (next_number number) more) first
        ∙ ap (λ (n : ℕ). on.front ++ line.Run (run.Submit name.A invoice (Size size)) ∷ submissions seed n more) (sym is)
        ∙ sym (append_assoc on.front (line.Run (run.Submit name.A invoice (Size size)) ∷ []) (submissions seed next more))

pub submits_done : (seed : ℕ) (old : DrillState) (count number : ℕ) (mid : DrillState) → SubmitsSoFar seed old count number mid
    → Leads (submissions seed seed count) old mid
submits_done seed old count number mid on =
    let all : on.front ≡ submissions seed seed count = sym (append-nil on.front) ∙ sym (on.cut 0) ∙ ap (submissions seed seed) (no_more count) in
    subst (λ (l : List Line). Leads l old mid) all on.leads
  where
    no_more : (n : ℕ) → n + 0 ≡ n
    no_more n = omega arith

-- the number behind another
pub next_is : (x : ℕ) → ((x * 6364136223846793005) % 2 ^ 64 + 1442695040888963407) % 2 ^ 64 ≡ next_number x
unfolding next_number
next_is x = mod-add-mod (x * 6364136223846793005) (2 ^ 64) 1442695040888963407

pub submit_named : {E : Type 0} (result : Result ⊤ E) (mode : List ℕ) (n : ℕ) (old new : DrillState) → mode ≡ invoice
    → OnOk result (Leads (line.Run (run.Submit name.A mode (Size n)) ∷ []) old new) → OnOk result (Leads (line.Run (run.Submit name.A invoice (Size n)) ∷ []) old new)
submit_named result mode n old new is leads = subst (λ (m : List ℕ). OnOk result (Leads (line.Run (run.Submit name.A m (Size n)) ∷ []) old new)) is leads

-- the mode's line, where the name is built

pub mode_said_named : (mode : List ℕ) → mode ≡ invoice → IsTrue (is_line (line.Mode mode None Push 10 3000))
mode_said_named mode is = subst (λ (m : List ℕ). IsTrue (is_line (line.Mode m None Push 10 3000))) (sym is) mode_said

pub mode_short_named : (mode : List ℕ) → mode ≡ invoice → length (line_text (line.Mode mode None Push 10 3000)) ≤ line_limit
mode_short_named mode is = subst (λ (m : List ℕ). length (line_text (line.Mode m None Push 10 3000)) ≤ line_limit) (sym is) mode_short

pub mode_right_named : (mode : List ℕ) (state : DrillState) → mode ≡ invoice → state ≡ new_state → is_right (line.Mode mode None Push 10 3000) state ≡ true
mode_right_named mode state is new =
    subst (λ (m : List ℕ). is_right (line.Mode m None Push 10 3000) state ≡ true) (sym is) (mode_right state new)

pub mode_named : {E : Type 0} (result : Result ⊤ E) (mode : List ℕ) (old new : DrillState) → mode ≡ invoice
    → OnOk result (Leads (line.Mode mode None Push 10 3000 ∷ []) old new) → OnOk result (Leads (line.Mode invoice None Push 10 3000 ∷ []) old new)
mode_named result mode old new is leads = subst (λ (m : List ℕ). OnOk result (Leads (line.Mode m None Push 10 3000 ∷ []) old new)) is leads

-- the whole script, from a new state

-- some lines lead there
abbrev SomeLead : DrillState → DrillState → Type 0
SomeLead old new = (lines : List Line) × Leads lines old new

lead_then : (old mid new : DrillState) → SomeLead old mid → SomeLead mid new → SomeLead old new
lead_then old mid new first rest = (first.0 ++ rest.0, leads_append first.0 rest.0 old mid new first.1 rest.1)

taken_lead : (takes c : ℕ) (old : DrillState) (later : ℕ) (new : DrillState) → Taken takes c old later new → SomeLead old new
taken_lead zero c old later new taken = ([], leads_none old new taken.1)
taken_lead (suc takes) c old later new taken =
    lead_then old taken.0 new (transmission c (length old.world.left.said) (length old.world.right.said), taken.2) (taken_lead takes (counted c) taken.0 later new taken.3)

round_leads : (round c : ℕ) (old : DrillState) (later : ℕ) (new : DrillState) → PlaysRound round c old later new → SomeLead old new
round_leads round c old later new plays =
    lead_then old plays.0 new (ticks_a (3000 * round), plays.2)
    (lead_then plays.0 plays.3.0 new (taken_lead plays.1 c plays.0 later plays.3.0 plays.3.1) (line.Run (run.Take name.A) ∷ [], plays.3.3))

rounds_lead : (rounds round c : ℕ) (old new : DrillState) → Rounds rounds round c old new → SomeLead old new
rounds_lead zero round c old new same = ([], leads_none old new same)
rounds_lead (suc rounds) round c old new plays =
    lead_then old plays.1 new (round_leads round c old plays.0 plays.1 plays.2) (rounds_lead rounds (suc round) plays.0 plays.1 new plays.3)

generated_leads : (seed count : ℕ) (state : DrillState) → IsGenerated seed count state → SomeLead new_state state
unfolding IsGenerated
generated_leads seed count state is =
    lead_then new_state is.0 state (line.Mode invoice None Push 10 3000 ∷ submissions seed seed count, is.2)
    (lead_then is.0 is.1 state (rounds_lead 11 0 0 is.0 is.1 is.3) (ticks_a 33000, is.4))

-- each message was delivered once
pub generated_once : Delivers → (seed count : ℕ) (state : DrillState) → IsGenerated seed count state → HasDeliveredOnce state.world
generated_once law seed count state is = let leads = generated_leads seed count state is in law leads.0 leads.1.0 state leads.1.1

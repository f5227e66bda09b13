-- Lemmas on lines, by their verb and tail.
use Rattle.std.proofs.Common.{◌≡◌, ℕ, ◌^◌, ◌<◌, ◌≤◌, ◌&&◌, nat_le, nat_lt, List, IsTrue, Option, Some, None, refl, sym, ◌∙◌, ap, arith}
use Rattle.std.specs.Fmt.{decimal}
use Rattle.std.proofs.lemmas.Bool.{and_parts, and_from, le-leb, leb-true, lt-ltb, ltb-true}
use Rattle.as4_values.specs.declared.moment.TheConstants.{MAX_MOMENT}
use Rattle.as4_disk.specs.declared.change.Pick.{Pick}
use Rattle.drill_script.specs.Lacking.{spaced}
use Rattle.drill_script.specs.LineText.{is_line, is_load, is_name, is_stoppable, end_text, line_words, load_text, pick_text, stoppable_text, stoppable_words}
use Rattle.drill_script.specs.LineParts.{Spells, SpellsRun, run_verb_of, verb_of, settings_text, linked_text, arrival_text, tail_of, counted_line}
use Rattle.drill_script.specs.declared.line.EndName.{EndName}
use Rattle.drill_script.specs.declared.line.Line.{Line}
use Rattle.drill_script.specs.declared.line.Line.TheVariants as line
use Rattle.drill_script.specs.declared.line.LinkName.{LinkName}
use Rattle.drill_script.specs.declared.line.ScriptLoad.{ScriptLoad}
use Rattle.drill_script.specs.declared.line.Stoppable.{Stoppable}
use Rattle.drill_script.specs.declared.line.Stoppable.TheVariants as stoppable
use Rattle.drill_script.specs.declared.line.Way.{Way}
use Rattle.drill_script.specs.declared.verb.Counted.{Counted}
use Rattle.drill_script.specs.declared.verb.Counted.TheVariants.{Read, Status}
use Rattle.drill_script.specs.declared.verb.RunVerb.{RunVerb}
use Rattle.drill_script.specs.declared.verb.RunVerb.TheVariants.{Submit, Tick, Take, Came, Confirm}
use Rattle.drill_script.specs.declared.verb.Verb.TheVariants.{Mode, Run, Ask, Relay, Pair, Lost, Count, Crash, Stop, Fold}
use Rattle.drill_script.proofs.LineLemmas.{stop_tail}

-- a line that can be stopped, from its parts

pub submit_spells : (tail : List ℕ) (end : EndName) (mode : List ℕ) (load : ScriptLoad) → tail ≡ spaced (end_text end) (spaced mode (load_text load)) → IsTrue (is_name mode) → IsTrue (is_load load) → SpellsRun Submit tail (stoppable.Submit end mode load)
unfolding is_stoppable
submit_spells tail end mode load is named loaded = record {
  verb_is = refl;
  tail_is = is;
  in_range = and_from (is_name mode) (is_load load) named loaded;
}

pub tick_spells : (tail : List ℕ) (end : EndName) (moment : ℕ) → tail ≡ spaced (end_text end) (decimal moment) → moment ≤ MAX_MOMENT → SpellsRun Tick tail (stoppable.Tick end moment)
unfolding is_stoppable
tick_spells tail end moment is early = record { verb_is = refl; tail_is = is; in_range = le-leb moment MAX_MOMENT early }

pub take_spells : (tail : List ℕ) (end : EndName) → tail ≡ end_text end → SpellsRun Take tail (stoppable.Take end)
unfolding is_stoppable
take_spells tail end is = record { verb_is = refl; tail_is = is; in_range = refl }

-- the words of an arrival, in one text
came_tail : (end : EndName) (from : Option EndName) (number : ℕ) → tail_of (stoppable_words (stoppable.Came end from number)) ≡ arrival_text end from number
came_tail end None number = refl
came_tail end (Some from) number = refl

lost_tail : (end : EndName) (from : Option EndName) (number : ℕ) → tail_of (line_words (line.Lost end from number)) ≡ arrival_text end from number
lost_tail end None number = refl
lost_tail end (Some from) number = refl

pub came_spells : (tail : List ℕ) (end : EndName) (from : Option EndName) (number : ℕ) → tail ≡ arrival_text end from number → number < 2 ^ 64 → SpellsRun Came tail (stoppable.Came end from number)
unfolding is_stoppable
came_spells tail end from number is small =
    record { verb_is = refl; tail_is = is ∙ sym (came_tail end from number); in_range = lt-ltb number (2 ^ 64) small }

pub confirm_spells : (tail : List ℕ) (end : EndName) (number : ℕ) → tail ≡ spaced (end_text end) (decimal number) → number < 2 ^ 64 → SpellsRun Confirm tail (stoppable.Confirm end number)
unfolding is_stoppable
confirm_spells tail end number is small = record { verb_is = refl; tail_is = is; in_range = lt-ltb number (2 ^ 64) small }

-- a line, from its parts

-- the words of a mode, in one text
mode_tail : (name : List ℕ) (link : Option LinkName) (way : Way) (retries period : ℕ) → tail_of (line_words (line.Mode name link way retries period)) ≡ spaced name (linked_text link (settings_text way retries period))
mode_tail name None way retries period = refl
mode_tail name (Some link) way retries period = refl

pub mode_spells : (tail name : List ℕ) (link : Option LinkName) (way : Way) (retries period : ℕ) → tail ≡ spaced name (linked_text link (settings_text way retries period)) → IsTrue (is_name name) → retries ≤ 1000 → 1 ≤ period → period ≤ 1000000000 → Spells Mode tail (line.Mode name link way retries period)
unfolding is_line
mode_spells tail name link way retries period is named few some short = record {
  verb_is = refl;
  tail_is = is ∙ sym (mode_tail name link way retries period);
  in_range = and_from (is_name name) _ named
      (and_from (nat_le retries 1000) _ (le-leb retries 1000 few)
      (and_from (nat_le 1 period) (nat_le period 1000000000) (le-leb 1 period some) (le-leb period 1000000000 short)));
}

pub run_spells : (verb : RunVerb) (tail : List ℕ) (l : Stoppable) → SpellsRun verb tail l → Spells (Run verb) tail (line.Run l)
unfolding is_line
run_spells verb tail l spells = record { verb_is = ap Run spells.verb_is; tail_is = spells.tail_is; in_range = spells.in_range }

pub ask_spells : (tail : List ℕ) (end : EndName) (mode : List ℕ) → tail ≡ spaced (end_text end) mode → IsTrue (is_name mode) → Spells Ask tail (line.Ask end mode)
unfolding is_line
ask_spells tail end mode is named = record { verb_is = refl; tail_is = is; in_range = named }

pub relay_spells : (tail : List ℕ) (end : EndName) (mode : List ℕ) → tail ≡ spaced (end_text end) mode → IsTrue (is_name mode) → Spells Relay tail (line.Relay end mode)
unfolding is_line
relay_spells tail end mode is named = record { verb_is = refl; tail_is = is; in_range = named }

pub lost_spells : (tail : List ℕ) (end : EndName) (from : Option EndName) (number : ℕ) → tail ≡ arrival_text end from number → number < 2 ^ 64 → Spells Lost tail (line.Lost end from number)
unfolding is_line
lost_spells tail end from number is small =
    record { verb_is = refl; tail_is = is ∙ sym (lost_tail end from number); in_range = lt-ltb number (2 ^ 64) small }

pub pair_spells : (tail : List ℕ) (end : EndName) (mode : List ℕ) (number : ℕ) → tail ≡ spaced (end_text end) (spaced mode (decimal number)) → IsTrue (is_name mode) → number < 2 ^ 64 → Spells Pair tail (line.Pair end mode number)
unfolding is_line
pair_spells tail end mode number is named small = record {
  verb_is = refl;
  tail_is = is;
  in_range = and_from (is_name mode) (nat_lt number (2 ^ 64)) named (lt-ltb number (2 ^ 64) small);
}

pub counted_spells : (counted : Counted) (tail : List ℕ) (end : EndName) (number : ℕ) → tail ≡ spaced (end_text end) (decimal number) → number < 2 ^ 64 → Spells (Count counted) tail (counted_line counted end number)
unfolding is_line
counted_spells Read tail end number is small = record { verb_is = refl; tail_is = is; in_range = lt-ltb number (2 ^ 64) small }
counted_spells Status tail end number is small = record { verb_is = refl; tail_is = is; in_range = lt-ltb number (2 ^ 64) small }

pub crash_spells : (tail : List ℕ) (end : EndName) → tail ≡ end_text end → Spells Crash tail (line.Crash end)
unfolding is_line
crash_spells tail end is = record { verb_is = refl; tail_is = is; in_range = refl }

pub stop_spells : (tail : List ℕ) (call : ℕ) (pick : Pick) (l : Stoppable) → tail ≡ spaced (decimal call) (spaced (pick_text pick) (stoppable_text l)) → 1 ≤ call → call ≤ 4 → IsTrue (is_stoppable l) → Spells Stop tail (line.Stop call pick l)
unfolding is_line
stop_spells tail call pick l is some few small = record {
  verb_is = refl;
  tail_is = is ∙ sym (stop_tail call pick l);
  in_range = and_from (nat_le 1 call) (nat_le call 4 && is_stoppable l) (le-leb 1 call some)
      (and_from (nat_le call 4) (is_stoppable l) (le-leb call 4 few) small);
}

pub fold_spells : (tail : List ℕ) (end : EndName) → tail ≡ end_text end → Spells Fold tail (line.Fold end)
unfolding is_line
fold_spells tail end is = record { verb_is = refl; tail_is = is; in_range = refl }

-- the form of the lines of each verb

-- a line that names an endpoint and a number
pub record NumberedIs {X : Type 0} (make : EndName → ℕ → X) (tail : List ℕ) (said : X) (end : EndName) (number : ℕ) : Type 0 where
  pub line_is : said ≡ make end number
  pub tail_is : tail ≡ spaced (end_text end) (decimal number)
  pub small : number < 2 ^ 64

-- a submission
pub record SubmitIs (tail : List ℕ) (said : Stoppable) (end : EndName) (mode : List ℕ) (load : ScriptLoad) : Type 0 where
  pub line_is : said ≡ stoppable.Submit end mode load
  pub tail_is : tail ≡ spaced (end_text end) (spaced mode (load_text load))
  pub named : IsTrue (is_name mode)
  pub loaded : IsTrue (is_load load)

pub submit_spelled : (tail : List ℕ) (said : Stoppable) → SpellsRun Submit tail said → (end : EndName) × (mode : List ℕ) × (load : ScriptLoad) × SubmitIs tail said end mode load
unfolding is_stoppable
submit_spelled tail (stoppable.Submit end mode load) spells =
    let parts = and_parts (is_name mode) (is_load load) spells.in_range in
    (end, mode, load, record { line_is = refl; tail_is = spells.tail_is; named = parts.0; loaded = parts.1 })
submit_spelled tail other spells = let verb : run_verb_of other ≡ Submit = spells.verb_is in cc

pub tick_spelled : (tail : List ℕ) (said : Stoppable) → SpellsRun Tick tail said → (end : EndName) × (moment : ℕ) × NumberedIs stoppable.Tick tail said end moment × (moment ≤ MAX_MOMENT)
unfolding is_stoppable
tick_spelled tail (stoppable.Tick end moment) spells =
    let early : moment ≤ MAX_MOMENT = leb-true moment MAX_MOMENT spells.in_range in
    (end, moment, record { line_is = refl; tail_is = spells.tail_is; small = omega arith }, early)
tick_spelled tail other spells = let verb : run_verb_of other ≡ Tick = spells.verb_is in cc

pub take_spelled : (tail : List ℕ) (said : Stoppable) → SpellsRun Take tail said → (end : EndName) × (said ≡ stoppable.Take end) × (tail ≡ end_text end)
take_spelled tail (stoppable.Take end) spells = (end, refl, spells.tail_is)
take_spelled tail other spells = let verb : run_verb_of other ≡ Take = spells.verb_is in cc

-- an arrival
pub record ArrivalIs {X : Type 0} (make : EndName → Option EndName → ℕ → X) (tail : List ℕ) (said : X) (end : EndName) (from : Option EndName) (number : ℕ) : Type 0 where
  pub line_is : said ≡ make end from number
  pub tail_is : tail ≡ arrival_text end from number
  pub small : number < 2 ^ 64

pub came_spelled : (tail : List ℕ) (said : Stoppable) → SpellsRun Came tail said → (end : EndName) × (from : Option EndName) × (number : ℕ) × ArrivalIs stoppable.Came tail said end from number
unfolding is_stoppable
came_spelled tail (stoppable.Came end from number) spells = (
  end,
  from,
  number,
  record { line_is = refl; tail_is = spells.tail_is ∙ came_tail end from number; small = ltb-true number (2 ^ 64) spells.in_range },
)
came_spelled tail other spells = let verb : run_verb_of other ≡ Came = spells.verb_is in cc

pub confirm_spelled : (tail : List ℕ) (said : Stoppable) → SpellsRun Confirm tail said → (end : EndName) × (number : ℕ) × NumberedIs stoppable.Confirm tail said end number
unfolding is_stoppable
confirm_spelled tail (stoppable.Confirm end number) spells =
    (end, number, record { line_is = refl; tail_is = spells.tail_is; small = ltb-true number (2 ^ 64) spells.in_range })
confirm_spelled tail other spells = let verb : run_verb_of other ≡ Confirm = spells.verb_is in cc

-- a line that can be stopped, without a stop
pub run_spelled : (verb : RunVerb) (tail : List ℕ) (said : Line) → Spells (Run verb) tail said → (l : Stoppable) × (said ≡ line.Run l) × SpellsRun verb tail l
unfolding is_line
run_spelled verb tail (line.Run l) spells =
    let runs : Run (run_verb_of l) ≡ Run verb = spells.verb_is in
    (l, refl, record { verb_is = cc; tail_is = spells.tail_is; in_range = spells.in_range })
run_spelled verb tail other spells = let verbs : verb_of other ≡ Run verb = spells.verb_is in cc

-- a mode
pub record ModeIs (tail : List ℕ) (said : Line) (name : List ℕ) (link : Option LinkName) (way : Way) (retries period : ℕ) : Type 0 where
  pub line_is : said ≡ line.Mode name link way retries period
  pub tail_is : tail ≡ spaced name (linked_text link (settings_text way retries period))
  pub named : IsTrue (is_name name)
  pub few : retries ≤ 1000
  pub some : 1 ≤ period
  pub short : period ≤ 1000000000

pub mode_spelled : (tail : List ℕ) (said : Line) → Spells Mode tail said → (name : List ℕ) × (link : Option LinkName) × (way : Way) × (retries : ℕ) × (period : ℕ) × ModeIs tail said name link way retries period
unfolding is_line
mode_spelled tail (line.Mode name link way retries period) spells =
    let named = and_parts (is_name name) (nat_le retries 1000 && (nat_le 1 period && nat_le period 1000000000)) spells.in_range in
    let few = and_parts (nat_le retries 1000) (nat_le 1 period && nat_le period 1000000000) named.1 in
    let some = and_parts (nat_le 1 period) (nat_le period 1000000000) few.1 in (
      name,
      link,
      way,
      retries,
      period,
      record {
        line_is = refl;
        tail_is = spells.tail_is ∙ mode_tail name link way retries period;
        named = named.0;
        few = leb-true retries 1000 few.0;
        some = leb-true 1 period some.0;
        short = leb-true period 1000000000 some.1;
      },
    )
mode_spelled tail other spells = let verb : verb_of other ≡ Mode = spells.verb_is in cc

-- an `ask` line
pub record AskIs (tail : List ℕ) (said : Line) (end : EndName) (mode : List ℕ) : Type 0 where
  pub line_is : said ≡ line.Ask end mode
  pub tail_is : tail ≡ spaced (end_text end) mode
  pub named : IsTrue (is_name mode)

pub ask_spelled : (tail : List ℕ) (said : Line) → Spells Ask tail said → (end : EndName) × (mode : List ℕ) × AskIs tail said end mode
unfolding is_line
ask_spelled tail (line.Ask end mode) spells =
    (end, mode, record { line_is = refl; tail_is = spells.tail_is; named = spells.in_range })
ask_spelled tail other spells = let verb : verb_of other ≡ Ask = spells.verb_is in cc

-- a `relay` line
pub record RelayIs (tail : List ℕ) (said : Line) (end : EndName) (mode : List ℕ) : Type 0 where
  pub line_is : said ≡ line.Relay end mode
  pub tail_is : tail ≡ spaced (end_text end) mode
  pub named : IsTrue (is_name mode)

pub relay_spelled : (tail : List ℕ) (said : Line) → Spells Relay tail said → (end : EndName) × (mode : List ℕ) × RelayIs tail said end mode
unfolding is_line
relay_spelled tail (line.Relay end mode) spells =
    (end, mode, record { line_is = refl; tail_is = spells.tail_is; named = spells.in_range })
relay_spelled tail other spells = let verb : verb_of other ≡ Relay = spells.verb_is in cc

pub lost_spelled : (tail : List ℕ) (said : Line) → Spells Lost tail said → (end : EndName) × (from : Option EndName) × (number : ℕ) × ArrivalIs line.Lost tail said end from number
unfolding is_line
lost_spelled tail (line.Lost end from number) spells = (
  end,
  from,
  number,
  record { line_is = refl; tail_is = spells.tail_is ∙ lost_tail end from number; small = ltb-true number (2 ^ 64) spells.in_range },
)
lost_spelled tail other spells = let verb : verb_of other ≡ Lost = spells.verb_is in cc

-- a `pair` line
pub record PairIs (tail : List ℕ) (said : Line) (end : EndName) (mode : List ℕ) (number : ℕ) : Type 0 where
  pub line_is : said ≡ line.Pair end mode number
  pub tail_is : tail ≡ spaced (end_text end) (spaced mode (decimal number))
  pub named : IsTrue (is_name mode)
  pub small : number < 2 ^ 64

pub pair_spelled : (tail : List ℕ) (said : Line) → Spells Pair tail said → (end : EndName) × (mode : List ℕ) × (number : ℕ) × PairIs tail said end mode number
unfolding is_line
pair_spelled tail (line.Pair end mode number) spells =
    let parts = and_parts (is_name mode) (nat_lt number (2 ^ 64)) spells.in_range in (
      end,
      mode,
      number,
      record { line_is = refl; tail_is = spells.tail_is; named = parts.0; small = ltb-true number (2 ^ 64) parts.1 },
    )
pair_spelled tail other spells = let verb : verb_of other ≡ Pair = spells.verb_is in cc

-- a line that names an endpoint and a number
counted_is : (counted of_line : Counted) (tail : List ℕ) (end : EndName) (number : ℕ) → tail ≡ spaced (end_text end) (decimal number) → number < 2 ^ 64 → Count of_line ≡ Count counted → (end_is : EndName) × (number_is : ℕ) × NumberedIs (counted_line counted) tail (counted_line of_line end number) end_is number_is
counted_is counted of_line tail end number tail_is small verb =
    let same : of_line ≡ counted = cc in (
      end,
      number,
      record { line_is = ap (λ (c : Counted). counted_line c end number) same; tail_is = tail_is; small = small },
    )

pub counted_spelled : (counted : Counted) (tail : List ℕ) (said : Line) → Spells (Count counted) tail said → (end : EndName) × (number : ℕ) × NumberedIs (counted_line counted) tail said end number
unfolding is_line
counted_spelled counted tail (line.Read end number) s = counted_is counted Read tail end number s.tail_is (ltb-true number (2 ^ 64) s.in_range) s.verb_is
counted_spelled counted tail (line.Status end number) s = counted_is counted Status tail end number s.tail_is (ltb-true number (2 ^ 64) s.in_range) s.verb_is
counted_spelled counted tail other spells = let verb : verb_of other ≡ Count counted = spells.verb_is in cc

pub crash_spelled : (tail : List ℕ) (said : Line) → Spells Crash tail said → (end : EndName) × (said ≡ line.Crash end) × (tail ≡ end_text end)
crash_spelled tail (line.Crash end) spells = (end, refl, spells.tail_is)
crash_spelled tail other spells = let verb : verb_of other ≡ Crash = spells.verb_is in cc

-- a stop
pub record StopIs (tail : List ℕ) (said : Line) (call : ℕ) (pick : Pick) (l : Stoppable) : Type 0 where
  pub line_is : said ≡ line.Stop call pick l
  pub tail_is : tail ≡ spaced (decimal call) (spaced (pick_text pick) (stoppable_text l))
  pub some : 1 ≤ call
  pub few : call ≤ 4
  pub small : IsTrue (is_stoppable l)

pub stop_spelled : (tail : List ℕ) (said : Line) → Spells Stop tail said → (call : ℕ) × (pick : Pick) × (l : Stoppable) × StopIs tail said call pick l
unfolding is_line
stop_spelled tail (line.Stop call pick l) spells =
    let some = and_parts (nat_le 1 call) (nat_le call 4 && is_stoppable l) spells.in_range in
    let few = and_parts (nat_le call 4) (is_stoppable l) some.1 in (
      call,
      pick,
      l,
      record {
        line_is = refl;
        tail_is = spells.tail_is ∙ stop_tail call pick l;
        some = leb-true 1 call some.0;
        few = leb-true call 4 few.0;
        small = few.1;
      },
    )
stop_spelled tail other spells = let verb : verb_of other ≡ Stop = spells.verb_is in cc

pub fold_spelled : (tail : List ℕ) (said : Line) → Spells Fold tail said → (end : EndName) × (said ≡ line.Fold end) × (tail ≡ end_text end)
fold_spelled tail (line.Fold end) spells = (end, refl, spells.tail_is)
fold_spelled tail other spells = let verb : verb_of other ≡ Fold = spells.verb_is in cc

-- the same parts make the same line

pub mode_again : (said : Line) (name found : List ℕ) (link found_link : Option LinkName) (way found_way : Way) (retries period found_retries found_period : ℕ) → said ≡ line.Mode name link way retries period → found ≡ name → ◌≡◌ {A = Option (Option LinkName × (Way × ℕ × ℕ))} (Some (found_link, (found_way, found_retries, found_period))) (Some (link, (way, retries, period))) → Some (line.Mode found found_link found_way found_retries found_period) ≡ Some said
mode_again said name found link found_link way found_way retries period found_retries found_period is same settings =
    let parts : ◌≡◌ {A = Option LinkName × (Way × ℕ × ℕ)} (found_link, (found_way, found_retries, found_period)) (link, (way, retries, period)) = cc in
    let links : found_link ≡ link = ap (λ (p : Option LinkName × (Way × ℕ × ℕ)). p.0) parts in
    let ways : found_way ≡ way = ap (λ (p : Option LinkName × (Way × ℕ × ℕ)). p.1.0) parts in
    let retried : found_retries ≡ retries = ap (λ (p : Option LinkName × (Way × ℕ × ℕ)). p.1.1) parts in
    let periods : found_period ≡ period = ap (λ (p : Option LinkName × (Way × ℕ × ℕ)). p.1.2) parts in
    cc

pub submit_again : (said : Stoppable) (end found_end : EndName) (mode found : List ℕ) (load found_load : ScriptLoad) → said ≡ stoppable.Submit end mode load → found_end ≡ end → found ≡ mode → Some found_load ≡ Some load → Some (stoppable.Submit found_end found found_load) ≡ Some said
submit_again said end found_end mode found load found_load is ends modes loads = cc

-- the endpoint and the number that were found
pub found_parts : (end found_end : EndName) (number found_number : ℕ) → ◌≡◌ {A = Option (EndName × ℕ)} (Some (found_end, found_number)) (Some (end, number)) → (found_end ≡ end) × (found_number ≡ number)
found_parts end found_end number found_number found =
    let parts : ◌≡◌ {A = EndName × ℕ} (found_end, found_number) (end, number) = cc in
    (ap (λ (p : EndName × ℕ). p.0) parts, ap (λ (p : EndName × ℕ). p.1) parts)

pub numbered_again : {X : Type 0} (make : EndName → ℕ → X) (tail : List ℕ) (said : X) (end found_end : EndName) (number found_number : ℕ) → NumberedIs make tail said end number → ◌≡◌ {A = Option (EndName × ℕ)} (Some (found_end, found_number)) (Some (end, number)) → Some (make found_end found_number) ≡ Some said
numbered_again make tail said end found_end number found_number is found =
    let parts = found_parts end found_end number found_number found in
    ap Some ((λ i. make (parts.0 i) (parts.1 i)) ∙ sym is.line_is)

pub arrival_again : {X : Type 0} (make : EndName → Option EndName → ℕ → X) (tail : List ℕ) (said : X) (end found_end : EndName) (from found_from : Option EndName) (number found_number : ℕ) → ArrivalIs make tail said end from number → ◌≡◌ {A = Option (EndName × Option EndName × ℕ)} (Some (found_end, found_from, found_number)) (Some (end, from, number)) → Some (make found_end found_from found_number) ≡ Some said
arrival_again make tail said end found_end from found_from number found_number is found =
    let parts : ◌≡◌ {A = EndName × Option EndName × ℕ} (found_end, found_from, found_number) (end, from, number) = cc in
    ap Some (ap (λ (p : EndName × Option EndName × ℕ). make p.0 p.1 p.2) parts ∙ sym is.line_is)

pub pair_again : (said : Line) (end found_end : EndName) (mode found : List ℕ) (number found_number : ℕ) → said ≡ line.Pair end mode number → found_end ≡ end → found ≡ mode → found_number ≡ number → Some (line.Pair found_end found found_number) ≡ Some said
pair_again said end found_end mode found number found_number is ends modes numbers = cc

pub stop_again : (said : Line) (call found_call : ℕ) (pick found_pick : Pick) (l found : Stoppable) → said ≡ line.Stop call pick l → found_call ≡ call → found_pick ≡ pick → Some found ≡ Some l → Some (line.Stop found_call found_pick found) ≡ Some said
stop_again said call found_call pick found_pick l found is calls picks lines = cc

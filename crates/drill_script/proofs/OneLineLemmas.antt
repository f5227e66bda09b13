-- A text is that of at most one line.
use Rattle.std.proofs.Common.{◌≡◌, ℕ, ◌==◌, if◌then◌else◌, ◌^◌, ◌<◌, ◌≤◌, List, [], get_or, Option, Some, None, IsTrue, codes, refl, sym, ◌∙◌, ap, arith}
use Rattle.std.specs.Fmt.{decimal}
use Rattle.std.proofs.lemmas.Bool.{leb-true}
use Rattle.std.proofs.lemmas.Fmt.{decimal_injective}
use Rattle.std.proofs.lemmas.List.{append-nil, append_cancel_left}
use Rattle.as4_disk.specs.declared.change.Pick.{Pick}
use Rattle.as4_disk.specs.declared.change.Pick.TheVariants.{Old, New, Other}
use Rattle.drill_script.specs.Lacking.{spaced}
use Rattle.drill_script.specs.LineText.{line_text, line_words, is_line, is_load, is_stoppable, end_text, link_text, way_text, pick_text, load_text, hex_text, stoppable_text, stoppable_words}
use Rattle.drill_script.specs.LineParts.{Spells, SpellsRun, run_verb_of, run_verb_text, verb_of, verb_text, tail_of, settings_text, linked_text, arrival_text}
use Rattle.drill_script.specs.declared.line.EndName.{EndName}
use Rattle.drill_script.specs.declared.line.EndName.TheVariants.{A, B, First, Hub, Last}
use Rattle.drill_script.specs.declared.line.LinkName.{LinkName}
use Rattle.drill_script.specs.declared.line.LinkName.TheVariants.{Front, Rear}
use Rattle.drill_script.specs.declared.line.Line.{Line}
use Rattle.drill_script.specs.declared.line.ScriptLoad.{ScriptLoad}
use Rattle.drill_script.specs.declared.line.ScriptLoad.TheVariants.{Nothing, Hex, Size}
use Rattle.drill_script.specs.declared.line.Line.TheVariants as line
use Rattle.drill_script.specs.declared.line.Stoppable.{Stoppable}
use Rattle.drill_script.specs.declared.line.Way.{Way}
use Rattle.drill_script.specs.declared.line.Way.TheVariants.{Push, Pull}
use Rattle.drill_script.specs.declared.verb.RunVerb.{RunVerb}
use Rattle.drill_script.specs.declared.verb.RunVerb.TheVariants.{Submit, Tick, Take, Came, Confirm}
use Rattle.drill_script.specs.declared.verb.Verb.{Verb}
use Rattle.drill_script.specs.declared.verb.Verb.TheVariants.{Mode, Run, Ask, Relay, Pair, Lost, Count, Crash, Stop, Fold}
use Rattle.drill_script.proofs.HexLemmas.{hex_done}
use Rattle.byte_forms.proofs.PartedLemmas.{one_cut}
use Rattle.drill_script.proofs.LineLemmas.{line_parts, run_parts, verb_unspaced, one_verb, one_run_verb}
use Rattle.drill_script.proofs.LoadLemmas.{none_only, none_text, hex_load_text, size_load_text}
use Rattle.drill_script.proofs.SpellLemmas.{ArrivalIs, NumberedIs, ask_spelled, lost_spelled, relay_spelled, came_spelled, confirm_spelled, counted_spelled, crash_spelled, fold_spelled, mode_spelled, pair_spelled, run_spelled, stop_spelled, submit_spelled, take_spelled, tick_spelled}
use Rattle.drill_script.proofs.WordLemmas.{end_unspaced, link_unspaced, link_is_no_way, number_is_alone, way_unspaced, pick_unspaced, decimal_unspaced, name_unspaced}

end_from : List ℕ → EndName
end_from text =
    let first = get_or text 0 0 in
    if first == 97 then A else (if first == 98 then B else (if first == 102 then First else (if first == 104 then Hub else Last)))

end_from_text : (end : EndName) → end_from (end_text end) ≡ end
unfolding end_from
end_from_text A = refl
end_from_text B = refl
end_from_text First = refl
end_from_text Hub = refl
end_from_text Last = refl

one_end : (end other : EndName) → end_text end ≡ end_text other → end ≡ other
one_end end other same = sym (end_from_text end) ∙ ap end_from same ∙ end_from_text other

one_link : (link other : LinkName) → link_text link ≡ link_text other → link ≡ other
one_link Front Front same = refl
one_link Front Rear same = absurd (omega (arith, ap (λ (l : List ℕ). get_or l 0 0) same))
one_link Rear Front same = absurd (omega (arith, ap (λ (l : List ℕ). get_or l 0 0) same))
one_link Rear Rear same = refl

one_way : (way other : Way) → way_text way ≡ way_text other → way ≡ other
one_way Push Push same = refl
one_way Push Pull same = absurd (omega (arith, ap (λ (l : List ℕ). get_or l 2 0) same))
one_way Pull Push same = absurd (omega (arith, ap (λ (l : List ℕ). get_or l 2 0) same))
one_way Pull Pull same = refl

one_pick : (pick other : Pick) → pick_text pick ≡ pick_text other → pick ≡ other
one_pick Old Old same = refl
one_pick Old New same = absurd (omega (arith, ap (λ (l : List ℕ). get_or l 0 0) same))
one_pick Old Other same = absurd (omega (arith, ap (λ (l : List ℕ). get_or l 1 0) same))
one_pick New Old same = absurd (omega (arith, ap (λ (l : List ℕ). get_or l 0 0) same))
one_pick New New same = refl
one_pick New Other same = absurd (omega (arith, ap (λ (l : List ℕ). get_or l 0 0) same))
one_pick Other Old same = absurd (omega (arith, ap (λ (l : List ℕ). get_or l 1 0) same))
one_pick Other New same = absurd (omega (arith, ap (λ (l : List ℕ). get_or l 0 0) same))
one_pick Other Other same = refl

hex_is_not_size : (bytes : List ℕ) (size : ℕ) → load_text (Hex bytes) ≡ load_text (Size size) → ⊥
hex_is_not_size bytes size same = omega (arith, ap (λ (l : List ℕ). get_or l 0 0) (sym (hex_load_text bytes) ∙ same ∙ size_load_text size))

one_load : (load other : ScriptLoad) → IsTrue (is_load load) → IsTrue (is_load other) → load_text load ≡ load_text other → load ≡ other
one_load Nothing other first second same = none_only (load_text Nothing) other none_text same
one_load load Nothing first second same = sym (none_only (load_text Nothing) load none_text (sym same))
one_load (Hex bytes) (Hex others) first second same =
    let text : hex_text bytes ≡ hex_text others = append_cancel_left (codes "hex=") (hex_text bytes) (hex_text others) (sym (hex_load_text bytes) ∙ same ∙ hex_load_text others) in
    ap Hex (hex_done (hex_text bytes) bytes others [] (sym (append-nil (hex_text bytes))) text first second refl)
one_load (Hex bytes) (Size size) first second same = absurd (hex_is_not_size bytes size same)
one_load (Size size) (Hex bytes) first second same = absurd (hex_is_not_size bytes size (sym same))
one_load (Size size) (Size other) first second same =
    let text : decimal size ≡ decimal other = append_cancel_left (codes "size=") (decimal size) (decimal other) (sym (size_load_text size) ∙ same ∙ size_load_text other) in
    let low : size ≤ 16777216 = leb-true size 16777216 first in
    let other_low : other ≤ 16777216 = leb-true other 16777216 second in
    ap Size (decimal_injective size other (omega arith) (omega arith) text)

one_spaced_end : (end other : EndName) (rest behind : List ℕ) → spaced (end_text end) rest ≡ spaced (end_text other) behind → (end ≡ other) × (rest ≡ behind)
one_spaced_end end other rest behind same =
    let parts = one_cut 32 (end_text end) rest (end_text other) behind same (end_unspaced end) (end_unspaced other) in
    (one_end end other parts.0, parts.1)

one_settings : (way other_way : Way) (retries other_retries period other_period : ℕ) → retries ≤ 1000 → other_retries ≤ 1000 → period ≤ 1000000000 → other_period ≤ 1000000000 → settings_text way retries period ≡ settings_text other_way other_retries other_period → (way ≡ other_way) × (retries ≡ other_retries) × (period ≡ other_period)
one_settings way other_way retries other_retries period other_period few other_few short other_short same =
    let ways = one_cut 32 (way_text way) (spaced (decimal retries) (decimal period)) (way_text other_way) (spaced (decimal other_retries) (decimal other_period)) same (way_unspaced way) (way_unspaced other_way) in
    let numbers = one_cut 32 (decimal retries) (decimal period) (decimal other_retries) (decimal other_period) ways.1 (decimal_unspaced retries (omega arith)) (decimal_unspaced other_retries (omega arith)) in (
      one_way way other_way ways.0,
      decimal_injective retries other_retries (omega arith) (omega arith) numbers.0,
      decimal_injective period other_period (omega arith) (omega arith) numbers.1,
    )

one_linked : (link other_link : Option LinkName) (way other_way : Way) (retries other_retries period other_period : ℕ) → retries ≤ 1000 → other_retries ≤ 1000 → period ≤ 1000000000 → other_period ≤ 1000000000 → linked_text link (settings_text way retries period) ≡ linked_text other_link (settings_text other_way other_retries other_period) → (link ≡ other_link) × (way ≡ other_way) × (retries ≡ other_retries) × (period ≡ other_period)
one_linked None None way other_way retries other_retries period other_period few other_few short other_short same =
    let settings = one_settings way other_way retries other_retries period other_period few other_few short other_short same in
    (refl, settings.0, settings.1, settings.2)
one_linked None (Some link) way other_way retries other_retries period other_period few other_few short other_short same =
    absurd (link_is_no_way link way _ _ (sym same))
one_linked (Some link) None way other_way retries other_retries period other_period few other_few short other_short same =
    absurd (link_is_no_way link other_way _ _ same)
one_linked (Some link) (Some other) way other_way retries other_retries period other_period few other_few short other_short same =
    let cut = one_cut 32 (link_text link) (settings_text way retries period) (link_text other) (settings_text other_way other_retries other_period) same (link_unspaced link) (link_unspaced other) in
    let settings = one_settings way other_way retries other_retries period other_period few other_few short other_short cut.1 in
    (ap Some (one_link link other cut.0), settings.0, settings.1, settings.2)

one_arrival_text : (end other_end : EndName) (from other_from : Option EndName) (number other_number : ℕ) → number < 2 ^ 64 → other_number < 2 ^ 64 → arrival_text end from number ≡ arrival_text other_end other_from other_number → (end ≡ other_end) × (from ≡ other_from) × (number ≡ other_number)
one_arrival_text end other_end None None number other_number small other_small same =
    let parts = one_spaced_end end other_end (decimal number) (decimal other_number) same in
    (parts.0, refl, decimal_injective number other_number small other_small parts.1)
one_arrival_text end other_end None (Some from) number other_number small other_small same =
    let parts = one_spaced_end end other_end (decimal number) (spaced (end_text from) (decimal other_number)) same in
    absurd (number_is_alone number from (decimal other_number) small parts.1)
one_arrival_text end other_end (Some from) None number other_number small other_small same =
    let parts = one_spaced_end end other_end (spaced (end_text from) (decimal number)) (decimal other_number) same in
    absurd (number_is_alone other_number from (decimal number) other_small (sym parts.1))
one_arrival_text end other_end (Some from) (Some other) number other_number small other_small same =
    let parts = one_spaced_end end other_end (spaced (end_text from) (decimal number)) (spaced (end_text other) (decimal other_number)) same in
    let names = one_spaced_end from other (decimal number) (decimal other_number) parts.1 in
    (parts.0, ap Some names.0, decimal_injective number other_number small other_small names.1)

-- arrivals
one_arrival : {X : Type 0} (make : EndName → Option EndName → ℕ → X) (tail : List ℕ) (one other : X) (end other_end : EndName) (from other_from : Option EndName) (number other_number : ℕ) → ArrivalIs make tail one end from number → ArrivalIs make tail other other_end other_from other_number → one ≡ other
one_arrival make tail one other end other_end from other_from number other_number a b =
    let parts = one_arrival_text end other_end from other_from number other_number a.small b.small (sym a.tail_is ∙ b.tail_is) in
    a.line_is ∙ (λ i. make (parts.0 i) (parts.1 i) (parts.2 i)) ∙ sym b.line_is

-- lines that name only an endpoint
one_alone : {X : Type 0} (make : EndName → X) (tail : List ℕ) (one other : X) → (end : EndName) × (one ≡ make end) × (tail ≡ end_text end) → (end : EndName) × (other ≡ make end) × (tail ≡ end_text end) → one ≡ other
one_alone make tail one other a b = let ends : a.0 ≡ b.0 = one_end a.0 b.0 (sym a.2 ∙ b.2) in a.1 ∙ ap make ends ∙ sym b.1

-- lines that name an endpoint and a number
one_numbered : {X : Type 0} (make : EndName → ℕ → X) (tail : List ℕ) (one other : X) (end other_end : EndName) (number other_number : ℕ) → NumberedIs make tail one end number → NumberedIs make tail other other_end other_number → one ≡ other
one_numbered make tail one other end other_end number other_number a b =
    let parts = one_spaced_end end other_end (decimal number) (decimal other_number) (sym a.tail_is ∙ b.tail_is) in
    let numbers : number ≡ other_number = decimal_injective number other_number a.small b.small parts.1 in
    a.line_is ∙ (λ i. make (parts.0 i) (numbers i)) ∙ sym b.line_is

one_run_spelled : (verb : RunVerb) (tail : List ℕ) (one other : Stoppable) → SpellsRun verb tail one → SpellsRun verb tail other → one ≡ other
one_run_spelled Submit tail one other first second =
    let a = submit_spelled tail one first in
    let b = submit_spelled tail other second in
    let parts = one_spaced_end a.0 b.0 (spaced a.1 (load_text a.2)) (spaced b.1 (load_text b.2)) (sym a.3.tail_is ∙ b.3.tail_is) in
    let modes = one_cut 32 a.1 (load_text a.2) b.1 (load_text b.2) parts.1 (name_unspaced a.1 a.3.named) (name_unspaced b.1 b.3.named) in
    let loads : a.2 ≡ b.2 = one_load a.2 b.2 a.3.loaded b.3.loaded modes.1 in
    cc (a.3.line_is, b.3.line_is, parts.0, modes.0, loads)
one_run_spelled Tick tail one other first second =
    let a = tick_spelled tail one first in
    let b = tick_spelled tail other second in
    one_numbered _ tail one other a.0 b.0 a.1 b.1 a.2 b.2
one_run_spelled Take tail one other first second = one_alone _ tail one other (take_spelled tail one first) (take_spelled tail other second)
one_run_spelled Came tail one other first second =
    let a = came_spelled tail one first in
    let b = came_spelled tail other second in
    one_arrival _ tail one other a.0 b.0 a.1 b.1 a.2 b.2 a.3 b.3
one_run_spelled Confirm tail one other first second =
    let a = confirm_spelled tail one first in
    let b = confirm_spelled tail other second in
    one_numbered _ tail one other a.0 b.0 a.1 b.1 a.2 b.2

one_stoppable : (one other : Stoppable) → IsTrue (is_stoppable one) → IsTrue (is_stoppable other) → stoppable_text one ≡ stoppable_text other → one ≡ other
one_stoppable one other first second same =
    let cut = one_cut 32 (run_verb_text (run_verb_of one)) (tail_of (stoppable_words one)) (run_verb_text (run_verb_of other)) (tail_of (stoppable_words other)) (sym (run_parts one) ∙ same ∙ run_parts other) (verb_unspaced (Run (run_verb_of one))) (verb_unspaced (Run (run_verb_of other))) in
    let verbs : run_verb_of other ≡ run_verb_of one = sym (one_run_verb (run_verb_of one) (run_verb_of other) cut.0) in
    one_run_spelled (run_verb_of one) (tail_of (stoppable_words one)) one other
    (record { verb_is = refl; tail_is = refl; in_range = first })
    (record { verb_is = verbs; tail_is = cut.1; in_range = second })

one_spelled : (verb : Verb) (tail : List ℕ) (one other : Line) → Spells verb tail one → Spells verb tail other → one ≡ other
one_spelled Mode tail one other first second =
    let a = mode_spelled tail one first in
    let b = mode_spelled tail other second in
    let names = one_cut 32 a.0 (linked_text a.1 (settings_text a.2 a.3 a.4)) b.0 (linked_text b.1 (settings_text b.2 b.3 b.4)) (sym a.5.tail_is ∙ b.5.tail_is) (name_unspaced a.0 a.5.named) (name_unspaced b.0 b.5.named) in
    let settings = one_linked a.1 b.1 a.2 b.2 a.3 b.3 a.4 b.4 a.5.few b.5.few a.5.short b.5.short names.1 in
    cc (a.5.line_is, b.5.line_is, names.0, settings.0, settings.1, settings.2, settings.3)
one_spelled (Run verb) tail one other first second =
    let a = run_spelled verb tail one first in
    let b = run_spelled verb tail other second in
    a.1 ∙ ap line.Run (one_run_spelled verb tail a.0 b.0 a.2 b.2) ∙ sym b.1
one_spelled Ask tail one other first second =
    let a = ask_spelled tail one first in
    let b = ask_spelled tail other second in
    let parts = one_spaced_end a.0 b.0 a.1 b.1 (sym a.2.tail_is ∙ b.2.tail_is) in
    cc (a.2.line_is, b.2.line_is, parts.0, parts.1)
one_spelled Relay tail one other first second =
    let a = relay_spelled tail one first in
    let b = relay_spelled tail other second in
    let parts = one_spaced_end a.0 b.0 a.1 b.1 (sym a.2.tail_is ∙ b.2.tail_is) in
    cc (a.2.line_is, b.2.line_is, parts.0, parts.1)
one_spelled Lost tail one other first second =
    let a = lost_spelled tail one first in
    let b = lost_spelled tail other second in
    one_arrival _ tail one other a.0 b.0 a.1 b.1 a.2 b.2 a.3 b.3
one_spelled Pair tail one other first second =
    let a = pair_spelled tail one first in
    let b = pair_spelled tail other second in
    let parts = one_spaced_end a.0 b.0 (spaced a.1 (decimal a.2)) (spaced b.1 (decimal b.2)) (sym a.3.tail_is ∙ b.3.tail_is) in
    let modes = one_cut 32 a.1 (decimal a.2) b.1 (decimal b.2) parts.1 (name_unspaced a.1 a.3.named) (name_unspaced b.1 b.3.named) in
    let numbers : a.2 ≡ b.2 = decimal_injective a.2 b.2 a.3.small b.3.small modes.1 in
    cc (a.3.line_is, b.3.line_is, parts.0, modes.0, numbers)
one_spelled (Count counted) tail one other first second =
    let a = counted_spelled counted tail one first in
    let b = counted_spelled counted tail other second in
    one_numbered _ tail one other a.0 b.0 a.1 b.1 a.2 b.2
one_spelled Crash tail one other first second = one_alone _ tail one other (crash_spelled tail one first) (crash_spelled tail other second)
one_spelled Stop tail one other first second =
    let a = stop_spelled tail one first in
    let b = stop_spelled tail other second in
    let low : a.0 ≤ 4 = a.3.few in
    let other_low : b.0 ≤ 4 = b.3.few in
    let calls = one_cut 32 (decimal a.0) (spaced (pick_text a.1) (stoppable_text a.2)) (decimal b.0) (spaced (pick_text b.1) (stoppable_text b.2)) (sym a.3.tail_is ∙ b.3.tail_is) (decimal_unspaced a.0 (omega arith)) (decimal_unspaced b.0 (omega arith)) in
    let picks = one_cut 32 (pick_text a.1) (stoppable_text a.2) (pick_text b.1) (stoppable_text b.2) calls.1 (pick_unspaced a.1) (pick_unspaced b.1) in
    let call : a.0 ≡ b.0 = decimal_injective a.0 b.0 (omega arith) (omega arith) calls.0 in
    let pick : a.1 ≡ b.1 = one_pick a.1 b.1 picks.0 in
    let run : a.2 ≡ b.2 = one_stoppable a.2 b.2 a.3.small b.3.small picks.1 in
    cc (a.3.line_is, b.3.line_is, call, pick, run)
one_spelled Fold tail one other first second = one_alone _ tail one other (fold_spelled tail one first) (fold_spelled tail other second)

pub one_line : (one other : Line) → IsTrue (is_line one) → IsTrue (is_line other) → line_text one ≡ line_text other → one ≡ other
one_line one other first second same =
    let cut = one_cut 32 (verb_text (verb_of one)) (tail_of (line_words one)) (verb_text (verb_of other)) (tail_of (line_words other)) (sym (line_parts one) ∙ same ∙ line_parts other) (verb_unspaced (verb_of one)) (verb_unspaced (verb_of other)) in
    let verbs : verb_of other ≡ verb_of one = sym (one_verb (verb_of one) (verb_of other) cut.0) in
    one_spelled (verb_of one) (tail_of (line_words one)) one other
    (record { verb_is = refl; tail_is = refl; in_range = first })
    (record { verb_is = verbs; tail_is = cut.1; in_range = second })

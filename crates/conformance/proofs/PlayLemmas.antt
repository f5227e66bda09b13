-- A script has one transcript.
use Rattle.std.proofs.Common.{◌≡◌, ℕ, suc, ◌+◌, ◌<◌, ◌≤◌, true, false, IsTrue, List, [], ◌∷◌, ◌++◌, length, Option, Some, inl, inr, refl, sym, ap, ◌∙◌, subst, arith, append_assoc, length-append}
use Rattle.std.proofs.lemmas.Bool.{and_parts}
use Rattle.std.proofs.lemmas.List.{append-nil, append_cancel_left}
use Rattle.std.proofs.lemmas.List.Concat.{flat_map-cons}
use Rattle.as4_flow.specs.Flow.{Streams, appended}
use Rattle.byte_forms.proofs.PartedLemmas.{one_cut}
use Rattle.drill.specs.Ends.{Ends, IsOutside, IsTooMuch}
use Rattle.drill.specs.Playing.{pair_meaning}
use Rattle.drill_world.specs.Transcript.{DrillState, Plays, PlaysAll, doing_of, end_lines, is_right, is_too_many, lines_limit, new_state, script_text}
use Rattle.drill.specs.declared.script.DrillEnd.TheVariants as ends
use Rattle.drill_world.proofs.OneTranscript.{one_transcript}
use Rattle.drill.proofs.UnbrokenLemmas.{line_unbroken}
use Rattle.drill_script.specs.LineText.{is_line, line_text}
use Rattle.drill_script.specs.declared.line.Line.{Line}
use Rattle.drill_script.proofs.OneLineLemmas.{one_line}
use Rattle.conformance.specs.Plays.{Closes, IsTranscript}

line_of_right : (l : Line) (state : DrillState) → IsTrue (is_right l state) → IsTrue (is_line l)
line_of_right l state right = (and_parts (is_line l) _ right).0

-- bytes begin with one line
one_next : (l m : Line) (a b : DrillState) (more behind : List ℕ) → IsTrue (is_right l a) → IsTrue (is_right m b)
    → line_text l ++ 10 ∷ more ≡ line_text m ++ 10 ∷ behind → (l ≡ m) × (more ≡ behind)
one_next l m a b more behind here there same =
    let first = line_of_right l a here in
    let other = line_of_right m b there in
    let cut = one_cut 10 (line_text l) more (line_text m) behind same (line_unbroken l first) (line_unbroken m other) in
    (one_line l m first other cut.0, cut.1)

-- after this number of lines, no further line can be played here
Halts : ℕ → DrillState → List ℕ → Type 0
Halts count state rest =
    (l : Line) (more : List ℕ) → rest ≡ line_text l ++ 10 ∷ more → IsTrue (is_right l state) → is_too_many l state ≡ false → count < lines_limit → ⊥

text_next : (l : Line) (lines : List Line) (rest : List ℕ) → script_text (l ∷ lines) ++ rest ≡ line_text l ++ 10 ∷ (script_text lines ++ rest)
text_next l lines rest =
    ap (λ (t : List ℕ). t ++ rest) (flat_map-cons (λ l. line_text l ++ 10 ∷ []) l lines)
    ∙ append_assoc (line_text l ++ 10 ∷ []) (script_text lines) rest
    ∙ append_assoc (line_text l) (10 ∷ []) (script_text lines ++ rest)

one_step : (l : Line) (old a b : DrillState) (text words : List ℕ) → IsTrue (is_right l old) → is_too_many l old ≡ false
    → Plays l (doing_of old.world l) old text a → Plays l (doing_of old.world l) old words b → a ≡ b
one_step l old a b text words right few h k =
    (one_transcript (l ∷ []) old a b text words
    (a, text, [], right, few, h, (refl, refl), sym (append-nil text)) (b, words, [], right, few, k, (refl, refl), sym (append-nil words))).1

-- one script is cut into lines in one way, where no further line can be played
same_lines : (count : ℕ) (lines others : List Line) (old a b : DrillState) (text words rest behind : List ℕ)
    → PlaysAll lines old text a → PlaysAll others old words b → script_text lines ++ rest ≡ script_text others ++ behind
    → count + length lines ≤ lines_limit → count + length others ≤ lines_limit
    → Halts (count + length lines) a rest → Halts (count + length others) b behind → lines ≡ others
unfolding Halts
same_lines count [] [] old a b text words rest behind h k same few less here there = refl
same_lines count [] (m ∷ others) old a b text words rest behind h k same few less here there =
    absurd (here m (script_text others ++ behind) (same ∙ text_next m others behind)
    (subst (λ (s : DrillState). IsTrue (is_right m s)) (sym h.1) k.3) (subst (λ (s : DrillState). is_too_many m s ≡ false) (sym h.1) k.4) (omega (arith, less)))
same_lines count (l ∷ lines) [] old a b text words rest behind h k same few less here there =
    absurd (there l (script_text lines ++ rest) (sym same ∙ text_next l lines rest)
    (subst (λ (s : DrillState). IsTrue (is_right l s)) (sym k.1) h.3) (subst (λ (s : DrillState). is_too_many l s ≡ false) (sym k.1) h.4) (omega (arith, few)))
same_lines count (l ∷ lines) (m ∷ others) old a b text words rest behind h k same few less here there =
    let next = one_next l m old old (script_text lines ++ rest) (script_text others ++ behind) h.3 k.3 (sym (text_next l lines rest) ∙ same ∙ text_next m others behind) in
    let plays : Plays l (doing_of old.world l) old k.1 k.0 = subst (λ (x : Line). Plays x (doing_of old.world x) old k.1 k.0) (sym next.0) k.5 in
    let state : h.0 ≡ k.0 = one_step l old h.0 k.0 h.1 k.1 h.3 h.4 h.5 plays in
    let others_same : lines ≡ others =
    same_lines (count + 1) lines others k.0 a b h.2 k.2 rest behind (subst (λ (s : DrillState). PlaysAll lines s h.2 a) state h.6) k.6 next.1
    (omega (arith, few)) (omega (arith, less)) (subst (λ n. Halts n a rest) (step count (length lines)) here) (subst (λ n. Halts n b behind) (step count (length others)) there) in
    λ i. next.0 i ∷ others_same i
  where
    step : (count n : ℕ) → count + suc n ≡ count + 1 + n
    step count n = omega arith

nothing_next : (l : Line) (more : List ℕ) → [] ≡ line_text l ++ 10 ∷ more → ⊥
nothing_next l more same = omega (arith, ap length same, length-append (line_text l) (10 ∷ more))

end_halts : (count : ℕ) (state : DrillState) → Halts count state []
unfolding Halts
end_halts count state l more same right few below = nothing_next l more same

outside_halts : (lines : List Line) (state : DrillState) (rest : List ℕ) → IsOutside pair_meaning lines state rest → Halts (length lines) state rest
unfolding Halts
outside_halts lines state rest (some, inl full) l more same right few below = omega (arith, full, below)
outside_halts lines state rest (some, inr none) l more same right few below =
    let e : true ≡ false = sym right ∙ none l more same in absurd cc

too_much_halts : (lines : List Line) (state : DrillState) (rest : List ℕ) → IsTooMuch pair_meaning lines state rest → Halts (length lines) state rest
unfolding Halts
too_much_halts lines state rest much l more same right few below =
    let next = one_next much.0 l state state much.1 more much.3 right (sym much.2 ∙ same) in
    let e : true ≡ false = sym much.4 ∙ ap (λ (x : Line). is_too_many x state) next.0 ∙ few in absurd cc

-- what follows the lines of a transcript
rest_of : (lines : List Line) (state : DrillState) (words script text : List ℕ) → Closes lines state words script text → List ℕ
rest_of lines state words script text (inl end) = []
rest_of lines state words script text (inr outside) = outside.0

rest_parts : (lines : List Line) (state : DrillState) (words script text : List ℕ) (closes : Closes lines state words script text)
    → script ≡ script_text lines ++ rest_of lines state words script text closes
unfolding rest_of
rest_parts lines state words script text (inl end) = end.0 ∙ sym (append-nil (script_text lines))
rest_parts lines state words script text (inr outside) = outside.1

rest_halts : (lines : List Line) (state : DrillState) (words script text : List ℕ) (closes : Closes lines state words script text)
    → Halts (length lines) state (rest_of lines state words script text closes)
unfolding rest_of
rest_halts lines state words script text (inl end) = end_halts (length lines) state
rest_halts lines state words script text (inr outside) = outside_halts lines state outside.0 outside.2

-- a script was read to here, and no further line can be played
pub record ReadTo (lines : List Line) (words : List ℕ) (state : DrillState) (rest script : List ℕ) : Type 0 where
  plays : PlaysAll lines new_state words state
  few : length lines ≤ lines_limit
  parts : script ≡ script_text lines ++ rest
  halts : Halts (length lines) state rest

one_reading : (lines others : List Line) (words texts : List ℕ) (a b : DrillState) (rest behind script : List ℕ)
    → ReadTo lines words a rest script → ReadTo others texts b behind script → (lines ≡ others) × (words ≡ texts) × (a ≡ b) × (rest ≡ behind)
one_reading lines others words texts a b rest behind script here there =
    let same : lines ≡ others = same_lines 0 lines others new_state a b words texts rest behind here.plays there.plays (sym here.parts ∙ there.parts)
    (from_none (length lines) lines_limit here.few) (from_none (length others) lines_limit there.few)
    (subst (λ n. Halts n a rest) (sym (none (length lines))) here.halts) (subst (λ n. Halts n b behind) (sym (none (length others))) there.halts) in
    let played = one_transcript others new_state a b words texts (subst (λ (l : List Line). PlaysAll l new_state words a) same here.plays) there.plays in
    let rests : rest ≡ behind = append_cancel_left (script_text others) rest behind
    (sym (ap (λ (l : List Line). script_text l ++ rest) same) ∙ sym here.parts ∙ there.parts) in
    (same, played.0, played.1, rests)
  where
    none : (n : ℕ) → 0 + n ≡ n
    none n = omega arith

    from_none : (n most : ℕ) → n ≤ most → 0 + n ≤ most
    from_none n most few = omega arith

reading_of : (script text : List ℕ) (t : IsTranscript script text) → ReadTo t.0 t.1 t.2 (rest_of t.0 t.2 t.1 script text t.5) script
reading_of script text t = record {
  plays = t.3;
  few = t.4;
  parts = rest_parts t.0 t.2 t.1 script text t.5;
  halts = rest_halts t.0 t.2 t.1 script text t.5;
}

none_left : (lines : List Line) (rest : List ℕ) (state : DrillState) → [] ≡ rest → IsOutside pair_meaning lines state rest → ⊥
none_left lines rest state same outside = omega (arith, ap length same, outside.0)

pub one_text : (script text other : List ℕ) → IsTranscript script text → IsTranscript script other → text ≡ other
unfolding rest_of
one_text script text other (lines, words, state, plays, few, inl end) (others, texts, there, played, less, inl close) =
    let same = one_reading lines others words texts state there [] [] script (reading_of script text (lines, words, state, plays, few, inl end)) (reading_of script other (others, texts, there, played, less, inl close)) in
    end.1 ∙ ap (λ (w : List ℕ). w ++ end_lines state.world) same.1 ∙ ap (λ (s : DrillState). texts ++ end_lines s.world) same.2 ∙ sym close.1
one_text script text other (lines, words, state, plays, few, inl end) (others, texts, there, played, less, inr outside) =
    let same = one_reading lines others words texts state there [] outside.0 script (reading_of script text (lines, words, state, plays, few, inl end)) (reading_of script other (others, texts, there, played, less, inr outside)) in
    absurd (none_left others outside.0 there same.3 outside.2)
one_text script text other (lines, words, state, plays, few, inr out) (others, texts, there, played, less, inl close) =
    let same = one_reading lines others words texts state there out.0 [] script (reading_of script text (lines, words, state, plays, few, inr out)) (reading_of script other (others, texts, there, played, less, inl close)) in
    absurd (none_left lines out.0 state (sym same.3) out.2)
one_text script text other (lines, words, state, plays, few, inr out) (others, texts, there, played, less, inr outside) =
    let same = one_reading lines others words texts state there out.0 outside.0 script (reading_of script text (lines, words, state, plays, few, inr out)) (reading_of script other (others, texts, there, played, less, inr outside)) in
    out.3 ∙ same.1 ∙ sym outside.3

-- a drill over a source and a sink in memory

pub drill_read : (streams : Streams) (script out : List ℕ) → streams.left ≡ Some script → streams.taken ≡ Some [] → streams.later ≡ Some out
    → Ends pair_meaning ends.Read streams → IsTranscript script out
drill_read streams script out left taken later (lines, words, state, played, at, counts, leaves) =
    let parts : script ≡ script_text lines ++ [] = at.0 script left in
    let e : Some out ≡ Some (words ++ end_lines state.world) = sym later ∙ at.1 ∙ ap (λ (t : Option (List ℕ)). appended t (words ++ end_lines state.world)) taken in
    (lines, words, state, played.plays, played.few, inl (parts ∙ append-nil (script_text lines), cc))

pub drill_line : (streams : Streams) (script out : List ℕ) (number : ℕ) → streams.left ≡ Some script → streams.taken ≡ Some [] → streams.later ≡ Some out
    → Ends pair_meaning (ends.Line number) streams → IsTranscript script out
drill_line streams script out number left taken later (lines, words, state, played, at, counts, leaves) =
    let outside = at.2 script left in
    let e : Some out ≡ Some words = sym later ∙ at.1 ∙ ap (λ (t : Option (List ℕ)). appended t words) taken in
    (lines, words, state, played.plays, played.few, inr (outside.0, outside.1, outside.2, cc))

pub drill_too_many : (streams : Streams) (script text : List ℕ) → streams.left ≡ Some script → Ends pair_meaning ends.TooMany streams → ¬ IsTranscript script text
unfolding rest_of
drill_too_many streams script text left (lines, words, state, played, at, counts, leaves) (others, texts, there, plays, few, closes) =
    let much = at.1 script left in
    let here : ReadTo lines words state much.0 script = record { plays = played.plays; few = played.few; parts = much.1; halts = too_much_halts lines state much.0 much.2 } in
    let same = one_reading lines others words texts state there much.0 (rest_of others there texts script text closes) script here (reading_of script text (others, texts, there, plays, few, closes)) in
    never lines others state there much.0 texts script text closes much.2 same.0 same.2 same.3
  where
    never : (lines others : List Line) (state there : DrillState) (rest texts script text : List ℕ) (closes : Closes others there texts script text)
        → IsTooMuch pair_meaning lines state rest → lines ≡ others → state ≡ there → rest ≡ rest_of others there texts script text closes → ⊥
    never lines others state there rest texts script text (inl end) much a b c = nothing_next much.0 much.1 (sym c ∙ much.2)
    never lines others state there rest texts script text (inr (behind, parts, (some, inl full), same)) much a b c =
        omega (arith, full, ap length a, much.5)
    never lines others state there rest texts script text (inr (behind, parts, (some, inr none), same)) much a b c =
        let e : true ≡ false = sym much.3 ∙ ap (λ (s : DrillState). is_right much.0 s) b ∙ none much.0 much.1 (sym c ∙ much.2) in absurd cc

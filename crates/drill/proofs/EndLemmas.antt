-- How far a drill has come, and how it ends there.
use Rattle.std.proofs.Common.{◌≡◌, ℕ, ◌+◌, ◌<◌, ◌≤◌, inl, inr, Bool, true, false, List, [], ◌∷◌, ◌++◌, length, Option, None, Some, IsTrue, refl, sym, ◌∙◌, ap, subst, arith, append_assoc, length-append}
use Rattle.std.proofs.lemmas.List.{append-nil}
use Rattle.std.proofs.lemmas.List.Concat.{flat_map-append}
use Rattle.as4_flow.specs.Flow.{Rose, Flow, between, flow, Told, before, appended, LosesFront, TakesFront}
use Rattle.as4_flow.proofs.FlowLemmas.{before_nil, before_append, appended_nil, appended_append, takes_more}
use Rattle.drill.specs.Ends.{Ends, IsOutside, IsTooMuch, Played}
use Rattle.drill.specs.Next.{HoldsNoLine}
use Rattle.drill.specs.Running.{SoFar}
use Rattle.drill.specs.declared.play.Play.{Ghosts as PlayMeaning}
use Rattle.drill_world.specs.Transcript.{lines_limit, script_text}
use Rattle.drill.specs.declared.script.DrillEnd.TheVariants as ends
use Rattle.byte_forms.specs.Parted.{parted}
use Rattle.drill_script.specs.LineText.{line_text, is_line, line_limit}
use Rattle.drill_script.specs.Lines.{ahead_limit}
use Rattle.drill_script.specs.declared.line.Line.{Line}
use Rattle.byte_forms.proofs.PartedLemmas.{one_cut}
use Rattle.drill_script.proofs.OneLineLemmas.{one_line}
use Rattle.drill.proofs.UnbrokenLemmas.{line_unbroken}

-- what holds of every script of this kind
pub record Laws {P : Type 0} (M : PlayMeaning P) : Type 0 where
  pub none : (s : P) → M.plays_all [] s [] s
  pub more : (lines : List Line) (l : Line) (text words : List ℕ) (a b c : P) → M.plays_all lines a text b
      → M.right l b ≡ true → M.too_many l b ≡ false → M.plays l b words c → M.plays_all (lines ++ l ∷ []) a (text ++ words) c
  pub spelled : (l : Line) (s : P) → M.right l s ≡ true → IsTrue (is_line l) × (length (line_text l) ≤ line_limit)
  pub delivers : (lines : List Line) (text : List ℕ) (s : P) → M.plays_all lines M.first text s → M.delivers s

-- what can't be true is false
not_true : (b : Bool) → (b ≡ true → ⊥) → b ≡ false
not_true true never = absurd (never refl)
not_true false never = refl

-- what is nothing else is `None`
pub is_none : {X : Type 0} (o : Option X) → ((x : X) → o ≡ Some x → ⊥) → o ≡ None
is_none None never = refl
is_none (Some x) never = absurd (never x refl)

-- a line that is played
pub record Turn {P : Type 0} (M : PlayMeaning P) (l : Line) (words : List ℕ) (old new : P) : Type 0 where
  pub right : M.right l old ≡ true
  pub one_more : M.too_many l old ≡ false
  pub plays : M.plays l old words new

-- their text, and one more
script_more : (lines : List Line) (l : Line) → script_text (lines ++ l ∷ []) ≡ script_text lines ++ (line_text l ++ 10 ∷ [])
script_more lines l =
    flat_map-append (λ (m : Line). line_text m ++ 10 ∷ []) lines (l ∷ [])
    ∙ ap (λ (t : List ℕ). script_text lines ++ t) (append-nil (line_text l ++ 10 ∷ []))

came_more : (lines : List Line) (l : Line) (held : List ℕ) (start left : Option (List ℕ)) → start ≡ before (script_text lines) (before (parted 10 (line_text l) held) left)
    → start ≡ before (script_text (lines ++ l ∷ [])) (before held left)
came_more lines l held start left came =
    let cut : parted 10 (line_text l) held ≡ (line_text l ++ 10 ∷ []) ++ held = sym (append_assoc (line_text l) (10 ∷ []) held) in
    came
    ∙ ap (λ (t : List ℕ). before (script_text lines) (before t left)) cut
    ∙ ap (λ (told : Option (List ℕ)). before (script_text lines) told) (sym (before_append (line_text l ++ 10 ∷ []) held left))
    ∙ before_append (script_text lines) (line_text l ++ 10 ∷ []) (before held left)
    ∙ ap (λ (t : List ℕ). before t (before held left)) (sym (script_more lines l))

-- one line more is within the limit
count_more : (lines : List Line) (l : Line) (count : ℕ) → length lines ≡ count → length (lines ++ l ∷ []) ≡ count + 1
count_more lines l count counted = omega (arith, length-append lines (l ∷ []))

module _ (P : Type 0) (M : PlayMeaning P) (law : Laws M) where
  -- nothing has come
  pub so_far_none : (state : P) (held : List ℕ) (start : Flow) → state ≡ M.first → held ≡ [] → SoFar M state held 0 start start
  so_far_none state held start new none = record {
    lines = [];
    text = [];
    plays = subst (λ (s : P). M.plays_all [] M.first [] s) (sym new) (law.none M.first);
    counted = refl;
    few = omega arith;
    came = sym (before_nil (before held start.left) ∙ ap (λ (l : List ℕ). before l start.left) none ∙ before_nil start.left);
    ahead = omega (arith, ap length none);
    wrote = sym (appended_nil start.taken);
    read = refl;
    written = refl;
  }

  -- the source gave some of what is left
  pub so_far_read : (state : P) (held next : List ℕ) (count : ℕ) (start now : Flow) (left : Option (List ℕ)) (reads : ℕ)
      → before held now.left ≡ before next left → length next ≤ ahead_limit → reads ≡ now.reads → SoFar M state held count start now
      → SoFar M state next count start (flow left now.taken reads now.writes)
  so_far_read state held next count start now left reads same within quiet s = record {
    lines = s.lines;
    text = s.text;
    plays = s.plays;
    counted = s.counted;
    few = s.few;
    came = s.came ∙ ap (before (script_text s.lines)) same;
    ahead = within;
    wrote = s.wrote;
    read = quiet ∙ s.read;
    written = s.written;
  }

  -- what stands behind a line is no more than both
  held_less : (front held : List ℕ) → length (parted 10 front held) ≤ ahead_limit → length held ≤ ahead_limit
  held_less front held within = omega (arith, within, length-append front (10 ∷ held))

  -- a line was played and its text written
  pub so_far_played : (l : Line) (words : List ℕ) (state new : P) (held : List ℕ) (count : ℕ) (start now : Flow) (taken : Option (List ℕ)) (writes : ℕ)
      → SoFar M state (parted 10 (line_text l) held) count start now → Turn M l words state new → count < lines_limit
      → taken ≡ appended now.taken words → writes ≡ now.writes
      → SoFar M new held (count + 1) start (flow now.left taken now.reads writes)
  so_far_played l words state new held count start now taken writes s turn few wrote quiet = record {
    lines = s.lines ++ l ∷ [];
    text = s.text ++ words;
    plays = law.more s.lines l s.text words M.first state new s.plays turn.right turn.one_more turn.plays;
    counted = count_more s.lines l count s.counted;
    few = omega (arith, few);
    came = came_more s.lines l held start.left now.left s.came;
    ahead = held_less (line_text l) held s.ahead;
    wrote = wrote ∙ ap (λ (told : Option (List ℕ)). appended told words) s.wrote ∙ appended_append start.taken s.text words;
    read = s.read;
    written = quiet ∙ s.written;
  }

  played_so_far : (state : P) (held : List ℕ) (count : ℕ) (start now : Flow) (s : SoFar M state held count start now) → Played M s.lines s.text state
  played_so_far state held count start now s =
      record { plays = s.plays; few = omega (arith, s.counted, s.few); once = law.delivers s.lines s.text state s.plays }

  -- what the source has lost
  pub lost_so_far : (state : P) (held : List ℕ) (count : ℕ) (start now : Flow) (s : SoFar M state held count start now)
      → LosesFront (length (script_text s.lines) + ahead_limit) start.left now.left
  lost_so_far state held count start now s =
      (script_text s.lines ++ held, omega (arith, s.ahead, length-append (script_text s.lines) held), s.came ∙ before_append (script_text s.lines) held now.left)

  -- what is told behind a front
  rest_told : (front : List ℕ) (start rest : Option (List ℕ)) (P : List ℕ → Type 0) → start ≡ before front rest → Told rest P
      → Told start (λ script. (behind_it : List ℕ) × (script ≡ front ++ behind_it) × P behind_it)
  rest_told front start None P came told script is = absurd cc
  rest_told front start (Some rest) P came told script is =
      let same : script ≡ front ++ rest = cc in
      (rest, same, told rest refl)

  rest_is : (front : List ℕ) (start rest : Option (List ℕ)) → start ≡ before front rest
      → Told start (λ script. (behind_it : List ℕ) × (script ≡ front ++ behind_it))
  rest_is front start None came script is = absurd cc
  rest_is front start (Some rest) came script is =
      let same : script ≡ front ++ rest = cc in
      (rest, same)

  nothing_told : (front : List ℕ) (start rest : Option (List ℕ)) → start ≡ before front rest → Told rest (λ bytes. bytes ≡ [])
      → Told start (λ script. script ≡ front ++ [])
  nothing_told front start None came none script is = absurd cc
  nothing_told front start (Some rest) came none script is =
      let same : script ≡ front ++ rest = cc in
      same ∙ ap (λ (t : List ℕ). front ++ t) (none rest refl)

  -- bytes that hold no line are outside
  no_line_outside : (lines : List Line) (state : P) (rest : List ℕ) → HoldsNoLine rest → IsOutside M lines state rest
  no_line_outside lines state rest none = (none.0, inr (λ l more is. not_true (M.right l state) (λ right. never l more is right)))
    where
      never : (l : Line) (more : List ℕ) → rest ≡ line_text l ++ 10 ∷ more → M.right l state ≡ true → ⊥
      never l more is right =
          let spelled = law.spelled l state right in
          let low : length (line_text l) ≤ line_limit = spelled.1 in
          let long : line_limit < length (line_text l) = none.1 l more is spelled.0 in
          omega arith

  -- a line that isn't right here is the only one here
  wrong_outside : (lines : List Line) (state : P) (l : Line) (more rest : List ℕ) → rest ≡ line_text l ++ 10 ∷ more → IsTrue (is_line l)
      → M.right l state ≡ false → IsOutside M lines state rest
  wrong_outside lines state l more rest is said wrong = (
    omega (arith, ap length is, length-append (line_text l) (10 ∷ more)),
    inr (λ m others same. not_true (M.right m state) (λ right. never m others same right)),
  )
    where
      never : (m : Line) (others : List ℕ) → rest ≡ line_text m ++ 10 ∷ others → M.right m state ≡ true → ⊥
      never m others same right =
          let other : IsTrue (is_line m) = (law.spelled m state right).0 in
          let cut = one_cut 10 (line_text l) more (line_text m) others (sym is ∙ same) (line_unbroken l said) (line_unbroken m other) in
          let one : l ≡ m = one_line l m said other cut.0 in
          let clash : M.right m state ≡ false = subst (λ (k : Line). M.right k state ≡ false) one wrong in
          cc

  -- what a line that is told stands before
  line_told : (l : Line) (held : List ℕ) (left : Option (List ℕ)) (P : List ℕ → Type 0)
      → ((more rest : List ℕ) → rest ≡ line_text l ++ 10 ∷ more → P rest) → Told (before (parted 10 (line_text l) held) left) P
  line_told l held None P each rest is = absurd cc
  line_told l held (Some left) P each rest is =
      let whole : rest ≡ parted 10 (line_text l) held ++ left = cc in
      each (held ++ left) rest (whole ∙ append_assoc (line_text l) (10 ∷ held) left)

  -- no line of the grammar stands next
  pub ends_outside : (state : P) (held : List ℕ) (count : ℕ) (start now : Flow) → SoFar M state held count start now
      → Told (before held now.left) HoldsNoLine → Ends M (ends.Line (count + 1)) (between start now)
  ends_outside state held count start now s none = (
    s.lines,
    s.text,
    state,
    played_so_far state held count start now s,
    (
      omega (arith, s.counted),
      s.wrote,
      rest_told (script_text s.lines) start.left (before held now.left) (IsOutside M s.lines state) s.came
          (λ rest is. no_line_outside s.lines state rest (none rest is)),
    ),
    (s.read, s.written),
    lost_so_far state held count start now s,
  )

  -- a line that isn't in its place stands next
  pub ends_wrong : (l : Line) (state : P) (held : List ℕ) (count : ℕ) (start now : Flow)
      → SoFar M state (parted 10 (line_text l) held) count start now → IsTrue (is_line l) → M.right l state ≡ false
      → Ends M (ends.Line (count + 1)) (between start now)
  ends_wrong l state held count start now s said wrong = (
    s.lines,
    s.text,
    state,
    played_so_far state (parted 10 (line_text l) held) count start now s,
    (
      omega (arith, s.counted),
      s.wrote,
      rest_told (script_text s.lines) start.left (before (parted 10 (line_text l) held) now.left) (IsOutside M s.lines state) s.came
          (line_told l held now.left (IsOutside M s.lines state) (λ more rest is. wrong_outside s.lines state l more rest is said wrong)),
    ),
    (s.read, s.written),
    lost_so_far state (parted 10 (line_text l) held) count start now s,
  )

  -- a count that rose from where it stood
  rose_since : (start now later : ℕ) → now ≡ start → Rose now later → Rose start later
  rose_since start now later same rose = subst (λ (n : ℕ). Rose n later) same rose

  -- nothing is held where nothing is held and left
  nothing_left : (held : List ℕ) (left : Option (List ℕ)) → Told (before held left) (λ bytes. bytes ≡ []) → Told left (λ bytes. bytes ≡ [])
  nothing_left [] None none bytes is = absurd cc
  nothing_left (h ∷ held) None none bytes is = absurd cc
  nothing_left [] (Some rest) none bytes is = let same : bytes ≡ rest = cc in same ∙ none rest refl
  nothing_left (h ∷ held) (Some rest) none bytes is = let never : h ∷ (held ++ rest) ≡ [] = none (h ∷ (held ++ rest)) refl in absurd (cc never)

  -- a line stands next that would make one event too many
  pub ends_too_many : (l : Line) (state : P) (held : List ℕ) (count : ℕ) (start now : Flow)
      → SoFar M state (parted 10 (line_text l) held) count start now → M.right l state ≡ true → M.too_many l state ≡ true → count < lines_limit
      → Ends M ends.TooMany (between start now)
  ends_too_many l state held count start now s right many few = (
    s.lines,
    s.text,
    state,
    played_so_far state (parted 10 (line_text l) held) count start now s,
    (
      s.wrote,
      rest_told (script_text s.lines) start.left (before (parted 10 (line_text l) held) now.left) (IsTooMuch M s.lines state) s.came
          (line_told l held now.left (IsTooMuch M s.lines state) (λ more rest is. (l, more, is, right, many, omega (arith, s.counted, few)))),
    ),
    (s.read, s.written),
    lost_so_far state (parted 10 (line_text l) held) count start now s,
  )

  -- so many lines were played as a script may have, and one stands next
  pub ends_full : (l : Line) (state : P) (held : List ℕ) (count : ℕ) (start now : Flow)
      → SoFar M state (parted 10 (line_text l) held) count start now → count ≡ lines_limit → Ends M (ends.Line (count + 1)) (between start now)
  ends_full l state held count start now s full = (
    s.lines,
    s.text,
    state,
    played_so_far state (parted 10 (line_text l) held) count start now s,
    (
      omega (arith, s.counted),
      s.wrote,
      rest_told (script_text s.lines) start.left (before (parted 10 (line_text l) held) now.left) (IsOutside M s.lines state) s.came
          (line_told l held now.left (IsOutside M s.lines state) (λ more rest is. (some_left more rest is, inl (s.counted ∙ full)))),
    ),
    (s.read, s.written),
    lost_so_far state (parted 10 (line_text l) held) count start now s,
  )
    where
      some_left : (more rest : List ℕ) → rest ≡ line_text l ++ 10 ∷ more → 0 < length rest
      some_left more rest is = omega (arith, ap length is, length-append (line_text l) (10 ∷ more))

  -- memory ran out
  pub ends_without_memory : (state : P) (held : List ℕ) (count : ℕ) (start now : Flow) → SoFar M state held count start now
      → Ends M ends.NoMemory (between start now)
  ends_without_memory state held count start now s = (
    s.lines,
    s.text,
    state,
    played_so_far state held count start now s,
    (s.wrote, rest_is (script_text s.lines) start.left (before held now.left) s.came),
    (s.read, s.written),
    lost_so_far state held count start now s,
  )

  -- the source failed
  pub ends_unread : (state : P) (held : List ℕ) (count : ℕ) (start now : Flow) (reads : ℕ) → SoFar M state held count start now
      → Rose now.reads reads → Ends M ends.ReadFault (between start (flow now.left now.taken reads now.writes))
  ends_unread state held count start now reads s rose = (
    s.lines,
    s.text,
    state,
    played_so_far state held count start now s,
    (s.wrote, rest_is (script_text s.lines) start.left (before held now.left) s.came),
    (rose_since start.reads now.reads reads s.read rose, s.written),
    lost_so_far state held count start now s,
  )

  -- all was read and written
  pub ends_read : (state : P) (held : List ℕ) (count : ℕ) (start now : Flow) (taken : Option (List ℕ)) (writes : ℕ)
      → SoFar M state held count start now → Told (before held now.left) (λ bytes. bytes ≡ [])
      → taken ≡ appended now.taken (M.end_lines state) → writes ≡ now.writes
      → Ends M ends.Read (between start (flow now.left taken now.reads writes))
  ends_read state held count start now taken writes s none wrote quiet = (
    s.lines,
    s.text,
    state,
    played_so_far state held count start now s,
    (
      nothing_told (script_text s.lines) start.left (before held now.left) s.came none,
      wrote ∙ ap (λ (told : Option (List ℕ)). appended told (M.end_lines state)) s.wrote ∙ appended_append start.taken s.text (M.end_lines state),
    ),
    (s.read, quiet ∙ s.written),
    nothing_left held now.left none,
  )

  -- the sink failed within the numbers of the ends
  pub ends_unfinished : (state : P) (held : List ℕ) (count : ℕ) (start now : Flow) (taken : Option (List ℕ)) (writes : ℕ)
      → SoFar M state held count start now → Told (before held now.left) (λ bytes. bytes ≡ [])
      → TakesFront (M.end_lines state) now.taken taken → Rose now.writes writes
      → Ends M ends.WriteFault (between start (flow now.left taken now.reads writes))
  ends_unfinished state held count start now taken writes s none front rose = (
    s.lines,
    s.text,
    state,
    played_so_far state held count start now s,
    inr (
      takes_more s.text (M.end_lines state) start.taken now.taken taken s.wrote front,
      nothing_told (script_text s.lines) start.left (before held now.left) s.came none,
    ),
    (s.read, rose_since start.writes now.writes writes s.written rose),
    lost_so_far state held count start now s,
  )

  -- the sink failed within the text of a line
  pub ends_unwritten : (l : Line) (words : List ℕ) (state new : P) (held : List ℕ) (count : ℕ) (start now : Flow) (taken : Option (List ℕ)) (writes : ℕ)
      → SoFar M state (parted 10 (line_text l) held) count start now → Turn M l words state new → count < lines_limit
      → TakesFront words now.taken taken → Rose now.writes writes
      → Ends M ends.WriteFault (between start (flow now.left taken now.reads writes))
  ends_unwritten l words state new held count start now taken writes s turn few front rose = (
    s.lines ++ l ∷ [],
    s.text ++ words,
    new,
    (
        let plays = law.more s.lines l s.text words M.first state new s.plays turn.right turn.one_more turn.plays in
        record {
          plays = plays;
          few = omega (arith, count_more s.lines l count s.counted, few);
          once = law.delivers (s.lines ++ l ∷ []) (s.text ++ words) new plays;
        }
        ),
    inl (
      takes_more s.text words start.taken now.taken taken s.wrote front,
      rest_is (script_text (s.lines ++ l ∷ [])) start.left (before held now.left) (came_more s.lines l held start.left now.left s.came),
    ),
    (s.read, rose_since start.writes now.writes writes s.written rose),
    (
      script_text (s.lines ++ l ∷ []) ++ held,
      omega (arith, held_less (line_text l) held s.ahead, length-append (script_text (s.lines ++ l ∷ [])) held),
      came_more s.lines l held start.left now.left s.came ∙ before_append (script_text (s.lines ++ l ∷ [])) held now.left,
    ),
  )

-- no line was played for want of memory
pub ends_at_once : (P : Type 0) (M : PlayMeaning P) → M.plays_all [] M.first [] M.first → M.delivers M.first → (start : Flow)
    → Ends M ends.NoMemory (between start start)
ends_at_once P M none once start = (
  [],
  [],
  M.first,
  record { plays = none; few = omega arith; once = once },
  (sym (appended_nil start.taken), all_of start.left),
  (refl, refl),
  ([], omega arith, sym (before_nil start.left)),
)
  where
    all_of : (left : Option (List ℕ)) → Told left (λ script. (rest : List ℕ) × (script ≡ script_text [] ++ rest))
    all_of left script told = (script, refl)

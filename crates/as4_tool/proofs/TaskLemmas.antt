-- Which tasks a command of this name does, and the words that spell them.
use Rattle.std.proofs.Common.{◌≡◌, ◌≢◌, ◌⊎◌, inl, inr, ℕ, zero, suc, List, [], ◌∷◌, Option, Some, None, option_map, get_or, codes, refl, sym, ◌∙◌, ap, subst, arith, Bor, map, take, ◌++◌, ◌+◌, ◌*◌, ◌<◌, ◌≤◌, length, ◌^◌, unwrap_or}
use Rattle.std.proofs.lemmas.List.{map-append, take_more}
use Rattle.std.proofs.lemmas.List.Elements.{All-more}
use Rattle.std.specs.List.{All}
use Rattle.std.specs.Str.{IsUtf8}
use Rattle.std.specs.Prelude.{Result, Ok, Err, MatchResult, IfOk, Bool, false, true}
use Rattle.std.specs.Fmt.{decimal}
use Rattle.std.specs.Str.Parse.{digits_value}
use Rattle.std.proofs.lemmas.Fmt.{decimal_is_IsNumeral_wide}
use Rattle.clap.specs.Walk.{Row, all_of, first_of}
use Rattle.clap.specs.Faults.{fault_of, is_simple_and_free}
use Rattle.clap.specs.Kinds.{IsAmong}
use Rattle.clap.specs.Simple.{App, HasMatchesOf, subcommand_of, subcommand_rows_of}
use Rattle.clap.specs.declared.error.kind.ErrorKind.{ErrorKind}
use Rattle.clap.specs.declared.error.kind.ErrorKind.TheVariants as kind
use Rattle.clap.specs.declared.parser.matches.ArgMatches.{ArgMatches}
use Rattle.clap.proofs.OnLiterals.{clap_on_literals}
use Rattle.as4_tool.proofs.ClapLemmas.{alone, as4_is_simple, as4_is_simple_and_free}
use Rattle.as4_tool.specs.Words.{Names, as4}
use Rattle.as4_tool.specs.declared.command.WordsRefusal.{WordsRefusal}
use Rattle.as4_tool.specs.declared.command.WordsRefusal.TheVariants as refusal
use Rattle.as4_tool.specs.Command.{Asks, Gives, IsFlag, IsKeep, IsTurns, IsWithin, IsWorkers, Spells, Task, answer, audit, check, collect, drill, generate, handler, has_hub, help, is_drawn, lists, name_of, relay, submit, suite, task_of, verifies, version}
use Rattle.as4_tool.specs.declared.command.Command.{Command}
use Rattle.as4_tool.specs.declared.command.DrillKind.{DrillKind}
use Rattle.as4_tool.specs.declared.command.DrillKind.TheVariants as script
use Rattle.as4_tool.specs.declared.command.Suite.{Suite}
use Rattle.as4_tool.specs.declared.command.Suite.TheVariants as what

-- names of commands differ in their first three bytes
abbrev key : List ℕ → ℕ
key name = get_or name 0 0 + 256 * get_or name 1 0 + 65536 * get_or name 2 0

differ : (one other : List ℕ) → key one ≢ key other → one ≡ other → ⊥
differ one other apart same = apart (ap key same)

-- the tasks of each name
pub only_answer : (rows : List Row) (P : Task → Type 0)
    → ((stamp nonce : ℕ) → Gives rows (answer stamp nonce) → P (answer stamp nonce))
    → (task : Task) → name_of task ≡ codes "answer" → Gives rows task → P task
only_answer rows P one (answer stamp nonce) named gives = one stamp nonce gives
only_answer rows P one other named gives = absurd (differ (name_of other) (codes "answer") (λ same. omega (arith, same)) named)

pub only_check : (rows : List Row) (P : Task → Type 0)
    → (Gives rows check → P check)
    → (task : Task) → name_of task ≡ codes "check" → Gives rows task → P task
only_check rows P one check named gives = one gives
only_check rows P one other named gives = absurd (differ (name_of other) (codes "check") (λ same. omega (arith, same)) named)

pub only_drill : (rows : List Row) (P : Task → Type 0)
    → ((script : DrillKind) → Gives rows (drill script) → P (drill script))
    → ((seed count : ℕ) → Gives rows (generate seed count) → P (generate seed count))
    → (task : Task) → name_of task ≡ codes "drill" → Gives rows task → P task
only_drill rows P one two (drill script) named gives = one script gives
only_drill rows P one two (generate seed count) named gives = two seed count gives
only_drill rows P one two other named gives = absurd (differ (name_of other) (codes "drill") (λ same. omega (arith, same)) named)

pub only_handler : (rows : List Row) (P : Task → Type 0)
    → ((modes journal peer local : List ℕ) (workers turns keep : ℕ) → Gives rows (handler modes journal peer local workers turns keep) → P (handler modes journal peer local workers turns keep))
    → (task : Task) → name_of task ≡ codes "handler" → Gives rows task → P task
only_handler rows P one (handler modes journal peer local workers turns keep) named gives = one modes journal peer local workers turns keep gives
only_handler rows P one other named gives = absurd (differ (name_of other) (codes "handler") (λ same. omega (arith, same)) named)

pub only_submit : (rows : List Row) (P : Task → Type 0)
    → ((local mode conversation media : List ℕ) → Gives rows (submit local mode conversation media) → P (submit local mode conversation media))
    → (task : Task) → name_of task ≡ codes "submit" → Gives rows task → P task
only_submit rows P one (submit local mode conversation media) named gives = one local mode conversation media gives
only_submit rows P one other named gives = absurd (differ (name_of other) (codes "submit") (λ same. omega (arith, same)) named)

pub only_collect : (rows : List Row) (P : Task → Type 0)
    → ((local : List ℕ) (first count : ℕ) (folder : List ℕ) → Gives rows (collect local first count folder) → P (collect local first count folder))
    → (task : Task) → name_of task ≡ codes "collect" → Gives rows task → P task
only_collect rows P one (collect local first count folder) named gives = one local first count folder gives
only_collect rows P one other named gives = absurd (differ (name_of other) (codes "collect") (λ same. omega (arith, same)) named)

pub only_audit : (rows : List Row) (P : Task → Type 0)
    → ((modes journal : List ℕ) (draws : Bool) → Gives rows (audit modes journal draws) → P (audit modes journal draws))
    → (task : Task) → name_of task ≡ codes "audit" → Gives rows task → P task
only_audit rows P one (audit modes journal draws) named gives = one modes journal draws gives
only_audit rows P one other named gives = absurd (differ (name_of other) (codes "audit") (λ same. omega (arith, same)) named)

pub only_relay : (rows : List Row) (P : Task → Type 0)
    → ((modes journal mode : List ℕ) (count : ℕ) → Gives rows (relay modes journal mode count) → P (relay modes journal mode count))
    → (task : Task) → name_of task ≡ codes "relay" → Gives rows task → P task
only_relay rows P one (relay modes journal mode count) named gives = one modes journal mode count gives
only_relay rows P one other named gives = absurd (differ (name_of other) (codes "relay") (λ same. omega (arith, same)) named)

pub only_suite : (rows : List Row) (P : Task → Type 0)
    → ((what : Suite) → Gives rows (suite what) → P (suite what))
    → (task : Task) → name_of task ≡ codes "suite" → Gives rows task → P task
only_suite rows P one (suite what) named gives = one what gives
only_suite rows P one other named gives = absurd (differ (name_of other) (codes "suite") (λ same. omega (arith, same)) named)

-- words of a command, with its values, spell its task
pub spelled : (words : List (List ℕ)) (task : Task) (rows : List Row) → Names words (name_of task) rows → Gives rows task → Spells words task
spelled words help rows named gives = absurd gives
spelled words version rows named gives = absurd gives
spelled words other rows named gives = (rows, named, gives)

-- and only they do, if `clap` has no error
reads_of : (words : List (List ℕ)) (task : Task) → fault_of as4 words ≡ [] → Spells words task
    → (rows : List Row) × Names words (name_of task) rows × Gives rows task
reads_of words help right spells = cc (right, spells)
reads_of words version right spells = cc (right, spells)
reads_of words other right spells = spells

-- the matches that `clap` has at a command's words
pub right_task : (words : List (List ℕ)) (app : App) (m : ArgMatches) (task : Task) → app ≡ as4
    → (is_simple_and_free app ≡ true → fault_of app words ≡ []) → HasMatchesOf app words m
    → (rows : List Row) × (subcommand_rows_of m ≡ Some (name_of task, rows)) × Gives rows task → Spells words task
right_task words app m task is kinds matches found =
    let right : fault_of as4 words ≡ [] =
    subst (λ (a : App). is_simple_and_free a ≡ true → fault_of a words ≡ []) is kinds as4_is_simple_and_free in
    let same : subcommand_rows_of m ≡ subcommand_of as4 words = (subst (λ (a : App). HasMatchesOf a words m) is matches as4_is_simple).1 in
    spelled words task found.0 (record { right = right; named = sym same ∙ found.1 }) found.2

pub only_task : (words : List (List ℕ)) (app : App) (m : ArgMatches) (r : Option Command) → app ≡ as4
    → (is_simple_and_free app ≡ true → fault_of app words ≡ []) → HasMatchesOf app words m
    → ((task : Task) (rows : List Row) → subcommand_rows_of m ≡ Some (name_of task, rows) → Gives rows task → option_map task_of r ≡ Some task)
    → (task : Task) → Spells words task → option_map task_of r ≡ Some task
only_task words app m r is kinds matches only task spells =
    let right : fault_of as4 words ≡ [] =
    subst (λ (a : App). is_simple_and_free a ≡ true → fault_of a words ≡ []) is kinds as4_is_simple_and_free in
    let same : subcommand_rows_of m ≡ subcommand_of as4 words = (subst (λ (a : App). HasMatchesOf a words m) is matches as4_is_simple).1 in
    let found = reads_of words task right spells in
    only task found.0 (same ∙ found.1.named) found.2

-- what `clap` asks for by an error
pub asked_task : (words : List (List ℕ)) (app : App) (k : ErrorKind) (r : Result Command WordsRefusal) → app ≡ as4
    → (is_simple_and_free app ≡ true → (k ≡ kind.OutOfMemory) ⊎ IsAmong k (fault_of app words))
    → IfOk r (λ c. Asks k (task_of c)) → IfOk r (λ c. Spells words (task_of c))
asked_task words app k (Ok c) is kinds asks =
    asked (task_of c) (subst (λ (a : App). is_simple_and_free a ≡ true → (k ≡ kind.OutOfMemory) ⊎ IsAmong k (fault_of a words)) is kinds as4_is_simple_and_free) asks
  where
    asked : (task : Task) → (k ≡ kind.OutOfMemory) ⊎ IsAmong k (fault_of as4 words) → Asks k task → Spells words task
    asked task (inl out) (inl asks) = cc (out, asks.1)
    asked task (inl out) (inr asks) = cc (out, asks.1)
    asked task (inr among) (inl asks) =
        subst (Spells words) (sym asks.0) (subst (λ (j : ErrorKind). fault_of as4 words ≡ j ∷ []) asks.1
        (alone k words (λ e. cc (e, asks.1)) (λ e. cc (e, asks.1)) among))
    asked task (inr among) (inr asks) =
        subst (Spells words) (sym asks.0) (subst (λ (j : ErrorKind). fault_of as4 words ≡ j ∷ []) asks.1
        (alone k words (λ e. cc (e, asks.1)) (λ e. cc (e, asks.1)) among))
asked_task words app k (Err e) is kinds asks = tt

pub only_asked : (words : List (List ℕ)) (app : App) (k : ErrorKind) (r : Result Command WordsRefusal) → app ≡ as4
    → (is_simple_and_free app ≡ true → (k ≡ kind.OutOfMemory) ⊎ IsAmong k (fault_of app words))
    → ((task : Task) → Asks k task → MatchResult r (λ c. task_of c ≡ task) (λ e. e ≡ refusal.NoMemory))
    → (k ≡ kind.OutOfMemory → r ≡ Err refusal.NoMemory)
    → (task : Task) → Spells words task → MatchResult r (λ c. task_of c ≡ task) (λ e. e ≡ refusal.NoMemory)
only_asked words app k r is kinds only memory task spells =
    go task (subst (λ (a : App). is_simple_and_free a ≡ true → (k ≡ kind.OutOfMemory) ⊎ IsAmong k (fault_of a words)) is kinds as4_is_simple_and_free) spells
  where
    Wants : Task → Type 0
    Wants task = MatchResult r (λ c. task_of c ≡ task) (λ e. e ≡ refusal.NoMemory)

    out_of : (task : Task) → k ≡ kind.OutOfMemory → Wants task
    out_of task out = subst (λ (q : Result Command WordsRefusal). MatchResult q (λ c. task_of c ≡ task) (λ e. e ≡ refusal.NoMemory)) (sym (memory out)) refl

    right : (task : Task) → (k ≡ kind.OutOfMemory) ⊎ IsAmong k (fault_of as4 words) → fault_of as4 words ≡ [] → Wants task
    right task (inl out) none = out_of task out
    right task (inr among) none = absurd (subst (IsAmong k) none among)

    one : (task : Task) (j : ErrorKind) → (k ≡ j → Asks k task) → (k ≡ kind.OutOfMemory) ⊎ IsAmong k (fault_of as4 words)
        → fault_of as4 words ≡ j ∷ [] → Wants task
    one task j asks (inl out) is = out_of task out
    one task j asks (inr among) is = first (subst (IsAmong k) is among)
      where
        first : IsAmong k (j ∷ []) → Wants task
        first (inl same) = only task (asks same)
        first (inr none) = absurd none

    go : (task : Task) → (k ≡ kind.OutOfMemory) ⊎ IsAmong k (fault_of as4 words) → Spells words task → Wants task
    go help has spells = one help kind.DisplayHelp (λ same. inl (refl, same)) has spells
    go version has spells = one version kind.DisplayVersion (λ same. inr (refl, same)) has spells
    go other has spells = right other has spells.1.right

-- one text more, that of the next word
pub texts_more : (words : List (List ℕ)) (texts later : List (Bor (List ℕ))) (i : ℕ) (word : List ℕ) (text : Bor (List ℕ))
    → i < length words → word ≡ get_or words i word → later ≡ texts ++ text ∷ [] → text.now ≡ word → IsUtf8 word
    → (map (λ t. t.now) texts ≡ take i words) × All IsUtf8 (take i words)
    → (map (λ t. t.now) later ≡ take (i + 1) words) × All IsUtf8 (take (i + 1) words)
texts_more words texts later i word text within is pushed says utf8 kept = (
  ap (map (λ t. t.now)) pushed ∙ (map-append (λ (t : Bor (List ℕ)). t.now) texts (text ∷ [])
      ∙ (ap (λ (l : List (List ℕ)). l ++ text.now ∷ []) kept.0
      ∙ (ap (λ (w : List ℕ). take i words ++ w ∷ []) (says ∙ is) ∙ sym (take_more words i word within)))),
  All-more IsUtf8 words i word within kept.1 (subst IsUtf8 is utf8),
)

pub none_is_some : (task : Task) → None ≡ Some task → ⊥
none_is_some task same = cc same

-- a number of workers is within its bounds
workers_within : (text : Option (List ℕ)) (n : ℕ) → IsWorkers text n → (1 ≤ n) × (n ≤ 11)
workers_within None n is = (omega (arith, is), omega (arith, is))
workers_within (Some text) n is = (is.1, is.2)

keep_within : (text : Option (List ℕ)) (n : ℕ) → IsKeep text n → (1 ≤ n) × (n ≤ 1000)
keep_within None n is = (omega (arith, is), omega (arith, is))
keep_within (Some text) n is = (is.1, is.2)

-- the numbers of a task that is spelled are within their bounds
pub spelled_within : (words : List (List ℕ)) (task : Task) → Spells words task → IsWithin task
spelled_within words (answer stamp nonce) spells = spells.2.2
spelled_within words (generate seed count) spells = spells.2.2
spelled_within words (handler modes journal peer local workers turns keep) spells =
    (workers_within (first_of (codes "workers") spells.0) workers spells.2.3, keep_within (first_of (codes "keep") spells.0) keep spells.2.5)
spelled_within words (collect local first count folder) spells = (spells.2.1.1, spells.2.2.1)
spelled_within words other spells = tt

-- a number of 128 bits has at most 64 digits
short : (n : ℕ) → n < 2 ^ 128 → n < 10 ^ 64
short n small = omega arith

-- different numbers have different decimal texts
decimal_once : (m n : ℕ) → m < 2 ^ 128 → n < 2 ^ 128 → decimal m ≡ decimal n → m ≡ n
decimal_once m n small_m small_n printed =
    sym (decimal_is_IsNumeral_wide m (short m small_m)).1 ∙ ap (digits_value 10) printed ∙ (decimal_is_IsNumeral_wide n (short n small_n)).1

text_once : (o : Option (List ℕ)) (one other : List ℕ) → o ≡ Some one → o ≡ Some other → one ≡ other
text_once o one other first second = ap (λ (q : Option (List ℕ)). unwrap_or q one) (sym first ∙ second)

number_once : (o : Option (List ℕ)) (one other : ℕ) → o ≡ Some (decimal one) → o ≡ Some (decimal other) → one < 2 ^ 128 → other < 2 ^ 128 → one ≡ other
number_once o one other first second small also = decimal_once one other small also (text_once o (decimal one) (decimal other) first second)

workers_once : (o : Option (List ℕ)) (one other : ℕ) → IsWorkers o one → IsWorkers o other → one ≡ other
workers_once None one other first second = first ∙ sym second
workers_once (Some text) one other first second =
    decimal_once one other (omega (arith, first.2)) (omega (arith, second.2)) (sym first.0 ∙ second.0)

turns_once : (o : Option (List ℕ)) (one other : ℕ) → IsTurns o one → IsTurns o other → one ≡ other
turns_once None one other first second = first ∙ sym second
turns_once (Some text) one other first second =
    decimal_once one other (omega (arith, first.1)) (omega (arith, second.1)) (sym first.0 ∙ second.0)

keep_once : (o : Option (List ℕ)) (one other : ℕ) → IsKeep o one → IsKeep o other → one ≡ other
keep_once None one other first second = first ∙ sym second
keep_once (Some text) one other first second =
    decimal_once one other (omega (arith, first.2)) (omega (arith, second.2)) (sym first.0 ∙ second.0)

two_once : (o : Option (List (List ℕ))) (a b c d : List ℕ) → o ≡ Some (a ∷ b ∷ []) → o ≡ Some (c ∷ d ∷ []) → (a ≡ c) × (b ≡ d)
two_once o a b c d first second =
    let lists : a ∷ b ∷ [] ≡ c ∷ d ∷ [] = ap (λ (q : Option (List (List ℕ))). unwrap_or q (a ∷ b ∷ [])) (sym first ∙ second) in
    (ap (λ (l : List (List ℕ)). get_or l 0 a) lists, ap (λ (l : List (List ℕ)). get_or l 1 b) lists)

-- the same words have one name and one list of values
same_name : (words : List (List ℕ)) (a b : List ℕ) (rows others : List Row) → Names words a rows → Names words b others → (b ≡ a) × (others ≡ rows)
same_name words a b rows others first second =
    let pairs : (b, others) ≡ (a, rows) = ap (λ (q : Option (List ℕ × List Row)). unwrap_or q (b, others)) (sym second.named ∙ first.named) in
    (ap (λ (q : List ℕ × List Row). q.0) pairs, ap (λ (q : List ℕ × List Row). q.1) pairs)

-- a flag is given or not
flag_once : (rows : List Row) (name : List ℕ) (one other : Bool) → IsFlag rows name one → IsFlag rows name other → one ≡ other
flag_once rows name true true first second = refl
flag_once rows name false false first second = refl
flag_once rows name true false first second = cc (first, second)
flag_once rows name false true first second = cc (first, second)

kind_once : (one other : DrillKind) → is_drawn one ≡ is_drawn other → has_hub one ≡ has_hub other → one ≡ other
kind_once script.Pair script.Pair drawn hub = refl
kind_once script.Drawing script.Drawing drawn hub = refl
kind_once script.Hub script.Hub drawn hub = refl
kind_once script.Pair script.Drawing drawn hub = cc drawn
kind_once script.Pair script.Hub drawn hub = cc hub
kind_once script.Drawing script.Pair drawn hub = cc drawn
kind_once script.Drawing script.Hub drawn hub = cc drawn
kind_once script.Hub script.Pair drawn hub = cc hub
kind_once script.Hub script.Drawing drawn hub = cc drawn

suite_once : (one other : Suite) → verifies one ≡ verifies other → lists one ≡ lists other → one ≡ other
suite_once what.Check what.Check verify list = refl
suite_once what.Verify what.Verify verify list = refl
suite_once what.List what.List verify list = refl
suite_once what.Check what.Verify verify list = cc verify
suite_once what.Check what.List verify list = cc list
suite_once what.Verify what.Check verify list = cc verify
suite_once what.Verify what.List verify list = cc verify
suite_once what.List what.Check verify list = cc list
suite_once what.List what.Verify verify list = cc verify

-- words spell at most one task
pub spells_once : (words : List (List ℕ)) (one other : Task) → Spells words one → Spells words other → one ≡ other
spells_once words help help first second = refl
spells_once words help version first second = cc (first, second)
spells_once words help other first second = cc (first, second.1.right)
spells_once words version help first second = cc (first, second)
spells_once words version version first second = refl
spells_once words version other first second = cc (first, second.1.right)
spells_once words (answer stamp nonce) other first second =
    let reads = reads_of words other first.1.right second in
    let same = same_name words (codes "answer") (name_of other) first.0 reads.0 first.1 reads.1 in
    only_answer first.0 (λ t. answer stamp nonce ≡ t)
    (λ stamp2 nonce2 gives.
    let stamps : stamp ≡ stamp2 = number_once (first_of (codes "STAMP") first.0) stamp stamp2 first.2.0 gives.0 (omega (arith, first.2.2)) (omega (arith, gives.2)) in
    let nonces : nonce ≡ nonce2 = number_once (first_of (codes "NONCE") first.0) nonce nonce2 first.2.1 gives.1 first.2.3 gives.3 in
    cc (stamps, nonces))
    other same.0 (subst (λ (rows : List Row). Gives rows other) same.1 reads.2)
spells_once words check other first second =
    let reads = reads_of words other first.1.right second in
    let same = same_name words (codes "check") (name_of other) first.0 reads.0 first.1 reads.1 in
    only_check first.0 (λ t. check ≡ t)
    (λ gives. refl)
    other same.0 (subst (λ (rows : List Row). Gives rows other) same.1 reads.2)
spells_once words (drill script) other first second =
    let reads = reads_of words other first.1.right second in
    let same = same_name words (codes "drill") (name_of other) first.0 reads.0 first.1 reads.1 in
    only_drill first.0 (λ t. drill script ≡ t)
    (λ script2 gives. ap drill (kind_once script script2
    (flag_once first.0 (codes "draw") (is_drawn script) (is_drawn script2) first.2.1 gives.1)
    (flag_once first.0 (codes "hub") (has_hub script) (has_hub script2) first.2.2 gives.2)))
    (λ seed2 count2 gives. cc (first.2.0, gives.0.0))
    other same.0 (subst (λ (rows : List Row). Gives rows other) same.1 reads.2)
spells_once words (generate seed count) other first second =
    let reads = reads_of words other first.1.right second in
    let same = same_name words (codes "drill") (name_of other) first.0 reads.0 first.1 reads.1 in
    only_drill first.0 (λ t. generate seed count ≡ t)
    (λ script2 gives. cc (first.2.0.0, gives.0))
    (λ seed2 count2 gives.
    let both = two_once (all_of (codes "generate") first.0) (decimal seed) (decimal count) (decimal seed2) (decimal count2) first.2.0.0 gives.0.0 in
    let seeds : seed ≡ seed2 = decimal_once seed seed2 (omega (arith, first.2.1)) (omega (arith, gives.1)) both.0 in
    let counts : count ≡ count2 = decimal_once count count2 (omega (arith, first.2.2)) (omega (arith, gives.2)) both.1 in
    cc (seeds, counts))
    other same.0 (subst (λ (rows : List Row). Gives rows other) same.1 reads.2)
spells_once words (handler modes journal peer local workers turns keep) other first second =
    let reads = reads_of words other first.1.right second in
    let same = same_name words (codes "handler") (name_of other) first.0 reads.0 first.1 reads.1 in
    only_handler first.0 (λ t. handler modes journal peer local workers turns keep ≡ t)
    (λ modes2 journal2 peer2 local2 workers2 turns2 keep2 gives.
    let modes_same = text_once (first_of (codes "MODES") first.0) modes modes2 first.2.0.0 gives.0.0 in
    let journal_same = text_once (first_of (codes "JOURNAL") first.0) journal journal2 first.2.0.1 gives.0.1 in
    let peer_same = text_once (first_of (codes "PEER") first.0) peer peer2 first.2.1.0 gives.1.0 in
    let local_same = text_once (first_of (codes "LOCAL") first.0) local local2 first.2.2.0 gives.2.0 in
    let workers_same = workers_once (first_of (codes "workers") first.0) workers workers2 first.2.3 gives.3 in
    let turns_same = turns_once (first_of (codes "turns") first.0) turns turns2 first.2.4 gives.4 in
    let keep_same = keep_once (first_of (codes "keep") first.0) keep keep2 first.2.5 gives.5 in
    cc (modes_same, journal_same, peer_same, local_same, workers_same, turns_same, keep_same))
    other same.0 (subst (λ (rows : List Row). Gives rows other) same.1 reads.2)
spells_once words (submit local mode conversation media) other first second =
    let reads = reads_of words other first.1.right second in
    let same = same_name words (codes "submit") (name_of other) first.0 reads.0 first.1 reads.1 in
    only_submit first.0 (λ t. submit local mode conversation media ≡ t)
    (λ local2 mode2 conversation2 media2 gives.
    let local_same = text_once (first_of (codes "LOCAL") first.0) local local2 first.2.0.0 gives.0.0 in
    let mode_same = text_once (first_of (codes "MODE") first.0) mode mode2 first.2.1.0 gives.1.0 in
    let conversation_same = text_once (first_of (codes "CONVERSATION") first.0) conversation conversation2 first.2.2.0 gives.2.0 in
    let media_same = text_once (first_of (codes "MEDIA") first.0) media media2 first.2.3.0 gives.3.0 in
    cc (local_same, mode_same, conversation_same, media_same))
    other same.0 (subst (λ (rows : List Row). Gives rows other) same.1 reads.2)
spells_once words (collect local first count folder) other spells second =
    let reads = reads_of words other spells.1.right second in
    let same = same_name words (codes "collect") (name_of other) spells.0 reads.0 spells.1 reads.1 in
    only_collect spells.0 (λ t. collect local first count folder ≡ t)
    (λ local2 first2 count2 folder2 gives.
    let local_same = text_once (first_of (codes "LOCAL") spells.0) local local2 spells.2.0.0 gives.0.0 in
    let first_same = number_once (first_of (codes "FIRST") spells.0) first first2 spells.2.1.0 gives.1.0 (omega (arith, spells.2.1.1)) (omega (arith, gives.1.1)) in
    let count_same = number_once (first_of (codes "COUNT") spells.0) count count2 spells.2.2.0 gives.2.0 (omega (arith, spells.2.2.1)) (omega (arith, gives.2.1)) in
    let folder_same = text_once (first_of (codes "FOLDER") spells.0) folder folder2 spells.2.3 gives.3 in
    cc (local_same, first_same, count_same, folder_same))
    other same.0 (subst (λ (rows : List Row). Gives rows other) same.1 reads.2)
spells_once words (audit modes journal draws) other spells second =
    let reads = reads_of words other spells.1.right second in
    let same = same_name words (codes "audit") (name_of other) spells.0 reads.0 spells.1 reads.1 in
    only_audit spells.0 (λ t. audit modes journal draws ≡ t)
    (λ modes2 journal2 draws2 gives.
    let modes_same = text_once (first_of (codes "MODES") spells.0) modes modes2 spells.2.0.0 gives.0.0 in
    let journal_same = text_once (first_of (codes "JOURNAL") spells.0) journal journal2 spells.2.0.1 gives.0.1 in
    let draws_same = flag_once spells.0 (codes "draw") draws draws2 spells.2.1 gives.1 in
    cc (modes_same, journal_same, draws_same))
    other same.0 (subst (λ (rows : List Row). Gives rows other) same.1 reads.2)
spells_once words (relay modes journal mode count) other spells second =
    let reads = reads_of words other spells.1.right second in
    let same = same_name words (codes "relay") (name_of other) spells.0 reads.0 spells.1 reads.1 in
    only_relay spells.0 (λ t. relay modes journal mode count ≡ t)
    (λ modes2 journal2 mode2 count2 gives.
    let modes_same = text_once (first_of (codes "MODES") spells.0) modes modes2 spells.2.0.0 gives.0.0 in
    let journal_same = text_once (first_of (codes "JOURNAL") spells.0) journal journal2 spells.2.0.1 gives.0.1 in
    let mode_same = text_once (first_of (codes "MODE") spells.0) mode mode2 spells.2.1.0 gives.1.0 in
    let count_same = number_once (first_of (codes "COUNT") spells.0) count count2 spells.2.2.0 gives.2.0 (omega (arith, spells.2.2.1)) (omega (arith, gives.2.1)) in
    cc (modes_same, journal_same, mode_same, count_same))
    other same.0 (subst (λ (rows : List Row). Gives rows other) same.1 reads.2)
spells_once words (suite what) other spells second =
    let reads = reads_of words other spells.1.right second in
    let same = same_name words (codes "suite") (name_of other) spells.0 reads.0 spells.1 reads.1 in
    only_suite spells.0 (λ t. suite what ≡ t)
    (λ what2 gives. ap suite (suite_once what what2
    (flag_once spells.0 (codes "verify") (verifies what) (verifies what2) spells.2.0 gives.0)
    (flag_once spells.0 (codes "list") (lists what) (lists what2) spells.2.1 gives.1)))
    other same.0 (subst (λ (rows : List Row). Gives rows other) same.1 reads.2)

-- the one word for the help, and that for the version
pub help_is_spelled : Spells (codes "--help" ∷ []) help
unfolding clap_on_literals
help_is_spelled = refl

pub version_is_spelled : Spells (codes "--version" ∷ []) version
unfolding clap_on_literals
version_is_spelled = refl

-- one text alone
all_one : (word : List ℕ) → IsUtf8 word → All IsUtf8 (word ∷ [])
all_one word is zero d within = is
all_one word is (suc k) d within = absurd (omega (arith, within))

-- a list of length one consists of its item
one_item : (words : List (List ℕ)) (word : List ℕ) → length words ≡ 1 → word ≡ get_or words 0 word → words ≡ word ∷ []
one_item [] word one first = absurd (omega (arith, one))
one_item (a ∷ []) word one first = ap (λ (w : List ℕ). w ∷ []) (sym first)
one_item (a ∷ b ∷ rest) word one first = absurd (omega (arith, one))

pub text_found : (words : List (List ℕ)) (word text : List ℕ) (task : Task) → length words ≡ 1 → word ≡ get_or words 0 word → word ≡ text
    → IsUtf8 text → Spells (text ∷ []) task → All IsUtf8 words × Spells words task
text_found words word text task one first same utf8 spells =
    let words_are : words ≡ text ∷ [] = one_item words word one first ∙ ap (λ (w : List ℕ). w ∷ []) same in (
      subst (All IsUtf8) (sym words_are) (all_one text utf8),
      subst (λ (ws : List (List ℕ)). Spells ws task) (sym words_are) spells,
    )

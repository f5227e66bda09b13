-- Which kinds of error `clap` may have at one list of words: one kind, or the two of a stray word. So help has no other
-- kind beside it.
use Rattle.std.proofs.Common.{◌≡◌, ◌⊎◌, inl, inr, ℕ, zero, suc, Bool, true, false, not, ◌&&◌, if◌then◌else◌, List, [], ◌∷◌, nat_lt, ◌==◌, Option, None, Some, is_some, find, drop, slice_get, ◌||◌, refl, sym, subst, ap, length, codes}
use Rattle.std.specs.Option.{option_map_or}
use Rattle.std.specs.Str.{bytes_eq}
use Rattle.clap.specs.Faults.{values_fault, count_fault, set_fault, action_fault, use_fault, settle_fault, react_fault, option_fault, long_fault, short_fault, bundle_step_fault, flags_fault, bundle_fault, flag_word_fault, other_fault, word_fault, positional_fault, stray_fault, step_fault, turn_fault, walk_fault, given_default_fault, default_fault, defaults_fault, check_fault, level_fault, entered_fault, built_fault, fault_of, is_simple_and_free}
use Rattle.clap.specs.Facts.{parser_of_value, unwrap_or_range}
use Rattle.clap.specs.Lexer.{long_of, short_of}
use Rattle.std.specs.Char.{encode_utf8}
use Rattle.std.specs.Str.{chars}
use Rattle.clap.specs.Kinds.{IsAmong, Kinds, check_kinds, or_else, range_kinds, request_kinds, values_kinds}
use Rattle.clap.specs.Simple.{App, Shape, argument_words, built, entered, is_simple, label_of, names_of}
use Rattle.clap.specs.Walk.{Held, Names, Row, Rule, Step, Text, Waiting, Walk, answers_to, attached_value, finished, has_row, is_empty, is_pending, most_values, reacted, settled, takes_several, takes_values, values_or_missing, walk, walk_from, word_met, arg_by_id, arg_by_long, arg_by_short, arg_by_index, action_of, nothing_held, subcommand_met, walked, with_default, next, trailing, subcommand, value, idle, option, positional}
use Rattle.clap.specs.declared.builder.action.ArgAction.{ArgAction}
use Rattle.clap.specs.declared.builder.action.ArgAction.TheVariants.{Set, Append, SetTrue, SetFalse, Count, Help, HelpShort, HelpLong, Version}
use Rattle.clap.specs.declared.builder.value_parser.ValueParser.{ValueParser}
use Rattle.clap.specs.declared.error.kind.ErrorKind.{ErrorKind}
use Rattle.clap.specs.declared.error.kind.ErrorKind.TheVariants as kind
use Rattle.clap.proofs.OnLiterals.{clap_on_literals}
use Rattle.as4_tool.specs.Words.{as4}

abbrev IsLone : Kinds → Type 0
IsLone [] = Unit {0}
IsLone (k ∷ []) = Unit {0}
IsLone (k ∷ j ∷ ks) = k ∷ j ∷ ks ≡ kind.UnknownArgument ∷ kind.InvalidSubcommand ∷ []

record Lone (kinds : Kinds) : Type 0 where
  pub is : IsLone kinds

none : Lone []
none = record { is = tt }

one : (k : ErrorKind) → Lone (k ∷ [])
one k = record { is = tt }

stray : Lone (kind.UnknownArgument ∷ kind.InvalidSubcommand ∷ [])
stray = record { is = refl }

lone_or : (a b : Kinds) → Lone a → Lone b → Lone (or_else a b)
lone_or [] b first second = second
lone_or (k ∷ []) b first second = one k
lone_or (k ∷ j ∷ ks) b first second = first

lone_if : (b : Bool) (x y : Kinds) → Lone x → Lone y → Lone (if b then x else y)
lone_if true x y first second = first
lone_if false x y first second = second

lone_map : {X : Type 0} (f : X → Kinds) (d : Kinds) (o : Option X) → ((x : X) → Lone (f x)) → Lone d → Lone (option_map_or f o d)
lone_map f d None each empty = empty
lone_map f d (Some x) each empty = each x

lone_values : (i : Bool) (p : ValueParser) (vs : List Text) → Lone (values_kinds i p vs)
lone_values i p [] = none
lone_values i p (v ∷ vs) = lone_or _ _ (lone_if _ _ _ none (one _)) (lone_values i p vs)

lone_request : (a : ArgAction) → Lone (request_kinds a)
lone_request Set = none
lone_request Append = none
lone_request SetTrue = none
lone_request SetFalse = none
lone_request Count = none
lone_request Help = one _
lone_request HelpShort = one _
lone_request HelpLong = one _
lone_request Version = one _

lone_range : (least most n : ℕ) → Lone (range_kinds least most n)
lone_range least most n =
    lone_if (nat_lt 0 least && n == 0) _ _ (one kind.InvalidValue) (lone_if (least == most) _ _
    (lone_if (least == n) _ _ none (one kind.WrongNumberOfValues))
    (lone_if (nat_lt n least) _ _ (one kind.TooFewValues) (lone_if (nat_lt most n) _ _ (one kind.TooManyValues) none)))

lone_count : (a : Rule) (values : List Text) (rows : List Row) → Lone (count_fault a values rows)
lone_count a [] rows = lone_if _ _ _ none (one _)
lone_count a (v ∷ vs) rows = lone_values _ _ (v ∷ vs)

lone_set : (again : Bool) (a : Rule) (values : List Text) (rows : List Row) → Lone (set_fault again a values rows)
lone_set again a values rows = lone_or _ _ (lone_if _ _ _ (one _) none) (lone_values _ _ values)

lone_action : (action : ArgAction) (again : Bool) (a : Rule) (values : List Text) (rows : List Row) → Lone (action_fault action again a values rows)
lone_action Set again a values rows = lone_set again a values rows
lone_action SetTrue again a values rows = lone_set again a values rows
lone_action SetFalse again a values rows = lone_set again a values rows
lone_action Append again a values rows = lone_values _ _ values
lone_action Count again a values rows = lone_count a values rows
lone_action Help again a values rows = one _
lone_action HelpShort again a values rows = one _
lone_action HelpLong again a values rows = one _
lone_action Version again a values rows = one _

lone_use : (again : Bool) (a : Rule) (values : List Text) (rows : List Row) → Lone (use_fault again a values rows)
lone_use again a values rows =
    lone_or (range_kinds (unwrap_or_range a.range).start_inclusive (most_values a) (length values))
    (action_fault (action_of a) again a (values_or_missing a values) rows)
    (lone_range (unwrap_or_range a.range).start_inclusive (most_values a) (length values))
    (lone_action (action_of a) again a (values_or_missing a values) rows)

lone_settle : (c : List Rule) (again : Bool) (h : Held) → Lone (settle_fault c again h)
lone_settle c again h =
    lone_map (λ p. option_map_or (λ a. use_fault again a p.1 h.rows) (arg_by_id c p.0) []) [] h.pending
    (λ p. lone_map (λ a. use_fault again a p.1 h.rows) [] (arg_by_id c p.0) (λ a. lone_use again a p.1 h.rows) none) none

lone_react : (c : List Rule) (again : Bool) (a : Rule) (values : List Text) (h : Held) → Lone (react_fault c again a values h)
lone_react c again a values h =
    lone_or (settle_fault c again h) (use_fault again a values (settled c h).rows) (lone_settle c again h)
    (lone_use again a values (settled c h).rows)

lone_option : (c : List Rule) (again : Bool) (a : Rule) (v : Option Text) (h : Held) → Lone (option_fault c again a v h)
lone_option c again a (Some v) h = lone_react c again a (v ∷ []) h
lone_option c again a None h = lone_settle c again h

lone_long : (c : List Rule) (again : Bool) (a : Option Rule) (v : Option Text) (h : Held) → Lone (long_fault c again a v h)
lone_long c again None v h = one kind.UnknownArgument
lone_long c again (Some a) v h =
    lone_if (takes_values a) (option_fault c again a v h)
    (if is_some v then kind.TooManyValues ∷ [] else react_fault c again a [] h) (lone_option c again a v h)
    (lone_if (is_some v) (kind.TooManyValues ∷ []) (react_fault c again a [] h) (one kind.TooManyValues) (lone_react c again a [] h))

lone_short : (c : List Rule) (again : Bool) (a : Option Rule) (rest : Text) (h : Held) (rest_of : Held → Kinds)
    → ((later : Held) → Lone (rest_of later)) → Lone (short_fault c again a rest h rest_of)
lone_short c again None rest h rest_of each = one kind.UnknownArgument
lone_short c again (Some a) rest h rest_of each =
    lone_if (takes_values a) (option_fault c again a (attached_value rest) h)
    (or_else (react_fault c again a [] h) (rest_of (reacted c a [] h))) (lone_option c again a (attached_value rest) h)
    (lone_or (react_fault c again a [] h) (rest_of (reacted c a [] h)) (lone_react c again a [] h) (each (reacted c a [] h)))

lone_step : (c : List Rule) (again : Bool) (x : Option ℕ) (flags : Text) (skip : ℕ) (h : Held) (rest_of : Text → ℕ → Held → Kinds)
    → ((rest : Text) (k : ℕ) (later : Held) → Lone (rest_of rest k later)) → Lone (bundle_step_fault c again x flags skip h rest_of)
lone_step c again None flags skip h rest_of each = none
lone_step c again (Some x) flags zero h rest_of each =
    let rest = drop (length (encode_utf8 x)) flags in
    lone_short c again (arg_by_short c x) rest h (rest_of rest 0) (each rest 0)
lone_step c again (Some x) flags (suc skip) h rest_of each = each (drop (length (encode_utf8 x)) flags) skip h

lone_flags : (c : List Rule) (again : Bool) (k : ℕ) (flags : Text) (skip : ℕ) (h : Held) → Lone (flags_fault c again k flags skip h)
unfolding flags_fault
lone_flags c again zero flags skip h = none
lone_flags c again (suc k) flags skip h =
    lone_step c again (slice_get (chars flags) 0) flags skip h (flags_fault c again k) (lone_flags c again k)

lone_flag_word : (c : List Rule) (again : Bool) (long : Option (Text × Option Text)) (word : Text) (h : Held) → Lone (flag_word_fault c again long word h)
lone_flag_word c again (Some p) word h = lone_long c again (arg_by_long c p.0) p.1 h
lone_flag_word c again None word h =
    lone_map (λ flags. bundle_fault c again flags h) [] (short_of word)
    (λ flags. lone_flags c again (length flags) flags h.skip (record h { skip = 0 })) none

lone_other : (s : Shape) (name : Option Text) (word : Text) (h : Held) → (s.disable_help_subcommand ≡ true) ⊎ (name ≡ None) → Lone (other_fault s name word h)
lone_other s (Some name) word h (inl off) = no_help (bytes_eq name (codes "help")) s.disable_help_subcommand off
  where
    no_help : (b off : Bool) → off ≡ true → Lone (if b && not off then kind.DisplayHelp ∷ kind.InvalidSubcommand ∷ [] else [])
    no_help true true is = none
    no_help false true is = none
    no_help true false is = cc is
    no_help false false is = none
lone_other s (Some name) word h (inr absent) = cc absent
lone_other s None word h quiet =
    lone_if (bytes_eq word (45 ∷ 45 ∷ [])) [] (flag_word_fault s.rules s.args_override_self (long_of word) word h) none
    (lone_flag_word s.rules s.args_override_self (long_of word) word h)

-- where no subcommand `help` is met
abbrev HasNoHelp : Shape → Names → Type 0
HasNoHelp s names = (waiting : Waiting) (word : Text) → (s.disable_help_subcommand ≡ true) ⊎ (subcommand_met names waiting word ≡ None)

lone_positional : (s : Shape) (a : Rule) (h : Held) → Lone (positional_fault s.rules s.args_override_self a h)
lone_positional s a h =
    lone_if (is_pending a h.pending && takes_several a) [] (settle_fault s.rules s.args_override_self h) none
    (lone_settle s.rules s.args_override_self h)

lone_stray : (s : Shape) → Lone (stray_fault s)
lone_stray s = lone_if s.is_leaf (kind.UnknownArgument ∷ []) (kind.UnknownArgument ∷ kind.InvalidSubcommand ∷ []) (one kind.UnknownArgument) stray

lone_place : (s : Shape) (position : ℕ) (h : Held) (st : Step) → Lone (step_fault s position h st)
lone_place s position h value =
    lone_map (λ a. positional_fault s.rules s.args_override_self a h) (stray_fault s) (arg_by_index s.rules position)
    (λ a. lone_positional s a h) (lone_stray s)
lone_place s position h (next waiting) = none
lone_place s position h (trailing p) = none
lone_place s position h (subcommand name) = none

lone_word : (s : Shape) (names : Names) (is_trailing : Bool) (waiting : Waiting) (word : Text) (h : Held) → HasNoHelp s names
    → Lone (word_fault s names is_trailing waiting word h)
lone_word s names is_trailing waiting word h quiet =
    lone_if is_trailing [] (other_fault s (subcommand_met names waiting word) word h) none
    (lone_other s (subcommand_met names waiting word) word h (quiet waiting word))

lone_turn : (s : Shape) (names : Names) (w : Walk) (word : Text) → HasNoHelp s names → Lone (turn_fault s names w word)
lone_turn s names w word quiet =
    let met = word_met s.rules names w.is_trailing w.waiting w.position word w.held in
    lone_if (is_some w.stopped) []
    (or_else (word_fault s names w.is_trailing w.waiting word w.held) (step_fault s w.position met.0 met.1)) none
    (lone_or (word_fault s names w.is_trailing w.waiting word w.held) (step_fault s w.position met.0 met.1)
    (lone_word s names w.is_trailing w.waiting word w.held quiet) (lone_place s w.position met.0 met.1))

lone_walk : (s : Shape) (names : Names) (w : Walk) (words : List Text) → HasNoHelp s names → Lone (walk_fault s names w words)
unfolding walk_fault
lone_walk s names w [] quiet = none
lone_walk s names w (word ∷ rest) quiet =
    lone_or (turn_fault s names w word) (walk_fault s names (walked s.rules names w word) rest)
    (lone_turn s names w word quiet) (lone_walk s names (walked s.rules names w word) rest quiet)

lone_default : (rows : List Row) (a : Rule) → Lone (default_fault rows a)
lone_default rows a =
    lone_if (has_row a.id rows || is_empty a.defaults) [] (given_default_fault a a.defaults) none
    (lone_or (request_kinds (action_of a)) (values_fault a a.defaults) (lone_request (action_of a))
    (lone_values a.ignore_case (parser_of_value a.parser) a.defaults))

lone_defaults : (rows : List Row) (rules : List Rule) → Lone (defaults_fault rows rules)
unfolding defaults_fault
lone_defaults rows [] = none
lone_defaults rows (a ∷ rest) =
    lone_or (default_fault rows a) (defaults_fault (with_default rows a) rest) (lone_default rows a)
    (lone_defaults (with_default rows a) rest)

lone_check : (helped wanted argument : Bool) → Lone (check_kinds helped wanted argument)
lone_check true wanted argument = one kind.DisplayHelpOnMissingArgumentOrSubcommand
lone_check false true argument = one kind.MissingSubcommand
lone_check false false true = one kind.MissingRequiredArgument
lone_check false false false = none

lone_after : (s : Shape) (held : Held) (entered : Bool) → Lone (check_fault s (finished s.rules held) entered)
lone_after s held entered = lone_check _ _ _

lone_level : (s : Shape) (names : Names) (h : Held) (words : List Text) (entered : Bool) (below : Kinds) → HasNoHelp s names → Lone below
    → Lone (level_fault s names h words entered below)
lone_level s names h words entered below quiet lone =
    let end = (walk s.rules names h words).held in
    let check = check_fault s (finished s.rules end) entered in
    let defaults = defaults_fault (settled s.rules end).rows s.rules in
    let settle = settle_fault s.rules s.args_override_self end in
    lone_or (walk_fault s names (walk_from h) words) (or_else below (or_else settle (or_else defaults check)))
    (lone_walk s names (walk_from h) words quiet)
    (lone_or below (or_else settle (or_else defaults check)) lone
    (lone_or settle (or_else defaults check) (lone_settle s.rules s.args_override_self end)
    (lone_or defaults check (lone_defaults (settled s.rules end).rows s.rules) (lone_after s end entered))))

met_none : (waiting : Waiting) (word : Text) → subcommand_met [] waiting word ≡ None
met_none idle word = refl
met_none (option id) word = refl
met_none positional word = refl

lone_entered : (a : App) (stop : Option (Text × List Text)) → Lone (entered_fault a stop)
lone_entered a stop =
    lone_map (λ p. option_map_or (λ s. level_fault s [] nothing_held p.1 false []) (find (λ s. answers_to p.0 (label_of s)) a.subs) []) [] stop
    (λ p. lone_map (λ s. level_fault s [] nothing_held p.1 false []) [] (find (λ s. answers_to p.0 (label_of s)) a.subs)
    (λ s. lone_level s [] nothing_held p.1 false [] (λ waiting word. inr (met_none waiting word)) none) none) none

lone_built : (a : App) (h : Held) (words : List Text) → a.top.disable_help_subcommand ≡ true → Lone (built_fault a h words)
lone_built a h words off =
    let stop = (walk a.top.rules (names_of a) h words).stopped in
    lone_level a.top (names_of a) h words (is_some (entered a stop)) (entered_fault a stop) (λ waiting word. inl off) (lone_entered a stop)

lone_fault : (words : List Text) → Lone (fault_of as4 words)
lone_fault words = lone_built (built as4) nothing_held (argument_words as4 words) refl

-- a kind other than the two of a stray word is alone
pub alone : (k : ErrorKind) (words : List Text) → (k ≡ kind.UnknownArgument → ⊥) → (k ≡ kind.InvalidSubcommand → ⊥) → IsAmong k (fault_of as4 words)
    → fault_of as4 words ≡ k ∷ []
alone k words one other among = go (fault_of as4 words) (lone_fault words).is among
  where
    go : (kinds : Kinds) → IsLone kinds → IsAmong k kinds → kinds ≡ k ∷ []
    go [] lone among = absurd among
    go (x ∷ []) lone (inl is) = ap (λ (y : ErrorKind). y ∷ []) (sym is)
    go (x ∷ []) lone (inr among) = absurd among
    go (x ∷ y ∷ ks) lone among = absurd (stray (subst (IsAmong k) lone among))
      where
        stray : IsAmong k (kind.UnknownArgument ∷ kind.InvalidSubcommand ∷ []) → ⊥
        stray (inl is) = one is
        stray (inr (inl is)) = other is
        stray (inr (inr none)) = none

-- the command is one that `clap` has a definition for
pub as4_is_simple_and_free : is_simple_and_free as4 ≡ true
unfolding clap_on_literals
as4_is_simple_and_free = refl

pub as4_is_simple : is_simple as4 ≡ true
unfolding clap_on_literals
as4_is_simple = refl

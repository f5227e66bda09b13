-- Lemmas on the bytes that a reader of std has left and a writer of std holds, over calls that are made again.
use Rattle.std.proofs.Common.{ℕ, List, [], ◌++◌, Option, None, Some, sym, ◌∙◌, ap}
use Rattle.std.proofs.lemmas.List.{append-nil}
use Rattle.std.specs.Io.KnownBytes.{Consumes, Appends, Keeps}

pub kept_then_kept : (a b c : Option (List ℕ)) → Keeps a b → Keeps b c → Keeps a c
kept_then_kept None b c first next = tt
kept_then_kept (Some xs) None c first next = absurd first
kept_then_kept (Some xs) (Some ys) None first next = absurd next
kept_then_kept (Some xs) (Some ys) (Some zs) first next = next ∙ first

pub kept_then_consumed : (a b c : Option (List ℕ)) (bytes : List ℕ) → Keeps a b → Consumes b c bytes → Consumes a c bytes
kept_then_consumed None b c bytes first next = tt
kept_then_consumed (Some xs) None c bytes first next = absurd first
kept_then_consumed (Some xs) (Some ys) None bytes first next = absurd next
kept_then_consumed (Some xs) (Some ys) (Some zs) bytes first next = sym first ∙ next

pub kept_then_appended : (a b c : Option (List ℕ)) (bytes : List ℕ) → Keeps a b → Appends b c bytes → Appends a c bytes
kept_then_appended None b c bytes first next = tt
kept_then_appended (Some xs) None c bytes first next = absurd first
kept_then_appended (Some xs) (Some ys) None bytes first next = absurd next
kept_then_appended (Some xs) (Some ys) (Some zs) bytes first next = next ∙ ap (λ (l : List ℕ). l ++ bytes) first

-- to append nothing is to keep
pub kept_then_nothing : (a b c : Option (List ℕ)) → Keeps a b → Appends b c [] → Keeps a c
kept_then_nothing None b c first next = tt
kept_then_nothing (Some xs) None c first next = absurd first
kept_then_nothing (Some xs) (Some ys) None first next = absurd next
kept_then_nothing (Some xs) (Some ys) (Some zs) first next = next ∙ append-nil ys ∙ first

-- The views of seats, and how the steps change them.
use Rattle.std.specs.Prelude.{◌≡◌, ℕ, ◌+◌, ◌-◌, ◌≤◌, ◌^◌, true, false, List, [], ◌∷◌, ◌++◌, length, nat_lt, if◌then◌else◌, Option, Some, None}
use mathlib.Core.List.{IsPrefix}
use Rattle.atomic_table.specs.Table.{Me}
use Rattle.pass_book.specs.declared.view.View.{View}
use Rattle.pass_book.specs.States.{longer}

-- the shorter of two lists: the one that isn't `longer`
abbrev pub shorter : {E : Type 0} → List E → List E → List E
shorter xs ys = if nat_lt (length xs) (length ys) then xs else ys

module _ {E : Type 0} where
  -- the keeper's seat, before anything was entered
  abbrev pub first_view : View E
  first_view = record { is_keeper = true; list = []; told = []; share = 0; stake = 2 ^ 63 }

  -- a seat that was joined to another
  abbrev pub spent : View E
  spent = record { is_keeper = false; list = []; told = []; share = 0; stake = 0 }

  -- append: the history has one more entry, and the share is one more
  abbrev pub added : View E → E → View E
  added v e = record { is_keeper = v.is_keeper; list = v.list ++ e ∷ []; told = v.told; share = v.share + 1; stake = v.stake }

  -- split: the new seat has the same list, and these parts of the share and the stake
  abbrev pub part_of : View E → ℕ → ℕ → View E
  part_of v share stake = record { is_keeper = false; list = v.list; told = []; share = share; stake = stake }

  -- the seat that was split, without these parts
  abbrev pub rest_of : View E → ℕ → ℕ → View E
  rest_of v share stake = record { is_keeper = v.is_keeper; list = v.list; told = v.told; share = v.share - share; stake = v.stake - stake }

  -- join: the keeper absorbs a pass, is told its list, and keeps its own
  abbrev pub absorbed : View E → View E → View E
  absorbed v w = record { is_keeper = v.is_keeper; list = v.list; told = w.list; share = v.share + w.share; stake = v.stake + w.stake }

  -- join: a pass absorbs a pass, has the longer list, and is told the shorter one
  abbrev pub merged : View E → View E → View E
  merged v w = record { is_keeper = v.is_keeper; list = longer v.list w.list; told = shorter v.list w.list; share = v.share + w.share; stake = v.stake + w.stake }

  -- the keeper's view between calls: all of the history, and neither share nor stake
  pub record IsAtRest (v : View E) (whole : List E) : Type 0 where
    pub mark : v.is_keeper ≡ true
    pub list : v.list ≡ whole
    pub share : v.share ≡ 0
    pub stake : v.stake ≡ 0

  -- the view of a pass
  pub record IsOfPass (v : View E) (seen : List E) (calls part : ℕ) : Type 0 where
    pub mark : v.is_keeper ≡ false
    pub list : v.list ≡ seen
    pub share : v.share ≡ calls
    pub stake : v.stake ≡ part

  -- what a load proves of a view: its lists are prefixes of one history, and the word is the number of its entries
  pub record IsSeen (v : View E) (found : ℕ) : Type 0 where
    pub log : List E
    pub count : found ≡ length log
    pub list : IsPrefix v.list log
    pub told : IsPrefix v.told log
    pub whole : v.is_keeper ≡ true → v.list ≡ log
    pub alone : v.stake ≡ 2 ^ 63 → v.share ≡ length log
    pub share : v.share ≤ length log
    pub limit : length log ≤ 2 ^ 63
    pub stake : v.stake ≤ 2 ^ 63

  -- what an append proves: the place of the entry, that the list told before is a prefix of the earlier history, and
  -- that the share was at most its length
  pub record IsAdded (v : View E) (e : E) (found : ℕ) (w : View E) : Type 0 where
    pub place : found ≡ length v.list
    pub begins : IsPrefix v.told v.list
    pub share : v.share ≤ length v.list
    pub view : w ≡ added v e

  module _ {S : Type 0} where
    -- the load of a seat
    abbrev pub Looks : Me S (View E) → ℕ → Me S (View E) → Type 0
    Looks me found now = (now ≡ me) × IsSeen me.0 found

    -- the append of an entry, where it has a name
    abbrev pub Adds : Option E → Me S (View E) → ℕ → Me S (View E) → Type 0
    Adds None me found now = Unit {0}
    Adds (Some e) me found now = (now.1 ≡ me.1) × IsAdded me.0 e found now.0

-- Lists of byte strings from outside (answers, guests, addresses, names, bytes sent), where they are observable.
use Rattle.std.specs.Prelude.{◌≡◌, ℕ, List, [], ◌∷◌, ◌++◌, Option, None, Some}
use Rattle.as4_flow.specs.Flow.{Flow}

-- none of them
abbrev pub none_of : {A B : Type 0} → Option A → Option (List B)
none_of None = None
none_of (Some _) = Some []

-- the first of them, and no bytes where there is none
abbrev pub first_of : Option (List (List ℕ)) → Option (List ℕ)
first_of None = None
first_of (Some []) = Some []
first_of (Some (first ∷ others)) = Some first

-- all but the first
abbrev pub without_first : Option (List (List ℕ)) → Option (List (List ℕ))
without_first None = None
without_first (Some []) = Some []
without_first (Some (first ∷ others)) = Some others

-- these, and then one more
abbrev pub and_one : Option (List (List ℕ)) → Option (List ℕ) → Option (List (List ℕ))
and_one (Some all) (Some one) = Some (all ++ one ∷ [])
and_one _ _ = None

-- these, and then others
abbrev pub and_all : Option (List (List ℕ)) → Option (List (List ℕ)) → Option (List (List ℕ))
and_all (Some all) (Some others) = Some (all ++ others)
and_all _ _ = None

-- a new pair of streams: the source gives the first of the old list, which then lacks it; the sink has taken nothing; and
-- neither has failed
pub record Opens (old new : Option (List (List ℕ))) (pair : Flow) : Type 0 where
  pub gives : pair.left ≡ first_of old
  pub taken : pair.taken ≡ none_of old
  pub reads : pair.reads ≡ 0
  pub writes : pair.writes ≡ 0
  pub others : new ≡ without_first old

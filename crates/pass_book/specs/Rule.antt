-- The rule of the table: it holds between any two steps.
use Rattle.std.specs.Prelude.{◌≡◌, ℕ, ◌<◌, ◌≤◌, ◌^◌, true, List, [], ◌∷◌, length}
use Rattle.std.specs.List.{sum_by}
use mathlib.Core.List.{IsPrefix}
use mathlib.Core.Option.{some}
use lib.ListN.{get_elem?}
use Rattle.pass_book.specs.declared.view.View.{View}

module _ {E : Type 0} where
  -- a view of a seat fits the history: its lists are prefixes of it, only the keeper's seat has the mark and the whole
  -- history, and a seat without stake made no call
  pub record Fits (log : List E) (keeper seat : ℕ) (v : View E) : Type 0 where
    pub list : IsPrefix v.list log
    pub told : IsPrefix v.told log
    pub marked : v.is_keeper ≡ true → seat ≡ keeper
    pub mark : seat ≡ keeper → v.is_keeper ≡ true
    pub whole : v.is_keeper ≡ true → v.list ≡ log
    pub idle : v.stake ≡ 0 → v.share ≡ 0

  -- there is one history: the word is its length, all views fit it, one of them is the keeper's, the shares add up to
  -- its length, and the stakes add up to 2^63
  pub record IsOneHistory (words : List ℕ) (views : List (View E)) : Type 0 where
    pub log : List E
    pub keeper : ℕ
    pub word : words ≡ length log ∷ []
    pub limit : length log ≤ 2 ^ 63
    pub there : keeper < length views
    pub fits : (seat : ℕ) (v : View E) → get_elem? views seat ≡ some v → Fits log keeper seat v
    pub shares : sum_by (λ v. v.share) views ≡ length log
    pub stakes : sum_by (λ v. v.stake) views ≡ 2 ^ 63

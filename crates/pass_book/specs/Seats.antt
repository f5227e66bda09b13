-- The seats of keepers and passes.
use Rattle.std.specs.Prelude.{◌≡◌, ℕ, ◌<◌, ◌≤◌, ◌^◌, [], length}
use Rattle.atomic_table.specs.Seated.{TableId}
use Rattle.atomic_table.specs.declared.shared.Seat.{Seat}
use Rattle.pass_book.specs.declared.view.View.{View}
use Rattle.pass_book.specs.Views.{IsAtRest, IsOfPass}

module _ {S V : Type 0} where
  -- it is a seat of this table, which has a word, and holds no slot
  pub record IsSeatOf (table : TableId) (seat : Seat S V) : Type 0 where
    pub here : seat.table_id ≡ table
    pub slots : seat.me.1 ≡ []
    pub word : 0 < table.words

  -- what a seat knows
  abbrev pub view_of : Seat S V → V
  view_of seat = seat.me.0

module _ {S E : Type 0} where
  -- a keeper's seat, and the number of entries that it knows
  pub record IsKeeperSeat (table : TableId) (seat : Seat S (View E)) (count : ℕ) : Type 0 where
    pub at : IsSeatOf table seat
    pub rest : IsAtRest (view_of seat) (view_of seat).list
    pub entries : count ≡ length (view_of seat).list
    pub limit : count ≤ 2 ^ 63

  -- a pass's seat, with its share and its stake, and the number of entries that it has seen
  pub record IsPassSeat (table : TableId) (seat : Seat S (View E)) (share stake seen : ℕ) : Type 0 where
    pub at : IsSeatOf table seat
    pub view : IsOfPass (view_of seat) (view_of seat).list share stake
    pub entries : seen ≡ length (view_of seat).list
    pub seen_limit : seen ≤ 2 ^ 63
    pub share_limit : share ≤ 2 ^ 63
    pub some_stake : 0 < stake
    pub stake_limit : stake ≤ 2 ^ 63

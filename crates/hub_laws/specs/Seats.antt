-- What happens at one of the three endpoints of a chain.
use Rattle.std.specs.Prelude.{List, [], ◌∷◌, Bool, true, false, if◌then◌else◌}
use Rattle.exchange_model.specs.End.{End}
use Rattle.exchange_model.specs.World.{Happening, Does, Folds, Site, Left, Right}
use Rattle.hub_laws.specs.Chain.{Chain, Front, Link, Passing, Rear}

pub data Seat : Type 0 where
  First : Seat
  Hub : Seat
  Last : Seat

abbrev pub is_same_seat : Seat → Seat → Bool
is_same_seat First First = true
is_same_seat Hub Hub = true
is_same_seat Last Last = true
is_same_seat a b = false

abbrev pub seat_of : Link → Site → Seat
seat_of Front Left = First
seat_of Front Right = Hub
seat_of Rear Left = Hub
seat_of Rear Right = Last

abbrev pub site_of : Happening → Site
site_of (Does act) = act.site
site_of (Folds site size) = site

abbrev pub end_at : Seat → Chain → End
end_at First chain = chain.first.end
end_at Hub chain = chain.hub
end_at Last chain = chain.last.end

-- what happens at this endpoint, on either link
abbrev pub happenings_at : Seat → List Passing → List Happening
happenings_at seat [] = []
happenings_at seat (passing ∷ later) =
    if is_same_seat (seat_of passing.link (site_of passing.happening)) seat then passing.happening ∷ happenings_at seat later
    else happenings_at seat later

-- Each of the three endpoints alone: what happens at it may happen to it, whatever the others do.
use Rattle.std.proofs.Common.{◌≡◌, ℕ, List, [], ◌∷◌, cond, refl}
use Rattle.exchange_model.specs.Alone.{MayHappenTo, end_after}
use Rattle.exchange_model.specs.End.{End}
use Rattle.exchange_model.specs.Fold.{IsFoldedSize}
use Rattle.exchange_model.specs.World.{Act, Happening, Does, Folds, MayHappen, MayHappenAt, Site, Left, Right, folded_at, speaker_at, world_after, world_at}
use Rattle.hub_laws.specs.Chain.{Chain, Front, Link, MayAllPass, Passing, Rear, chain_after, next_chain, with_world, world_on}
use Rattle.hub_laws.specs.Seats.{First, Hub, Last, Seat, end_at, happenings_at, is_same_seat, seat_of, site_of}

-- the endpoint alone, after what happens at it, and what happens later
pub record IsAlone (all : List Happening) (start last : End) : Type 0 where
  pub may : MayHappenTo all start
  pub leads : end_after all start ≡ last

-- one more act, at this endpoint or at another one
act_by : (seat : Seat) (link : Link) (site : Site) (act : Act) (rest : List Happening) (chain : Chain) (last : End)
    → MayHappenAt site act (world_on link chain)
    → IsAlone rest (end_at seat (with_world link (world_at site act (world_on link chain)) chain)) last
    → IsAlone (cond (is_same_seat (seat_of link site) seat) (Does act ∷ rest) rest) (end_at seat chain) last
act_by First Front Left act rest chain last may later = record { may = (may.step, later.may); leads = later.leads }
act_by First Front Right act rest chain last may later = later
act_by First Rear Left act rest chain last may later = later
act_by First Rear Right act rest chain last may later = later
act_by Hub Front Left act rest chain last may later = later
act_by Hub Front Right act rest chain last may later = record { may = (may.step, later.may); leads = later.leads }
act_by Hub Rear Left act rest chain last may later = record { may = (may.step, later.may); leads = later.leads }
act_by Hub Rear Right act rest chain last may later = later
act_by Last Front Left act rest chain last may later = later
act_by Last Front Right act rest chain last may later = later
act_by Last Rear Left act rest chain last may later = later
act_by Last Rear Right act rest chain last may later = record { may = (may.step, later.may); leads = later.leads }

-- one more compaction
fold_by : (seat : Seat) (link : Link) (site : Site) (size : ℕ) (rest : List Happening) (chain : Chain) (last : End)
    → IsFoldedSize (speaker_at site (world_on link chain)).end size
    → IsAlone rest (end_at seat (with_world link (folded_at site size (world_on link chain)) chain)) last
    → IsAlone (cond (is_same_seat (seat_of link site) seat) (Folds site size ∷ rest) rest) (end_at seat chain) last
fold_by First Front Left size rest chain last may later = record { may = (may, later.may); leads = later.leads }
fold_by First Front Right size rest chain last may later = later
fold_by First Rear Left size rest chain last may later = later
fold_by First Rear Right size rest chain last may later = later
fold_by Hub Front Left size rest chain last may later = later
fold_by Hub Front Right size rest chain last may later = record { may = (may, later.may); leads = later.leads }
fold_by Hub Rear Left size rest chain last may later = record { may = (may, later.may); leads = later.leads }
fold_by Hub Rear Right size rest chain last may later = later
fold_by Last Front Left size rest chain last may later = later
fold_by Last Front Right size rest chain last may later = later
fold_by Last Rear Left size rest chain last may later = later
fold_by Last Rear Right size rest chain last may later = record { may = (may, later.may); leads = later.leads }

one_by : (seat : Seat) (link : Link) (happening : Happening) (rest : List Happening) (chain : Chain) (last : End)
    → MayHappen (happening ∷ []) (world_on link chain)
    → IsAlone rest (end_at seat (with_world link (world_after (happening ∷ []) (world_on link chain)) chain)) last
    → IsAlone (cond (is_same_seat (seat_of link (site_of happening)) seat) (happening ∷ rest) rest) (end_at seat chain) last
one_by seat link (Does act) rest chain last may later = act_by seat link act.site act rest chain last may.0 later
one_by seat link (Folds site size) rest chain last may later = fold_by seat link site size rest chain last may.0 later

pub alone : (seat : Seat) (all : List Passing) (chain : Chain) → MayAllPass all chain
    → IsAlone (happenings_at seat all) (end_at seat chain) (end_at seat (chain_after all chain))
alone seat [] chain may = record { may = tt; leads = refl }
alone seat (passing ∷ later) chain may =
    one_by seat passing.link passing.happening (happenings_at seat later) chain (end_at seat (chain_after later (next_chain passing chain)))
    may.0.happens (alone seat later (next_chain passing chain) may.1)

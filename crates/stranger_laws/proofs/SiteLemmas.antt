-- What happens at one endpoint of a world may happen to it alone, and leads to the same state.
use Rattle.std.proofs.Common.{◌≡◌, ℕ, List, [], ◌∷◌, refl, sym, ◌∙◌, ap, subst}
use Rattle.std.specs.Prelude.{if◌then◌else◌}
use Rattle.exchange_model.specs.Alone.{MayHappenTo, end_after}
use Rattle.exchange_model.specs.Apply.{applied}
use Rattle.exchange_model.specs.End.{End, empty_end}
use Rattle.exchange_model.specs.Fold.{IsFoldedSize, resized}
use Rattle.exchange_model.specs.Table.{Step}
use Rattle.exchange_model.specs.World.{Act, Happening, Does, Folds, World, Site, Left, Right, IsHeard, MayHappen, MayHappenAt, across, folded_at, is_same_site, new_world, speaker_at, world_after, world_at}
use Rattle.stranger_laws.specs.AtSite.{AreHeardAt, happenings_at}

-- one more act, at this or at the other site
may_act : (site here : Site) (act : Act) (all : List Happening) (world : World) → MayHappenAt here act world
    → MayHappenTo all (speaker_at site (world_at here act world)).end
    → MayHappenTo (if is_same_site here site then Does act ∷ all else all) (speaker_at site world).end
may_act Left Left act all world may rest = (may.step, rest)
may_act Left Right act all world may rest = rest
may_act Right Left act all world may rest = rest
may_act Right Right act all world may rest = (may.step, rest)

-- one more compaction
may_fold : (site here : Site) (size : ℕ) (all : List Happening) (world : World) → IsFoldedSize (speaker_at here world).end size
    → MayHappenTo all (speaker_at site (folded_at here size world)).end
    → MayHappenTo (if is_same_site here site then Folds here size ∷ all else all) (speaker_at site world).end
may_fold Left Left size all world may rest = (may, rest)
may_fold Left Right size all world may rest = rest
may_fold Right Left size all world may rest = rest
may_fold Right Right size all world may rest = (may, rest)

may_alone : (site : Site) (all : List Happening) (world : World) → MayHappen all world
    → MayHappenTo (happenings_at site all) (speaker_at site world).end
may_alone site [] world may = tt
may_alone site (Does act ∷ later) world may =
    may_act site act.site act (happenings_at site later) world may.0 (may_alone site later (world_at act.site act world) may.1)
may_alone site (Folds here size ∷ later) world may =
    may_fold site here size (happenings_at site later) world may.0 (may_alone site later (folded_at here size world) may.1)

after_act : (site here : Site) (act : Act) (all : List Happening) (world : World) (end : End)
    → end_after all (speaker_at site (world_at here act world)).end ≡ end
    → end_after (if is_same_site here site then Does act ∷ all else all) (speaker_at site world).end ≡ end
after_act Left Left act all world end e = e
after_act Left Right act all world end e = e
after_act Right Left act all world end e = e
after_act Right Right act all world end e = e

after_fold : (site here : Site) (size : ℕ) (all : List Happening) (world : World) (end : End)
    → end_after all (speaker_at site (folded_at here size world)).end ≡ end
    → end_after (if is_same_site here site then Folds here size ∷ all else all) (speaker_at site world).end ≡ end
after_fold Left Left size all world end e = e
after_fold Left Right size all world end e = e
after_fold Right Left size all world end e = e
after_fold Right Right size all world end e = e

after_alone : (site : Site) (all : List Happening) (world : World)
    → end_after (happenings_at site all) (speaker_at site world).end ≡ (speaker_at site (world_after all world)).end
after_alone site [] world = refl
after_alone site (Does act ∷ later) world =
    after_act site act.site act (happenings_at site later) world _ (after_alone site later (world_at act.site act world))
after_alone site (Folds here size ∷ later) world =
    after_fold site here size (happenings_at site later) world _ (after_alone site later (folded_at here size world))

-- both begin empty
begins : (site : Site) → (speaker_at site new_world).end ≡ empty_end
begins Left = refl
begins Right = refl

pub alone : (site : Site) (all : List Happening) → MayHappen all new_world
    → MayHappenTo (happenings_at site all) empty_end
    × (end_after (happenings_at site all) empty_end ≡ (speaker_at site (world_after all new_world)).end)
alone site all may = (
  subst (MayHappenTo (happenings_at site all)) (begins site) (may_alone site all new_world may),
  ap (end_after (happenings_at site all)) (sym (begins site)) ∙ after_alone site all new_world,
)

-- an act at a site leaves the other one
may_next : (site : Site) (act : Act) (world : World) → IsHeard (speaker_at (across site) world).said act.event.what
    → Step act.modes (speaker_at site world).end act.event act.outcome → MayHappenAt site act world
may_next Left act world heard step = record { heard = heard; step = step }
may_next Right act world heard step = record { heard = heard; step = step }

end_next : (site : Site) (act : Act) (world : World)
    → applied act.outcome.effects (speaker_at site world).end ≡ (speaker_at site (world_at site act world)).end
end_next Left act world = refl
end_next Right act world = refl

said_next : (site : Site) (act : Act) (world : World)
    → (speaker_at (across site) world).said ≡ (speaker_at (across site) (world_at site act world)).said
said_next Left act world = refl
said_next Right act world = refl

end_folded : (site : Site) (size : ℕ) (world : World) → resized size (speaker_at site world).end ≡ (speaker_at site (folded_at site size world)).end
end_folded Left size world = refl
end_folded Right size world = refl

said_folded : (site : Site) (size : ℕ) (world : World)
    → (speaker_at (across site) world).said ≡ (speaker_at (across site) (folded_at site size world)).said
said_folded Left size world = refl
said_folded Right size world = refl

pub part_of_world : (site : Site) (all : List Happening) (world : World) → MayHappenTo all (speaker_at site world).end
    → AreHeardAt site (speaker_at (across site) world).said all → MayHappen all world
part_of_world site [] world may heard = tt
part_of_world site (Does act ∷ later) world may heard =
    subst (λ (here : Site). MayHappenAt here act world × MayHappen later (world_at here act world)) (sym heard.0) (
      may_next site act world heard.1 may.0,
      part_of_world site later (world_at site act world) (subst (MayHappenTo later) (end_next site act world) may.1)
          (subst (λ said. AreHeardAt site said later) (said_next site act world) heard.2),
    )
part_of_world site (Folds here size ∷ later) world may heard =
    subst (λ (place : Site). IsFoldedSize (speaker_at place world).end size × MayHappen later (folded_at place size world)) (sym heard.0) (
      may.0,
      part_of_world site later (folded_at site size world) (subst (MayHappenTo later) (end_folded site size world) may.1)
          (subst (λ said. AreHeardAt site said later) (said_folded site size world) heard.1),
    )

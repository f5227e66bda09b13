-- Each of two endpoints alone: what happens at it may happen to it, whatever the other endpoint does.
use Rattle.std.proofs.Common.{◌≡◌, ℕ, List, [], ◌∷◌, cond, refl, ap, ◌∙◌, subst}
use Rattle.exchange_model.specs.Alone.{MayHappenTo, end_after}
use Rattle.exchange_model.specs.End.{End}
use Rattle.exchange_model.specs.Fold.{IsFoldedSize}
use Rattle.exchange_model.specs.World.{Act, Happening, Does, Folds, World, Site, Left, Right, MayHappen, MayHappenAt, acts_at, acts_of, folded_at, is_same_site, new_world, speaker_at, world_after, world_at}
use Rattle.exchange_laws.proofs.Accounts.{AreCounted, accounted}

-- what happens at one site
abbrev at_site : Site → List Happening → List Happening
at_site site [] = []
at_site site (Does act ∷ later) = cond (is_same_site act.site site) (Does act ∷ at_site site later) (at_site site later)
at_site site (Folds here size ∷ later) = cond (is_same_site here site) (Folds here size ∷ at_site site later) (at_site site later)

-- its acts
acts_by : (site here : Site) (act : Act) (all : List Happening) (acts : List Act) → acts_of all ≡ acts
    → acts_of (cond (is_same_site here site) (Does act ∷ all) all) ≡ cond (is_same_site here site) (act ∷ acts) acts
acts_by Left Left act all acts e = ap (λ (list : List Act). act ∷ list) e
acts_by Left Right act all acts e = e
acts_by Right Left act all acts e = e
acts_by Right Right act all acts e = ap (λ (list : List Act). act ∷ list) e

folds_none : (site here : Site) (size : ℕ) (all : List Happening)
    → acts_of (cond (is_same_site here site) (Folds here size ∷ all) all) ≡ acts_of all
folds_none Left Left size all = refl
folds_none Left Right size all = refl
folds_none Right Left size all = refl
folds_none Right Right size all = refl

acts_at_site : (site : Site) (all : List Happening) → acts_of (at_site site all) ≡ acts_at site all
acts_at_site site [] = refl
acts_at_site site (Does act ∷ later) = acts_by site act.site act (at_site site later) (acts_at site later) (acts_at_site site later)
acts_at_site site (Folds here size ∷ later) = folds_none site here size (at_site site later) ∙ acts_at_site site later

-- one more act, at this or at the other site
may_by : (site here : Site) (act : Act) (all : List Happening) (world : World) → MayHappenAt here act world
    → MayHappenTo all (speaker_at site (world_at here act world)).end
    → MayHappenTo (cond (is_same_site here site) (Does act ∷ all) all) (speaker_at site world).end
may_by Left Left act all world may rest = (may.step, rest)
may_by Left Right act all world may rest = rest
may_by Right Left act all world may rest = rest
may_by Right Right act all world may rest = (may.step, rest)

-- one more compaction
fold_by : (site here : Site) (size : ℕ) (all : List Happening) (world : World) → IsFoldedSize (speaker_at here world).end size
    → MayHappenTo all (speaker_at site (folded_at here size world)).end
    → MayHappenTo (cond (is_same_site here site) (Folds here size ∷ all) all) (speaker_at site world).end
fold_by Left Left size all world may rest = (may, rest)
fold_by Left Right size all world may rest = rest
fold_by Right Left size all world may rest = rest
fold_by Right Right size all world may rest = (may, rest)

may_alone : (site : Site) (all : List Happening) (world : World) → MayHappen all world
    → MayHappenTo (at_site site all) (speaker_at site world).end
may_alone site [] world may = tt
may_alone site (Does act ∷ later) world may =
    may_by site act.site act (at_site site later) world may.0 (may_alone site later (world_at act.site act world) may.1)
may_alone site (Folds here size ∷ later) world may =
    fold_by site here size (at_site site later) world may.0 (may_alone site later (folded_at here size world) may.1)

after_by : (site here : Site) (act : Act) (all : List Happening) (world : World) (end : End)
    → end_after all (speaker_at site (world_at here act world)).end ≡ end
    → end_after (cond (is_same_site here site) (Does act ∷ all) all) (speaker_at site world).end ≡ end
after_by Left Left act all world end e = e
after_by Left Right act all world end e = e
after_by Right Left act all world end e = e
after_by Right Right act all world end e = e

after_fold : (site here : Site) (size : ℕ) (all : List Happening) (world : World) (end : End)
    → end_after all (speaker_at site (folded_at here size world)).end ≡ end
    → end_after (cond (is_same_site here site) (Folds here size ∷ all) all) (speaker_at site world).end ≡ end
after_fold Left Left size all world end e = e
after_fold Left Right size all world end e = e
after_fold Right Left size all world end e = e
after_fold Right Right size all world end e = e

after_alone : (site : Site) (all : List Happening) (world : World)
    → end_after (at_site site all) (speaker_at site world).end ≡ (speaker_at site (world_after all world)).end
after_alone site [] world = refl
after_alone site (Does act ∷ later) world =
    after_by site act.site act (at_site site later) world _ (after_alone site later (world_at act.site act world))
after_alone site (Folds here size ∷ later) world =
    after_fold site here size (at_site site later) world _ (after_alone site later (folded_at here size world))

-- so the acts of an endpoint of a world account for what it sent
counted_from : (site : Site) (all : List Happening) → MayHappenTo (at_site site all) (speaker_at site new_world).end
    → AreCounted (acts_of (at_site site all)) (end_after (at_site site all) (speaker_at site new_world).end)
counted_from Left all may = (accounted (at_site Left all) may).counted
counted_from Right all may = (accounted (at_site Right all) may).counted

pub counted_at : (site : Site) (all : List Happening) → MayHappen all new_world
    → AreCounted (acts_at site all) (speaker_at site (world_after all new_world)).end
counted_at site all may =
    subst (λ (acts : List Act). AreCounted acts (speaker_at site (world_after all new_world)).end) (acts_at_site site all)
    (subst (AreCounted (acts_of (at_site site all))) (after_alone site all new_world) (counted_from site all (may_alone site all new_world may)))

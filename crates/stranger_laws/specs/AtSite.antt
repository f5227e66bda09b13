-- What happens at one endpoint of a world.
use Rattle.std.specs.Prelude.{◌≡◌, List, [], ◌∷◌, if◌then◌else◌}
use Rattle.as4_values.specs.declared.message.Message.{Message}
use Rattle.exchange_model.specs.World.{Happening, Does, Folds, IsHeard, Site, is_same_site}

-- where it happens
abbrev pub site_of : Happening → Site
site_of (Does act) = act.site
site_of (Folds site size) = site

-- the happenings at this site, in their order
abbrev pub happenings_at : Site → List Happening → List Happening
happenings_at site [] = []
happenings_at site (one ∷ later) =
    if is_same_site (site_of one) site then one ∷ happenings_at site later else happenings_at site later

-- all happen at this site, and each received message is one of these
abbrev pub AreHeardAt : Site → List Message → List Happening → Type 0
AreHeardAt site said [] = Unit {0}
AreHeardAt site said (Does act ∷ later) = (act.site ≡ site) × IsHeard said act.event.what × AreHeardAt site said later
AreHeardAt site said (Folds here size ∷ later) = (here ≡ site) × AreHeardAt site said later

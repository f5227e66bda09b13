use Rattle.stranger_laws.proofs.SiteLemmas.{alone}
use Rattle.stranger_laws.proofs.laws.a_site_is_an_end_alone.Goals as goal

pub returns : goal.returns
returns c = alone

use Rattle.std.proofs.Common.{refl, sym, subst}
use Rattle.hub_laws.specs.DeliveredThrough.{IsDelivered}
use Rattle.hub_world.specs.Transcript.{new_state}
use Rattle.hub_world.proofs.ScriptLemmas.{lines_lead}
use Rattle.hub_world.proofs.laws.a_chain_drill_delivers_once.Goals as goal

pub returns : goal.returns
returns c lines text state plays =
    let leads = lines_lead c.what_is_read_may_be_relayed.ensures lines new_state state text refl plays in
    record {
      all = leads.all;
      may = leads.may;
      leads = sym leads.leads;
      once = subst IsDelivered (sym leads.leads) (c.chains_deliver_once.ensures leads.all leads.may);
    }

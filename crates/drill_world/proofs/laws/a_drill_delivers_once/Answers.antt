use Rattle.std.proofs.Common.{sym, subst}
use Rattle.exchange_model.specs.DeliveredOnce.{BothDeliverOnce}
use Rattle.exchange_model.specs.World.{World}
use Rattle.drill_world.specs.Transcript.{new_state}
use Rattle.drill_world.proofs.WorldLemmas.{lines_lead}
use Rattle.drill_world.proofs.laws.a_drill_delivers_once.Goals as goal

pub returns : goal.returns
returns c lines text state plays =
    let leads = lines_lead lines new_state state text plays in
    record {
      all = leads.all;
      may = leads.may;
      leads = sym leads.after;
      once = subst (λ (w : World). BothDeliverOnce leads.all w) (sym leads.after) (c.messages_are_delivered_once.ensures leads.all leads.may);
    }

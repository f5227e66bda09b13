-- What a pair of endpoints and a chain of three make of a script.
use Rattle.drill.specs.declared.play.Play.{Ghosts as PlayMeaning}
use Rattle.drill_world.specs.Transcript.{DrillState}
use Rattle.drill_world.specs.Transcript as pair
use Rattle.exchange_model.specs.DeliveredOnce.{HasDeliveredOnce}
use Rattle.hub_world.specs.Delivered.{HasDeliveredThrough}
use Rattle.hub_world.specs.Transcript.{HubState}
use Rattle.hub_world.specs.Transcript as chain

abbrev pub pair_meaning : PlayMeaning DrillState
pair_meaning = record {
  first = pair.new_state;
  right = λ l s. pair.is_right l s;
  too_many = λ l s. pair.is_too_many l s;
  plays = λ l old text new. pair.Plays l (pair.doing_of old.world l) old text new;
  plays_all = λ lines old text new. pair.PlaysAll lines old text new;
  end_lines = λ s. pair.end_lines s.world;
  delivers = λ s. HasDeliveredOnce s.world;
}

abbrev pub chain_meaning : PlayMeaning HubState
chain_meaning = record {
  first = chain.new_state;
  right = λ l s. chain.is_right l s;
  too_many = λ l s. chain.is_too_many l s;
  plays = λ l old text new. chain.Plays l (chain.doing_of old l) old text new;
  plays_all = λ lines old text new. chain.PlaysAll lines old text new;
  end_lines = λ s. chain.end_lines s.ends;
  delivers = λ s. HasDeliveredThrough s.ends;
}

use Rattle.std.proofs.Common.{◌≡◌, true, ap, ◌∙◌}
use Rattle.hub_world.specs.Transcript.{HubState}
use Rattle.hub_world.proofs.StateLemmas.{met_stops, parts_are}
use Rattle.hub_world.proofs.state.HubState.stop.Goals as goal

pub returns : goal.returns
returns c =
    let s = c.self.inside in
    let same = c.self.view_is ∙ c.count.ensures in
    let begun : s.begun ≡ true = ap (λ (t : HubState). t.begun) same ∙ c.requires.begun in
    met_stops c.args.link c.args.at.call c.args.at.pick c.args.end c.args.event s.trio c.stop.new.self c.stop.result c.args.self.now _
    (ap (λ (t : HubState). t.ends) same) (c.self.invariant.shared begun ∙ ap (λ (t : HubState). t.modes) same)
    (parts_are s.trio c.stop.new.self s.modes.items s.events s.begun c.args.self.now c.count.new.self c.self.view_is c.count.ensures)
    c.requires.begun c.requires.nonce c.stop.ensures.stops

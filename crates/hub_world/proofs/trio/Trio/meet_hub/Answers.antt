use Rattle.std.proofs.Common.{◌∷◌, ◌++◌, ◌∙◌, [], List, ap, arith, subst, sym}
use Rattle.std.proofs.lemmas.List.{append-nil}
use Rattle.drill_script.specs.declared.line.LinkName.{LinkName}
use Rattle.exchange_model.specs.World.{Speaker}
use Rattle.hub_world.specs.Ends.{TrioState}
use Rattle.hub_world.specs.Trios.{MeetsAtHub}
use Rattle.hub_world.proofs.TrioLemmas.{at_hub, link_added, link_stays}
use Rattle.hub_world.proofs.trio.Trio.meet_hub.Goals as goal
use Rattle.hub_world.proofs.trio.Trio.meet_hub.Goals.{then-said, else-said}

pub returns-clause-meets : goal.returns-clause-meets
returns-clause-meets c =
    let s = c.self.inside in
    let a = c.args in
    let meets = c.in_ok-text.ensures.meets in
    let said = ap (λ (p : Speaker). p.said) meets.leads in
    let old = s.hub.speaker.said in
    let new = c.meet.new.self.speaker.said in
    elim c.if-said.branch [
      | then-said w ↦ subst (λ (t : TrioState). MeetsAtHub a.link a.end a.event a.number a.lost a.self.now c.in_ok-text.text t) (sym w.self-is)
          (at_hub a.end a.link a.event a.number a.lost s.first s.hub c.meet.new.self s.last s.links.items w.push_reserved.new.self.items a.self.now c.in_ok-text.text
          c.self.view_is c.self.invariant.0 meets
          (w.push_reserved.ensures.items
          ∙ ap (λ (l : List LinkName). l ++ a.link ∷ []) c.in-Ok.ensures.items
          ∙ ap (λ (l : List LinkName). s.links.items ++ l)
          (sym (link_added a.link meets.outcome a.lost old new said (omega (arith, w.if-said.true, c.said-said.ensures, c.said.ensures))))))
      | else-said w ↦ subst (λ (t : TrioState). MeetsAtHub a.link a.end a.event a.number a.lost a.self.now c.in_ok-text.text t) (sym w.self-is)
          (at_hub a.end a.link a.event a.number a.lost s.first s.hub c.meet.new.self s.last s.links.items c.reserve.new.self.items a.self.now c.in_ok-text.text
          c.self.view_is c.self.invariant.0 meets
          (c.in-Ok.ensures.items
          ∙ sym (append-nil s.links.items)
          ∙ ap (λ (l : List LinkName). s.links.items ++ l)
          (sym (link_stays a.link meets.outcome a.lost old new said (omega (arith, w.if-said.false, c.said-said.ensures, c.said.ensures))))))
    ]

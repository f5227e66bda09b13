use Rattle.std.proofs.Common.{◌||◌, [], ◌∷◌, Contains, ◌++◌, refl, sym, ap, subst, ◌∙◌, append-nil, append_assoc}
use Rattle.std.proofs.lemmas.List.Elements.{All-contains, Contains-append_left, Contains-push}
use Rattle.handler.specs.Crews.{IsOfBook}
use Rattle.handler.specs.Dismissal.{Retires, gathering}
use Rattle.handler.specs.Hosts.{doors_of}
use Rattle.handler.proofs.DismissalLemmas.{starved_or}
use Rattle.handler.proofs.HostLemmas.{knows_same}
use Rattle.handler.proofs.dismissing.dismiss.Goals as goal

pub loop-worker-init : goal.loop-worker-init
loop-worker-init g c = (([], sym (append-nil c.args.crew.items), refl), refl, refl)

pub retire-is_starved-requires-clause-names : goal.retire-is_starved-requires-clause-names
retire-is_starved-requires-clause-names g c =
    knows_same g.H.Host (doors_of c.args.setup) c.args.host.now c.loop-worker.host c.loop-worker.invariant.1 c.requires.names

pub retire-is_starved-requires-clause-book : goal.retire-is_starved-requires-clause-book
retire-is_starved-requires-clause-book g c =
    let at = c.loop-worker in
    let there = subst (λ l. Contains l c.in-Some.worker) (sym c.in-Some.ensures.items) (Contains-push c.pop.new.self.items c.in-Some.worker) in
    let among = subst (λ l. Contains l c.in-Some.worker) (sym at.invariant.0.1) (Contains-append_left at.crew.items at.invariant.0.0 c.in-Some.worker there) in
    All-contains (IsOfBook c.args.pass.now.book) c.args.crew.items c.in-Some.worker c.requires.books among ∙ sym at.invariant.2

pub loop-worker-preserved : goal.loop-worker-preserved
loop-worker-preserved g c =
    let at = c.loop-worker in
    let w = c.in-Some.worker in
    let r = c.retire-is_starved in
    let retires = r.ensures.retires in
    let here : Retires g.H.Host g.H.Entrance.Door g.H.Dialer.Link c.args.setup w (gathering at.host at.pass at.is_starved) (gathering r.new.host r.new.pass (at.is_starved || r.result)) =
    record {
      middle = retires.middle;
      door = retires.door;
      link = retires.link;
      pass = retires.pass;
      starved = λ none. let both = starved_or at.is_starved r.result none in (both.0, (retires.starved both.1).1);
    } in (
      (
        w ∷ at.invariant.0.0,
        at.invariant.0.1 ∙ ap (λ l. l ++ at.invariant.0.0) c.in-Some.ensures.items ∙ append_assoc c.pop.new.self.items (w ∷ []) at.invariant.0.0,
        (gathering at.host at.pass at.is_starved, at.invariant.0.2, here),
      ),
      r.ensures.names ∙ at.invariant.1,
      r.ensures.book ∙ at.invariant.2,
    )

use Rattle.std.proofs.Common.{rules, vec_capacity, ◌≡◌, ◌≤◌, List, [], ◌∷◌, ◌++◌, None, length, refl, sym, ap, subst, ◌∙◌, append-nil, append_assoc, length-append, arith}
use Rattle.std.specs.Vec.Iter.{into_iter_items, into_iter_len}
use Rattle.handler.specs.Crews.{HiresAside, pulls_by}
use Rattle.workers.specs.declared.job.Job.TheVariants as job
use Rattle.handler.proofs.HiringLemmas.{as_many, doorless, hires_none, hires_one, hires_then, pulls_length, pulls_more}
use Rattle.handler.proofs.HostLemmas.{still_none, still_then}
use Rattle.handler.proofs.crew.pull.Goals as goal

nothing_left : {X : Type 0} (l : List X) → length l ≡ 0 → l ≡ []
nothing_left [] h = refl
nothing_left (x ∷ xs) h = absurd (omega arith)

-- src/crew.rt:82:5
pub loop-mode-init : goal.loop-mode-init
loop-mode-init g c =
    let same : into_iter_len c.into_iter-mode-iterator.result ≡ length (into_iter_items c.into_iter-mode-iterator.result) = search rules in
    let less : vec_capacity c.args.crew.now ≤ vec_capacity c.args.crew.now = omega arith in
    (refl, same, still_none g.H.Host c.args.host.now, less, ([], sym (append-nil c.args.crew.now.items), λ peers. hires_none g.H.Entrance.Door c.args.turns peers c.args.pass.now))

-- src/crew.rt:83:19
pub hire-requires-clause-stake : goal.hire-requires-clause-stake
hire-requires-clause-stake g c =
    let at = c.loop-mode in
    let hires = at.invariant.4.2 None in
    let many = as_many g.H.Entrance.Door c.args.turns None c.args.pass.now at.pass (pulls_by at.yielded) at.invariant.4.0 hires in
    let taken = pulls_length at.yielded in
    let steps = ap length c.in-Some.ensures.steps.0 in
    let all = ap length at.invariant.0 in
    let given = ap length c.into_iter-mode-iterator.ensures.into_iter_gives.0 in
    let split = length-append at.yielded (into_iter_items at.mode-iterator) in
    let part = hires.splits.1 in
    omega (arith, many, taken, steps, all, given, split, part, c.requires.stake)

-- src/crew.rt:83:19
pub hire-requires-clause-list : goal.hire-requires-clause-list
hire-requires-clause-list g c = ap (λ p. p.list) (c.loop-mode.invariant.4.2 None).splits.0 ∙ c.requires.list

-- src/crew.rt:83:9
pub put-requires : goal.put-requires
put-requires g c =
    let at = c.loop-mode in
    let hires = at.invariant.4.2 None in
    let many = as_many g.H.Entrance.Door c.args.turns None c.args.pass.now at.pass (pulls_by at.yielded) at.invariant.4.0 hires in
    let taken = pulls_length at.yielded in
    let steps = ap length c.in-Some.ensures.steps.0 in
    let all = ap length at.invariant.0 in
    let given = ap length c.into_iter-mode-iterator.ensures.into_iter_gives.0 in
    let split = length-append at.yielded (into_iter_items at.mode-iterator) in
    let items = ap length at.invariant.4.1 in
    let both = length-append c.args.crew.now.items at.invariant.4.0 in
    record { room = omega (arith, many, taken, steps, all, given, split, items, both, at.invariant.3, c.requires.room) }

-- src/crew.rt:82:5
pub loop-mode-preserved : goal.loop-mode-preserved
loop-mode-preserved g c =
    let at = c.loop-mode in
    let x = c.in-Some.mode in
    let steps = c.in-Some.ensures.steps.0 in
    let more = at.invariant.4.0 in (
      append_assoc at.yielded (x ∷ []) (into_iter_items c.next.new.self) ∙ ap (λ l. at.yielded ++ l) (sym steps) ∙ at.invariant.0,
      (let was = at.invariant.1 in
          let gone = c.in-Some.ensures.steps.1 in
          let short = ap length steps in
          omega arith),
      still_then g.H.Host c.args.host.now at.host c.hire.new.host at.invariant.2 c.hire.ensures.host,
      omega (arith, at.invariant.3, c.put.ensures.room),
      (
        more ++ c.hire.result ∷ [],
        c.put.ensures.items ∙ ap (λ l. l ++ c.hire.result ∷ []) at.invariant.4.1 ∙ append_assoc c.args.crew.now.items more (c.hire.result ∷ []),
        λ peers. subst (λ jobs. HiresAside g.H.Entrance.Door c.args.turns peers c.args.pass.now c.hire.new.pass jobs (more ++ c.hire.result ∷ [])) (sym (pulls_more at.yielded (x ∷ [])))
            (hires_then g.H.Entrance.Door c.args.turns peers c.args.pass.now at.pass c.hire.new.pass (pulls_by at.yielded) (job.Pull x ∷ []) more (c.hire.result ∷ [])
            (at.invariant.4.2 peers)
            (hires_one g.H.Entrance.Door c.args.turns peers at.pass c.hire.new.pass (job.Pull x) c.hire.result c.hire.ensures.hired c.hire.ensures.job
            (doorless g.H.Entrance.Door peers c.hire.result (job.Pull x) c.hire.ensures.job refl c.hire.ensures.door) c.hire.ensures.pass)),
      ),
    )

-- src/crew.rt:67:1
pub returns-clause-crew : goal.returns-clause-crew
returns-clause-crew g c =
    let at = c.loop-mode in
    let none = c.in-None.ensures.steps in
    let empty : into_iter_items at.mode-iterator ≡ [] = nothing_left (into_iter_items at.mode-iterator) (sym at.invariant.1 ∙ none.0) in
    let all : at.yielded ≡ c.args.pulls.items =
    sym (append-nil at.yielded) ∙ ap (λ l. at.yielded ++ l) (sym empty) ∙ at.invariant.0 ∙ c.into_iter-mode-iterator.ensures.into_iter_gives.0 in
    (at.invariant.4.0, at.invariant.4.1, λ peers. subst (λ l. HiresAside g.H.Entrance.Door c.args.turns peers c.args.pass.now at.pass (pulls_by l) at.invariant.4.0) all (at.invariant.4.2 peers))

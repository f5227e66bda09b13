use Rattle.std.proofs.Common.{◌≡◌, ◌≢◌, ◌<◌, ℕ, inl, inr, length, slice_index_or, subst, sym}
use Rattle.std.proofs.lemmas.Bool.{cases_eq}
use Rattle.as4_keep.specs.KeptBounds.{GrowsKept}
use Rattle.handler.specs.Crews.{MadeTurns}
use Rattle.handler.proofs.CrewLemmas.{made_all, took_all}
use Rattle.handler.proofs.KeptLemmas.{grows_once, kept_job}
use Rattle.workers.specs.declared.job.Worker.{Worker as WorkerValue}
use Rattle.handler.proofs.running.run_crew.Goals as goal

pub returns-clause-made : goal.returns-clause-made
returns-clause-made g c =
    let once = c.workers_make_their_turns.ensures in
    let kept = c.kept_workers_make_their_turns.ensures in
    let some = c.requires.keep.0 in
    let olds = c.args.crew.now.items in
    let news = c.serve_all.new.crew.items in
    let by_once : c.args.keep ≡ 1 → (i : ℕ) (w : WorkerValue _ _ _ _) → i < length olds → MadeTurns g.W.Door c.args.keep (slice_index_or olds i w) (slice_index_or news i w) =
    λ is i w lt.
    let old = slice_index_or olds i w in
    let new = slice_index_or news i w in
    let worked = c.serve_all.ensures.once is i w lt in record {
      grows = subst (λ keep. GrowsKept keep old.turns old new) (sym is) (grows_once old.turns old new (once.grows old new worked));
      kept = once.keeps old new worked;
      pass = worked.pass;
      makes = once.makes old new worked;
      took = λ kind from all at is told. once.serves old new kind from all worked at is told;
    } in
    let by_kept : c.args.keep ≢ 1 → (i : ℕ) (w : WorkerValue _ _ _ _) → i < length olds → MadeTurns g.W.Door c.args.keep (slice_index_or olds i w) (slice_index_or news i w) =
    λ other i w lt.
    let old = slice_index_or olds i w in
    let new = slice_index_or news i w in
    let worked = c.serve_all.ensures.kept other i w lt in record {
      grows = kept.grows c.args.keep old new some worked;
      kept = (
        kept_job g.D.Disk g.J.Opening g.W.Door g.L.Link g.C.Clock g.N.Nonces c.args.keep old new worked.turns,
        λ none. (once.keeps old new (kept.away c.args.keep old new worked none)).1 none,
      );
      pass = worked.pass;
      makes = λ none. once.makes old new (kept.away c.args.keep old new worked none) none;
      took = λ kind from all at is told. kept.serves c.args.keep old new kind from all some worked at is told;
    } in
    elim (cases_eq c.args.keep 1) [
      | inl is ↦ made_all g.W.Door c.args.keep olds news c.serve_all.ensures.count (by_once is)
      | inr other ↦ made_all g.W.Door c.args.keep olds news c.serve_all.ensures.count (by_kept other)
    ]

pub returns-clause-took : goal.returns-clause-took
returns-clause-took g c =
    let olds = c.args.crew.now.items in
    let news = c.serve_all.new.crew.items in
    elim (cases_eq c.args.keep 1) [
      | inl is ↦ took_all g.D.Disk g.J.Opening g.W.Door g.L.Link g.C.Clock g.N.Nonces c.args.keep olds news c.serve_all.ensures.count (λ i w lt. inl (is, c.serve_all.ensures.once is i w lt))
      | inr other ↦ took_all g.D.Disk g.J.Opening g.W.Door g.L.Link g.C.Clock g.N.Nonces c.args.keep olds news c.serve_all.ensures.count (λ i w lt. inr (other, c.serve_all.ensures.kept other i w lt))
    ]

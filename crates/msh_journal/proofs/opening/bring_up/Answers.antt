use Rattle.std.proofs.Common.{◌≡◌, inl, refl, sym, ◌∙◌}
use Rattle.journal.specs.declared.version.Version.TheVariants.{One, Two}
use Rattle.msh_journal.proofs.OpeningLemmas.{all_held, folded_end, has_folded_size, is_old, is_one, is_two, read_end, refolded_run, reread_run, short_fold, whole_journal}
use Rattle.msh_journal.proofs.RunLemmas.{told_before}
use Rattle.msh_journal.proofs.opening.bring_up.Goals as goal

pub returns-in_err-read_all-clause-any_moment : goal.returns-in_err-read_all-clause-any_moment
returns-in_err-read_all-clause-any_moment g c has b told =
    reread_run g.D.Disk c.args.journal.now.disk c.read_all.new.journal.disk b (c.read_all.ensures.any_moment has b told)

pub returns-then-version-eq-WRITTEN_VERSION-clause-kept : goal.returns-then-version-eq-WRITTEN_VERSION-clause-kept
returns-then-version-eq-WRITTEN_VERSION-clause-kept g c =
    let first = c.args.journal.now in
    let now = c.read_all.new.journal in
    let all = c.in_ok-read_all.ensures.read in
    let two : now.version ≡ Two = is_two now.version (sym c.version.ensures ∙ c.if-version-eq-WRITTEN_VERSION.true) in
    whole_journal g.D.Disk first now c.read_all.new.core.end c.read_all.new.core.places all.0 all.1 two c.requires.new.3
    (λ b told. let was = told_before (g.D.Disk.seen first.disk) (g.D.Disk.seen now.disk) b c.read_all.ensures.counts.tells told in c.requires.read was.0 was.1)

pub returns-then-version-eq-WRITTEN_VERSION-clause-end : goal.returns-then-version-eq-WRITTEN_VERSION-clause-end
returns-then-version-eq-WRITTEN_VERSION-clause-end g c =
    let now = c.read_all.new.journal in
    let all = c.in_ok-read_all.ensures.read in
    let two : now.version ≡ Two = is_two now.version (sym c.version.ensures ∙ c.if-version-eq-WRITTEN_VERSION.true) in
    read_end g.D.Disk c.args.journal.now now c.read_all.new.core.end c.read_all.new.core.places all.0 all.1 two

pub returns-then-version-eq-WRITTEN_VERSION-clause-any_moment : goal.returns-then-version-eq-WRITTEN_VERSION-clause-any_moment
returns-then-version-eq-WRITTEN_VERSION-clause-any_moment g c has b told =
    reread_run g.D.Disk c.args.journal.now.disk c.read_all.new.journal.disk b (c.read_all.ensures.any_moment has b told)

pub fold_end-requires-clause-short : goal.fold_end-requires-clause-short
fold_end-requires-clause-short g c size folded =
    let now = c.read_all.new.journal in
    let end = c.read_all.new.core.end in
    let all = c.in_ok-read_all.ensures.read in
    let one : now.version ≡ One = is_one now.version (λ is. c.if-version-eq-WRITTEN_VERSION.false (c.version.ensures ∙ is)) in
    short_fold g.D.Disk c.args.journal.now now end c.read_all.new.core.places all.0 all.1 one size (c.a_fold_of_few_bytes_is_short.ensures all.0 end size all.1.leads folded)

pub fold_end-requires-clause-held : goal.fold_end-requires-clause-held
fold_end-requires-clause-held g c =
    let first = c.args.journal.now in
    let now = c.read_all.new.journal in
    let all = c.in_ok-read_all.ensures.read in
    all_held g.D.Disk first now c.read_all.new.core.end c.read_all.new.core.places all.0 all.1
    (λ b told. let was = told_before (g.D.Disk.seen first.disk) (g.D.Disk.seen now.disk) b c.read_all.ensures.counts.tells told in c.requires.read was.0 was.1)

pub returns-in-Done-clause-end : goal.returns-in-Done-clause-end
returns-in-Done-clause-end g c =
    let first = c.args.journal.now in
    let now = c.read_all.new.journal in
    let all = c.in_ok-read_all.ensures.read in
    let one : now.version ≡ One = is_one now.version (λ is. c.if-version-eq-WRITTEN_VERSION.false (c.version.ensures ∙ is)) in
    folded_end g.D.Disk first now c.read_all.new.core.end c.fold_end.new.core.end c.read_all.new.core.places all.0 all.1 one (c.in_ok-fold_end.ensures.end c.in-Done.is)

pub returns-in-Done-clause-any_moment : goal.returns-in-Done-clause-any_moment
returns-in-Done-clause-any_moment g c has b told =
    let first = c.args.journal.now in
    let now = c.read_all.new.journal in
    let end = c.read_all.new.core.end in
    let all = c.in_ok-read_all.ensures.read in
    let size = has_folded_size all.0 end all.1.leads in
    let one : now.version ≡ One = is_one now.version (λ is. c.if-version-eq-WRITTEN_VERSION.false (c.version.ensures ∙ is)) in
    let old = is_old g.D.Disk first b b (inl refl) has told (c.requires.version b told) (sym all.1.version ∙ one) in
    refolded_run g.D.Disk c.one_body.ensures now.version first.disk now.disk c.fold_end.new.journal.disk b all.0 end size.0 old (all.1.all has b told) all.1.leads size.1
    (c.read_all.ensures.any_moment has b told) (c.fold_end.ensures.any_moment all.0 size.0 (all.1.records has) size.1)

pub returns-in_err-fold_end-clause-any_moment : goal.returns-in_err-fold_end-clause-any_moment
returns-in_err-fold_end-clause-any_moment g c has b told =
    let first = c.args.journal.now in
    let now = c.read_all.new.journal in
    let end = c.read_all.new.core.end in
    let all = c.in_ok-read_all.ensures.read in
    let size = has_folded_size all.0 end all.1.leads in
    let one : now.version ≡ One = is_one now.version (λ is. c.if-version-eq-WRITTEN_VERSION.false (c.version.ensures ∙ is)) in
    let old = is_old g.D.Disk first b b (inl refl) has told (c.requires.version b told) (sym all.1.version ∙ one) in
    refolded_run g.D.Disk c.one_body.ensures now.version first.disk now.disk c.fold_end.new.journal.disk b all.0 end size.0 old (all.1.all has b told) all.1.leads size.1
    (c.read_all.ensures.any_moment has b told) (c.fold_end.ensures.any_moment all.0 size.0 (all.1.records has) size.1)

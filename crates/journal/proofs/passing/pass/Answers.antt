use Rattle.std.proofs.Common.{ℕ, List, [], ◌∷◌, ◌++◌, subst, ◌∙◌, append_assoc}
use Rattle.journal.specs.Leaf.{front_of}
use Rattle.journal.specs.Settled.{IsSettled}
use Rattle.journal.proofs.PassLemmas.{still, read_run, read_record, read_closed, read_broken, closing_run}
use Rattle.journal.proofs.passing.pass.Goals as goal

pub returns-in_err-body-clause-any_moment : goal.returns-in_err-body-clause-any_moment
returns-in_err-body-clause-any_moment g c bodies byte rest place within ahead is =
    read_run g.D.Disk c.args.disk.now c.read_next.new.disk c.read_next.ensures.quiet c.args.is_second c.args.version bodies byte rest c.args.gate place is

pub returns-in-Record-clause-any_moment : goal.returns-in-Record-clause-any_moment
returns-in-Record-clause-any_moment g c bodies byte rest place within ahead is =
    read_run g.D.Disk c.args.disk.now c.read_next.new.disk c.read_next.ensures.quiet c.args.is_second c.args.version bodies byte rest c.args.gate place is

pub returns-in-Closed-eq0-clause-any_moment : goal.returns-in-Closed-eq0-clause-any_moment
returns-in-Closed-eq0-clause-any_moment g c bodies byte rest place within ahead is =
    read_run g.D.Disk c.args.disk.now c.read_next.new.disk c.read_next.ensures.quiet c.args.is_second c.args.version bodies byte rest c.args.gate place is

pub returns-in-Broken-clause-any_moment : goal.returns-in-Broken-clause-any_moment
returns-in-Broken-clause-any_moment g c bodies byte rest place within ahead is =
    read_run g.D.Disk c.args.disk.now c.read_next.new.disk c.read_next.ensures.quiet c.args.is_second c.args.version bodies byte rest c.args.gate place is

pub returns-in_err-write_picked-in-Closed-clause-any_moment : goal.returns-in_err-write_picked-in-Closed-clause-any_moment
returns-in_err-write_picked-in-Closed-clause-any_moment g c bodies byte rest place within ahead is =
    closing_run g.D.Disk c.args.disk.now c.read_next.new.disk c.read_next.ensures.quiet c.args.is_second c.args.version bodies byte rest c.args.gate place is
    c.leaf_part.result c.leaf_part.ensures c.args.ahead ahead c.in_ok-body.field-0 c.in_ok-body.ensures.next c.write_picked.new.disk c.in-Closed.byte c.in-Closed.is c.in-Closed.byte-test.1 within c.write_picked.ensures.any_moment

pub returns-in_ok-write_picked-in-Closed-clause-any_moment : goal.returns-in_ok-write_picked-in-Closed-clause-any_moment
returns-in_ok-write_picked-in-Closed-clause-any_moment g c bodies byte rest place within ahead is =
    closing_run g.D.Disk c.args.disk.now c.read_next.new.disk c.read_next.ensures.quiet c.args.is_second c.args.version bodies byte rest c.args.gate place is
    c.leaf_part.result c.leaf_part.ensures c.args.ahead ahead c.in_ok-body.field-0 c.in_ok-body.ensures.next c.write_picked.new.disk c.in-Closed.byte c.in-Closed.is c.in-Closed.byte-test.1 within c.write_picked.ensures.any_moment

pub returns-in-Record-clause-passes : goal.returns-in-Record-clause-passes
returns-in-Record-clause-passes g c bodies byte rest place within ahead is =
    read_record g.D.Disk c.args.disk.now c.read_next.new.disk c.read_next.ensures.quiet c.args.is_second c.args.version bodies byte rest c.args.gate place is
    c.leaf_part.result c.leaf_part.ensures c.args.ahead ahead c.in_ok-body.field-0 c.in_ok-body.ensures.next c.in-Record.body c.in-Record.ahead c.in-Record.is

pub returns-in-Closed-eq0-clause-passes : goal.returns-in-Closed-eq0-clause-passes
returns-in-Closed-eq0-clause-passes g c bodies byte rest place within ahead is =
    let found = read_closed g.D.Disk c.args.disk.now c.read_next.new.disk c.read_next.ensures.quiet c.args.is_second c.args.version bodies byte rest c.args.gate place is
    c.leaf_part.result c.leaf_part.ensures c.args.ahead ahead c.in_ok-body.field-0 c.in_ok-body.ensures.next c.in-Closed-eq0.field-0 c.in-Closed-eq0.is in
    let P : ℕ → Type 0 = λ n. IsSettled g.D.Disk c.read_next.new.disk c.args.is_second (front_of c.args.version bodies ++ n ∷ rest) in
    (found.1, subst P (found.0 ∙ c.in-Closed-eq0.field-0-test) (still g.D.Disk c.args.disk.now c.read_next.new.disk c.read_next.ensures.quiet c.args.is_second c.args.version bodies byte rest c.args.gate place is))

pub returns-in_ok-write_picked-in-Closed-clause-passes : goal.returns-in_ok-write_picked-in-Closed-clause-passes
returns-in_ok-write_picked-in-Closed-clause-passes g c bodies byte rest place within ahead is =
    let found = read_closed g.D.Disk c.args.disk.now c.read_next.new.disk c.read_next.ensures.quiet c.args.is_second c.args.version bodies byte rest c.args.gate place is
    c.leaf_part.result c.leaf_part.ensures c.args.ahead ahead c.in_ok-body.field-0 c.in_ok-body.ensures.next c.in-Closed.byte c.in-Closed.is in
    let written = c.in_ok-write_picked-in-Closed.ensures.settled (front_of c.args.version bodies) (byte ∷ rest) place (still g.D.Disk c.args.disk.now c.read_next.new.disk c.read_next.ensures.quiet c.args.is_second c.args.version bodies byte rest c.args.gate place is) in
    let P : List ℕ → Type 0 = IsSettled g.D.Disk c.write_picked.new.disk c.args.is_second in
    (found.1, subst P (append_assoc (front_of c.args.version bodies) (0 ∷ []) rest) written)

pub returns-in-Broken-clause-passes : goal.returns-in-Broken-clause-passes
returns-in-Broken-clause-passes g c bodies byte rest place within ahead is =
    read_broken g.D.Disk c.args.disk.now c.read_next.new.disk c.read_next.ensures.quiet c.args.is_second c.args.version bodies byte rest c.args.gate place is
    c.leaf_part.result c.leaf_part.ensures c.args.ahead ahead c.in_ok-body.field-0 c.in_ok-body.ensures.next c.in-Broken.is

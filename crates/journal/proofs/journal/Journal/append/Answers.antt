use Rattle.std.proofs.Common.{◌≡◌, ◌+◌, ◌<◌, ℕ, inl, [], ◌∷◌, ◌++◌, length, sym, ap, subst, ◌∙◌, arith}
use Rattle.as4_disk.proofs.RunLemmas.{no_call}
use Rattle.journal.specs.declared.version.Version.{Version}
use Rattle.journal.specs.declared.version.Version.TheVariants.{Two}
use Rattle.journal.specs.Leaf.{front_of, limit_of}
use Rattle.journal.specs.Store.{InVersion, OpensToOneOf}
use Rattle.journal.specs.Settled.{IsSettled}
use Rattle.journal.proofs.JournalLaws.{as_two}
use Rattle.journal.proofs.LeafLemmas.{length-front_more}
use Rattle.journal.proofs.StoreLemmas.{settled_left, settled_opens, closed_in}
use Rattle.journal.proofs.journal.Journal.append.Goals as goal

pub returns-then-size-need-clause-any_moment : goal.returns-then-size-need-clause-any_moment
returns-then-size-need-clause-any_moment g c bodies has =
    let two = as_two g.D.Disk c.args.self.now bodies c.requires.version has in
    no_call g.D.Disk c.args.self.now.disk (InVersion Two (OpensToOneOf bodies c.args.frame.now))
    (λ image left.
    let in_two = closed_in Two bodies has.rest image two.2
    (settled_left g.D.Disk c.args.self.now.disk c.args.self.now.is_second (front_of Two bodies ++ 0 ∷ has.rest) image two.0 (g.met.D.Disk.only_now c.args.self.now.disk image left)).2 in
    (inl (settled_opens bodies (λ other. other ≡ c.args.frame.now) image in_two.0), in_two.1))

pub returns-in-Err-clause-any_moment : goal.returns-in-Err-clause-any_moment
returns-in-Err-clause-any_moment g c bodies has =
    let two = as_two g.D.Disk c.args.self.now bodies c.requires.version has in
    c.add_record.ensures.any_moment bodies has.rest two.1 (omega (arith, two.1, length-front_more Two bodies c.args.frame.now)) two.0

pub returns-in-Ok-clause-any_moment : goal.returns-in-Ok-clause-any_moment
returns-in-Ok-clause-any_moment g c bodies has =
    let two = as_two g.D.Disk c.args.self.now bodies c.requires.version has in
    c.add_record.ensures.any_moment bodies has.rest two.1 (omega (arith, two.1, length-front_more Two bodies c.args.frame.now)) two.0

pub returns-in-Ok-clause-settled : goal.returns-in-Ok-clause-settled
returns-in-Ok-clause-settled g c bodies has =
    let two = as_two g.D.Disk c.args.self.now bodies c.requires.version has in
    let added = c.in-Ok.ensures.settled bodies has.rest two.1 two.0 in
    let P : Version → Type 0 = λ v. IsSettled g.D.Disk c.add_record.new.disk c.args.self.now.is_second (front_of v (bodies ++ c.args.frame.now ∷ []) ++ 0 ∷ added.0) in
    let Q : Version → Type 0 = λ v. length (front_of v (bodies ++ c.args.frame.now ∷ [])) < limit_of v in
    let R : Version → Type 0 = λ v. c.args.self.now.gate + (length c.args.frame.now + 9) ≡ length (front_of v (bodies ++ c.args.frame.now ∷ [])) in
    let back : Two ≡ c.args.self.now.version = sym c.requires.version in
    let small : length (front_of Two (bodies ++ c.args.frame.now ∷ [])) < limit_of Two = omega (arith, two.1, length-front_more Two bodies c.args.frame.now) in
    let place : c.args.self.now.gate + (length c.args.frame.now + 9) ≡ length (front_of Two (bodies ++ c.args.frame.now ∷ [])) = omega (arith, two.1, length-front_more Two bodies c.args.frame.now) in
    let len : c.body_len-need.result ≡ length c.args.frame.now = c.body_len-need.ensures.len in
    record {
      rest = added.0;
      settled = subst P back added.1;
      place = ap (λ (n : ℕ). c.args.self.now.gate + (n + 9)) len ∙ subst R back place;
      within = subst Q back small;
      ahead = has.ahead;
    }

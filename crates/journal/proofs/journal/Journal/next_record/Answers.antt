use Rattle.std.proofs.Common.{◌≡◌, ℕ, Some, inr, List, [], ◌∷◌, ◌++◌, length, sym, ap, subst, ◌∙◌, arith, length-append}
use Rattle.journal.specs.declared.reading.Next.{Next}
use Rattle.as4_disk.specs.Image.{Image}
use Rattle.journal.specs.Leaf.{front_of, IsBroken}
use Rattle.journal.specs.Store.{picked_leaf}
use Rattle.journal.specs.State.{HasRead}
use Rattle.journal.specs.Passing.{Passes}
use Rattle.journal.proofs.LeafLemmas.{length-front, length-front_more}
use Rattle.journal.proofs.StoreLemmas.{settled_told}
use Rattle.journal.proofs.journal.Journal.next_record.Goals as goal

pub returns-in-Ok-Record-clause-any_moment : goal.returns-in-Ok-Record-clause-any_moment
returns-in-Ok-Record-clause-any_moment g c bodies read b told = c.pass.ensures.any_moment bodies read.next read.rest read.place read.within read.ahead read.settled b told

pub returns-in-Ok-Closed-clause-any_moment : goal.returns-in-Ok-Closed-clause-any_moment
returns-in-Ok-Closed-clause-any_moment g c bodies read b told = c.pass.ensures.any_moment bodies read.next read.rest read.place read.within read.ahead read.settled b told

pub returns-in-Ok-Broken-clause-any_moment : goal.returns-in-Ok-Broken-clause-any_moment
returns-in-Ok-Broken-clause-any_moment g c bodies read b told = c.pass.ensures.any_moment bodies read.next read.rest read.place read.within read.ahead read.settled b told

pub returns-in-Err-NoMemory-clause-any_moment : goal.returns-in-Err-NoMemory-clause-any_moment
returns-in-Err-NoMemory-clause-any_moment g c bodies read b told = c.pass.ensures.any_moment bodies read.next read.rest read.place read.within read.ahead read.settled b told

pub returns-in-Err-Disk-clause-any_moment : goal.returns-in-Err-Disk-clause-any_moment
returns-in-Err-Disk-clause-any_moment g c bodies read b told = c.pass.ensures.any_moment bodies read.next read.rest read.place read.within read.ahead read.settled b told

pub returns-in-Ok-Record-clause-record : goal.returns-in-Ok-Record-clause-record
returns-in-Ok-Record-clause-record g c bodies read =
    let version = c.args.self.now.version in
    let body = c.in-Ok-Record.body in
    let P : Next → Type 0 = λ n. Passes g.D.Disk c.pass.new.disk c.args.self.now.is_second version bodies read.next read.rest n in
    let found = subst P c.in-Ok-Record.field-0-is (c.in-Ok-Record.ensures.passes bodies read.next read.rest read.place read.within read.ahead read.settled) in
    let len : length c.bytes.result.now ≡ length body = ap length c.bytes.ensures in
    record {
      next = found.0;
      rest = found.1;
      settled = found.2;
      place = omega (arith, read.place, len, c.width.ensures, length-front_more version bodies body);
      within = found.3;
      ahead = found.4;
      made = λ is_open. omega (arith, length-append (front_of version (bodies ++ body ∷ [])) (found.0 ∷ found.1), length-front_more version bodies body, length-front version bodies);
    }

pub returns-in-Ok-Closed-clause-all : goal.returns-in-Ok-Closed-clause-all
returns-in-Ok-Closed-clause-all g c bodies read b told =
    let version = c.args.self.now.version in
    let P : Next → Type 0 = λ n. Passes g.D.Disk c.pass.new.disk c.args.self.now.is_second version bodies read.next read.rest n in
    let found = subst P c.in-Ok-Closed.field-0-is (c.in-Ok-Closed.ensures.passes bodies read.next read.rest read.place read.within read.ahead read.settled) in
    let bytes = (settled_told g.D.Disk c.args.self.now.disk c.args.self.now.is_second (front_of version bodies ++ read.next ∷ read.rest) b read.settled told).2 in
    inr (version, read.next, read.rest, record { bytes = bytes; closed = found.0; within = read.within })

pub returns-in-Ok-Broken-clause-not_journal : goal.returns-in-Ok-Broken-clause-not_journal
returns-in-Ok-Broken-clause-not_journal g c place is =
    let same : c.args.self.now.gate ≡ place = cc in
    (sym same, λ bodies read b told. broken bodies read b told same)
  where
    broken : (bodies : List (List ℕ)) → HasRead g.D.Disk c.args.self.now bodies → (b : Image) → g.D.Disk.seen c.args.self.now.disk ≡ Some b → c.args.self.now.gate ≡ place → IsBroken place (picked_leaf b)
    broken bodies read b told same =
        let version = c.args.self.now.version in
        let P : Next → Type 0 = λ n. Passes g.D.Disk c.pass.new.disk c.args.self.now.is_second version bodies read.next read.rest n in
        let found = subst P c.in-Ok-Broken.field-0-is (c.in-Ok-Broken.ensures.passes bodies read.next read.rest read.place read.within read.ahead read.settled) in
        let bytes = (settled_told g.D.Disk c.args.self.now.disk c.args.self.now.is_second (front_of version bodies ++ read.next ∷ read.rest) b read.settled told).2 in (
          omega (arith, read.made found.0, ap length bytes),
          inr (
            version,
            bodies,
            read.rest,
            sym same ∙ read.place,
            record {
              bytes = bytes ∙ ap (λ (n : ℕ). front_of version bodies ++ n ∷ read.rest) found.0;
              within = read.within;
              not_whole = λ body after gate are. omega (arith, found.1 body after gate are, length-front_more version bodies body);
            },
          ),
        )

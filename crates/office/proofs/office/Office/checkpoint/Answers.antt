use Rattle.std.proofs.Common.{inl, inr, ◌<◌, ◌^◌, ◌∙◌, List, None, Some, Err, is_some, length, refl, sym, ap, subst, arith}
use Rattle.std.proofs.lemmas.Grind.{common_steps}
use Rattle.as4_disk.proofs.RunLemmas.{at_end}
use Rattle.mode_values.specs.declared.mode.Mode.{Mode}
use Rattle.msh_recovery.specs.Opens.{OpensFolded}
use Rattle.journal.specs.Faults.{IsCause}
use Rattle.msh_core.specs.Machine.{Machine}
use Rattle.office.specs.State.{IsInOrder}
use Rattle.as4_disk.specs.declared.fault_counts.FaultCounts.{FaultCounts}
use Rattle.office.specs.declared.call.Call.TheVariants.{Folded, Stop}
use Rattle.msh_journal.proofs.RunLemmas.{told_before}
use Rattle.office.proofs.CallLemmas.{folded_leads, stop_leads}
use Rattle.office.proofs.FoldLemmas.{fold_run, folded_size_is, none_seen}
use Rattle.office.proofs.HandlingLemmas.{enters, finds_worn, keeps, not_both}
use Rattle.office.proofs.StateLemmas.{order_goes, order_stays, order_stops, still_folded}
use Rattle.office.proofs.office.Office.checkpoint.Goals as goal

-- nothing is done, since the history is full
pub returns-then-len : goal.returns-then-len
returns-then-len g c =
    let o = c.self.inside in
    let order = c.self.invariant.0 in
    rw (← c.self.view_is, c.show.ensures.same) (record {
      answer = finds_worn (omega (arith, c.len.ensures.value, c.if-len.true)) c.show.ensures.begins c.show.ensures.whole;
      any_moment = λ going image told. still_folded g.met.D.Disk.only_now (order.kept (order.halted ∙ going)).is image told;
      keeps = keeps order refl refl c.show.ensures.whole (λ start leads. leads) refl (λ none. refl) (omega arith);
    })

-- the disk failed before
pub returns-in-Some : goal.returns-in-Some
returns-in-Some g c =
    let o = c.self.inside in
    let order = c.self.invariant.0 in
    let halt = c.in-Some.halt in
    rw (← c.self.view_is) (record {
      answer = (
        record { stopped = sym order.halted ∙ c.in-Some.is; end = refl; disk = refl },
        record { list = refl; end = refl; pass = refl },
        omega (arith, c.len.ensures.value, c.len.ensures.limit, c.if-len.false),
      );
      any_moment = λ going. absurd (not_both o.halt halt c.in-Some.is (order.halted ∙ going));
      keeps = keeps order refl refl refl (λ start leads. leads) refl (λ none. refl) (omega arith);
    })

-- nothing is done, since the fold isn't shorter
pub returns-then-size-present : goal.returns-then-size-present
returns-then-size-present g c =
    let o = c.self.inside in
    let order = c.self.invariant.0 in
    rw (← c.self.view_is) (record {
      answer = (
        sym order.halted ∙ c.in_default.is,
        inr (inl (record {
          room = omega (arith, c.len.ensures.value, c.len.ensures.limit, c.if-len.false);
          present = c.size-present.ensures;
          least = λ other folded. omega (arith, c.folded_size-size.ensures.only other folded, c.if-size-present.true);
          same = refl;
          pass = refl;
        })),
      );
      any_moment = λ going image told. still_folded g.met.D.Disk.only_now (order.kept (order.halted ∙ going)).is image told;
      keeps = keeps order refl refl refl (λ start leads. leads) refl (λ none. refl) (omega arith);
    })

-- the journal is compacted
pub fold_end-requires-clause-held : goal.fold_end-requires-clause-held
fold_end-requires-clause-held g c = (c.self.invariant.0.kept c.in_default.is).held

pub fold_end-requires-clause-short : goal.fold_end-requires-clause-short
fold_end-requires-clause-short g c size folded =
    let o = c.self.inside in
    let less : c.folded_size-size.result < c.size-present.result = grind (arith, common_steps) in
    omega (arith, less, c.folded_size-size.ensures.only size folded, c.size-present.ensures, (c.self.invariant.0.kept c.in_default.is).is.size, o.journal.in_range)

pub invariant_of-self-in-Ok-Done : goal.invariant_of-self-in-Ok-Done
invariant_of-self-in-Ok-Done g c =
    let o = c.self.inside in
    let now = order_goes c.self.invariant.0 c.fold_end.new.journal c.fold_end.new.core.end c.fold_end.new.core.places c.enter-call.new.keeper.list _ c.in_default.is c.enter-call.ensures.list refl (c.in-Ok-Done.ensures.kept c.in-Ok-Done.field-0-is) in
    (subst (λ (m : List Mode). IsInOrder g.D.Disk c.fold_end.new.journal c.fold_end.new.core.end c.fold_end.new.core.places m o.halt c.enter-call.new.keeper.list) (sym c.fold_end.ensures.modes) now, c.self.invariant.1)

pub returns-in-Ok-Done : goal.returns-in-Ok-Done
returns-in-Ok-Done g c =
    let o = c.self.inside in
    let order = c.self.invariant.0 in
    let after = c.fold_end.new.journal in
    let core = c.fold_end.new.core in
    let more = c.enter-call.new.keeper.list in
    let going = sym order.halted ∙ c.in_default.is in
    let less : c.folded_size-size.result < c.size-present.result = grind (arith, common_steps) in
    let short : c.folded_size-size.result < 2 ^ 32 = omega (arith, less, c.size-present.ensures, (order.kept c.in_default.is).is.size, o.journal.in_range) in
    let folded = folded_size_is o.core.end c.folded_size-size.result c.folded_size-size.ensures.size short in
    let shorter : c.folded_size-size.result < o.core.end.size = omega (arith, less, c.size-present.ensures) in
    let ends = c.in-Ok-Done.ensures.end c.in-Ok-Done.field-0-is c.folded_size-size.result folded in
    let size = c.folded_size-size.ensures.size in
    let room : length o.keeper.list < 2 ^ 63 = omega (arith, c.len.ensures.value, c.len.ensures.limit, c.if-len.false) in
    rw (← c.self.view_is) (record {
      answer = (
        going,
        inl (record {
          folded = folded;
          shorter = shorter;
          end = ends;
          entered = enters
              (Folded c.folded_size-size.result) room c.enter-call.ensures.seen c.enter-call.ensures.list c.enter-call.ensures.pass;
        }),
      );
      any_moment = λ goes image told.
          let had = (order.kept c.in_default.is).is.records image told in
          fold_run had.2 size.1 (order.kept c.in_default.is).is.version (c.fold_end.ensures.any_moment had.0 size.0 had.1 size.1);
      keeps = keeps (invariant_of-self-in-Ok-Done g c).0 c.fold_end.ensures.modes c.enter-call.ensures.book c.enter-call.ensures.pass
          (folded_leads (is_some (g.D.Disk.seen o.journal.disk)) o.core.modes o.keeper.list more c.folded_size-size.result o.core.end core.end going c.enter-call.ensures.list folded shorter ends) c.fold_end.ensures.counts.tells (λ none. c.in-Ok-Done.ensures.counts.cause) (omega (arith, c.in-Ok-Done.ensures.counts.cause));
    })

-- the payloads of a message weren't found
pub invariant_of-self-in-Ok-Lost : goal.invariant_of-self-in-Ok-Lost
invariant_of-self-in-Ok-Lost g c =
    let o = c.self.inside in
    let after = c.fold_end.new.journal in
    let P : Machine → Type 0 = λ m. IsInOrder g.D.Disk after m.end m.places m.modes o.halt o.keeper.list in
    let lost = c.in-Ok-Lost.ensures.lost c.in-Ok-Lost.field-0-0 c.in-Ok-Lost.field-0-is in
    let now = order_stays c.self.invariant.0 after c.in_default.is
    (c.in-Ok-Lost.ensures.lost_held c.in-Ok-Lost.field-0-0 c.in-Ok-Lost.field-0-is o.core.end o.core.places (c.self.invariant.0.kept c.in_default.is)) in
    (subst P (sym lost.0) now, c.self.invariant.1)

pub returns-in-Ok-Lost : goal.returns-in-Ok-Lost
returns-in-Ok-Lost g c =
    let o = c.self.inside in
    let order = c.self.invariant.0 in
    let after = c.fold_end.new.journal in
    let size = c.folded_size-size.ensures.size in
    let less : c.folded_size-size.result < c.size-present.result = grind (arith, common_steps) in
    let short : c.folded_size-size.result < 2 ^ 32 = omega (arith, less, c.size-present.ensures, (order.kept c.in_default.is).is.size, o.journal.in_range) in
    let folded = folded_size_is o.core.end c.folded_size-size.result size short in
    let shorter : c.folded_size-size.result < o.core.end.size = omega (arith, less, c.size-present.ensures) in
    let lost = c.in-Ok-Lost.ensures.lost c.in-Ok-Lost.field-0-0 c.in-Ok-Lost.field-0-is in
    let now = order_stays order after c.in_default.is
    (c.in-Ok-Lost.ensures.lost_held c.in-Ok-Lost.field-0-0 c.in-Ok-Lost.field-0-is o.core.end o.core.places (order.kept c.in_default.is)) in
    rw (← c.self.view_is, lost.0) (record {
      answer = (
        sym order.halted ∙ c.in_default.is,
        inr (inr (record {
          room = omega (arith, c.len.ensures.value, c.len.ensures.limit, c.if-len.false);
          present = c.size-present.ensures;
          shorter = (c.folded_size-size.result, folded, shorter);
          unseen = none_seen (g.D.Disk.seen o.journal.disk) lost.2;
          nothing = record { list = refl; end = refl; pass = refl };
        })),
      );
      any_moment = λ goes image told.
          let had = (order.kept c.in_default.is).is.records image told in
          fold_run had.2 size.1 (order.kept c.in_default.is).is.version (c.fold_end.ensures.any_moment had.0 size.0 had.1 size.1);
      keeps = keeps now refl refl refl (λ start leads. leads) c.fold_end.ensures.counts.tells (λ none. c.in-Ok-Lost.ensures.counts.cause) (omega (arith, c.in-Ok-Lost.ensures.counts.cause));
    })

-- there was no memory
pub invariant_of-self-in-Err-NoMemory : goal.invariant_of-self-in-Err-NoMemory
invariant_of-self-in-Err-NoMemory g c =
    let o = c.self.inside in
    let after = c.fold_end.new.journal in
    let P : Machine → Type 0 = λ m. IsInOrder g.D.Disk after m.end m.places m.modes o.halt o.keeper.list in
    let now = order_stays c.self.invariant.0 after c.in_default.is
    (c.in-Err-NoMemory.ensures.starved_held (ap (λ e. Err e) c.in-Err-NoMemory.field-0-is) o.core.end o.core.places (c.self.invariant.0.kept c.in_default.is)) in
    (subst P (sym c.in-Err-NoMemory.ensures.same) now, c.self.invariant.1)

pub returns-in-Err-NoMemory : goal.returns-in-Err-NoMemory
returns-in-Err-NoMemory g c =
    let o = c.self.inside in
    let order = c.self.invariant.0 in
    let after = c.fold_end.new.journal in
    let size = c.folded_size-size.ensures.size in
    let less : c.folded_size-size.result < c.size-present.result = grind (arith, common_steps) in
    let short : c.folded_size-size.result < 2 ^ 32 = omega (arith, less, c.size-present.ensures, (order.kept c.in_default.is).is.size, o.journal.in_range) in
    let folded = folded_size_is o.core.end c.folded_size-size.result size short in
    let shorter : c.folded_size-size.result < o.core.end.size = omega (arith, less, c.size-present.ensures) in
    let calm = subst (IsCause (g.D.Disk.fault_count o.journal.disk) (g.D.Disk.fault_count after.disk)) c.in-Err-NoMemory.field-0-is c.in-Err-NoMemory.ensures.counts.cause in
    let now = order_stays order after c.in_default.is
    (c.in-Err-NoMemory.ensures.starved_held (ap (λ e. Err e) c.in-Err-NoMemory.field-0-is) o.core.end o.core.places (order.kept c.in_default.is)) in
    rw (← c.self.view_is, c.in-Err-NoMemory.ensures.same) (record {
      answer = (
        sym order.halted ∙ c.in_default.is,
        omega (arith, c.len.ensures.value, c.len.ensures.limit, c.if-len.false),
        (c.folded_size-size.result, folded, shorter),
        record { list = refl; end = refl; pass = refl },
      );
      any_moment = λ goes image told.
          let had = (order.kept c.in_default.is).is.records image told in
          fold_run had.2 size.1 (order.kept c.in_default.is).is.version (c.fold_end.ensures.any_moment had.0 size.0 had.1 size.1);
      keeps = keeps now refl refl refl (λ start leads. leads) c.fold_end.ensures.counts.tells (λ none. calm) (omega (arith, calm));
    })

-- the disk failed
pub invariant_of-self-in-Err-Disk : goal.invariant_of-self-in-Err-Disk
invariant_of-self-in-Err-Disk g c =
    let o = c.self.inside in
    let order = c.self.invariant.0 in
    let after = c.fold_end.new.journal in
    let halt : FaultCounts = record { before = c.in-Err-Disk.before; after = c.in-Err-Disk.after } in
    let counts = subst (IsCause (g.D.Disk.fault_count o.journal.disk) (g.D.Disk.fault_count after.disk)) c.in-Err-Disk.field-0-is c.in-Err-Disk.ensures.counts.cause in
    let size = c.folded_size-size.ensures.size in
    let now = order_stops order after c.enter_stop.new.keeper.list None halt c.in_default.is c.enter_stop.ensures.list counts.2.1 counts.1
    (λ image told left may.
    let was = told_before (g.D.Disk.seen o.journal.disk) (g.D.Disk.seen after.disk) image c.fold_end.ensures.counts.tells told in
    let had = (order.kept c.in_default.is).is.records was.0 was.1 in
    at_end g.D.Disk o.journal.disk after.disk (λ i. OpensFolded i o.core.end) (g.D.Disk.may_leave after.disk) (g.met.D.Disk.counts_now after.disk)
    (fold_run had.2 size.1 (order.kept c.in_default.is).is.version (c.fold_end.ensures.any_moment had.0 size.0 had.1 size.1)) left may) in
    let P : Machine → Type 0 = λ m. IsInOrder g.D.Disk after m.end m.places m.modes (Some halt) c.enter_stop.new.keeper.list in
    (subst P (sym c.in-Err-Disk.ensures.same) now, c.self.invariant.1)

pub returns-in-Err-Disk : goal.returns-in-Err-Disk
returns-in-Err-Disk g c =
    let o = c.self.inside in
    let order = c.self.invariant.0 in
    let after = c.fold_end.new.journal in
    let more = c.enter_stop.new.keeper.list in
    let halt : FaultCounts = record { before = c.in-Err-Disk.before; after = c.in-Err-Disk.after } in
    let going = sym order.halted ∙ c.in_default.is in
    let counts = subst (IsCause (g.D.Disk.fault_count o.journal.disk) (g.D.Disk.fault_count after.disk)) c.in-Err-Disk.field-0-is c.in-Err-Disk.ensures.counts.cause in
    let size = c.folded_size-size.ensures.size in
    let room : length o.keeper.list < 2 ^ 63 = omega (arith, c.len.ensures.value, c.len.ensures.limit, c.if-len.false) in
    let P : Machine → Type 0 = λ m. IsInOrder g.D.Disk after m.end m.places m.modes (Some halt) more in
    rw (← c.self.view_is, c.enter_stop.ensures.fault, c.in-Err-Disk.ensures.same) (record {
      answer = record {
        going = going;
        end = refl;
        old_count = counts.0;
        new_count = counts.1;
        rose = counts.2.1;
        entered = enters
            (Stop None halt) room c.enter_stop.ensures.seen c.enter_stop.ensures.list c.enter_stop.ensures.pass;
      };
      any_moment = λ goes image told.
          let had = (order.kept c.in_default.is).is.records image told in
          fold_run had.2 size.1 (order.kept c.in_default.is).is.version (c.fold_end.ensures.any_moment had.0 size.0 had.1 size.1);
      keeps = keeps (subst P c.in-Err-Disk.ensures.same (invariant_of-self-in-Err-Disk g c).0) refl c.enter_stop.ensures.book c.enter_stop.ensures.pass
          (stop_leads (is_some (g.D.Disk.seen o.journal.disk)) o.core.modes o.keeper.list more None halt o.core.end going c.enter_stop.ensures.list counts.2.1) c.fold_end.ensures.counts.tells (λ none. absurd (not_both (Some halt) halt refl none)) (omega (arith, counts.0, counts.1, counts.2.0));
    })

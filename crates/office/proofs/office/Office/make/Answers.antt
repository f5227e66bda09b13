use Rattle.std.proofs.Common.{◌∙◌, inl, ◌++◌, [], ◌∷◌, List, Some, is_some, refl, sym, ap, subst, arith}
use Rattle.as4_disk.proofs.RunLemmas.{at_end}
use Rattle.mode_values.specs.declared.mode.Mode.{Mode}
use Rattle.inbox.specs.Spots.{Spot}
use Rattle.msh_journal.specs.Payloads.{IsJournalWith}
use Rattle.msh_recovery.proofs.OpenLemmas.{kept_opens}
use Rattle.exchange_model.specs.End.{End}
use Rattle.msh_state.specs.Places.{places_after_all}
use Rattle.exchange_model.specs.declared.reply.Reply.{Reply}
use Rattle.office.specs.Left.{OpensBeforeOrAfter}
use Rattle.office.specs.Recording.{IsStepFor}
use Rattle.office.specs.State.{TakesEvents, IsInOrder, OfficeState}
use Rattle.office.specs.declared.call.Call.TheVariants.{Done, Stop}
use Rattle.msh_journal.proofs.RunLemmas.{told_before}
use Rattle.office.proofs.CallLemmas.{done_leads, stop_leads}
use Rattle.office.proofs.HandlingLemmas.{enters, keeps, not_both}
use Rattle.office.proofs.StateLemmas.{has_reply, order_goes, order_stops, step_run, step_seen}
use Rattle.office.proofs.office.Office.make.Goals as goal

-- what is to be done, in terms of what the office keeps inside
pub write-requires-clause-ready : goal.write-requires-clause-ready
write-requires-clause-ready g c =
    let takes = c.takes_events.ensures.takes c.if-not-takes_events.false in
    let is = subst (λ (v : OfficeState g.row.D.Denot). TakesEvents v) (sym c.self.view_is) takes in
    let o = c.self.inside in
    let ready = subst (λ (v : OfficeState g.row.D.Denot). IsStepFor g.D.Disk v c.args.event c.args.step) (sym c.self.view_is) (c.requires.ready takes) in
    (o.core, ready.0, ready.2, c.self.invariant.0.kept (c.self.invariant.0.halted ∙ is.1))

pub commit-reply-requires : goal.commit-reply-requires
commit-reply-requires g c =
    let takes = c.takes_events.ensures.takes c.if-not-takes_events.false in
    let ready = subst (λ (v : OfficeState g.row.D.Denot). IsStepFor g.D.Disk v c.args.event c.args.step) (sym c.self.view_is) (c.requires.ready takes) in
    record { ready = (ready.0, ready.2) }

-- the step is made
pub invariant_of-self : goal.invariant_of-self
invariant_of-self g c =
    let takes = c.takes_events.ensures.takes c.if-not-takes_events.false in
    let is = subst (λ (v : OfficeState g.row.D.Denot). TakesEvents v) (sym c.self.view_is) takes in
    let o = c.self.inside in
    let order = c.self.invariant.0 in
    let ready = subst (λ (v : OfficeState g.row.D.Denot). IsStepFor g.D.Disk v c.args.event c.args.step) (sym c.self.view_is) (c.requires.ready takes) in
    let after = c.write.new.journal in
    let core = c.commit-reply.new.core in
    let made = c.commit-reply.ensures.made ready.0 ready.2 in
    let placed = c.commit-reply.ensures.places ready.0 ready.2 in
    let records = c.in-Ok.ensures.records o.core ready.0 ready.2 (order.kept (order.halted ∙ is.1)) in
    let here = subst (λ (e : End). IsJournalWith g.D.Disk e (places_after_all ready.0.effects c.in-Ok.gate o.core.places) after) (sym made.0) (records.kept refl) in
    let kept = subst (λ (p : List Spot). IsJournalWith g.D.Disk core.end p after) (sym placed) here in
    let now = order_goes order after core.end core.places c.enter_done.new.keeper.list _ (order.halted ∙ is.1) c.enter_done.ensures.list refl kept in
    (subst (λ (m : List Mode). IsInOrder g.D.Disk after core.end core.places m o.halt c.enter_done.new.keeper.list) (sym c.commit-reply.ensures.modes) now, c.write.ensures.small)

pub returns-in-Ok-clause-handles : goal.returns-in-Ok-clause-handles
returns-in-Ok-clause-handles g c =
    let takes = c.takes_events.ensures.takes c.if-not-takes_events.false in
    let is = subst (λ (v : OfficeState g.row.D.Denot). TakesEvents v) (sym c.self.view_is) takes in
    let o = c.self.inside in
    let order = c.self.invariant.0 in
    let ready = subst (λ (v : OfficeState g.row.D.Denot). IsStepFor g.D.Disk v c.args.event c.args.step) (sym c.self.view_is) (c.requires.ready takes) in
    let after = c.write.new.journal in
    let core = c.commit-reply.new.core in
    let more = c.enter_done.new.keeper.list in
    let made = c.commit-reply.ensures.made ready.0 ready.2 in
    let placed = c.commit-reply.ensures.places ready.0 ready.2 in
    let records = c.in-Ok.ensures.records o.core ready.0 ready.2 (order.kept (order.halted ∙ is.1)) in
    let here = subst (λ (e : End). IsJournalWith g.D.Disk e (places_after_all ready.0.effects c.in-Ok.gate o.core.places) after) (sym made.0) (records.kept refl) in
    let kept = subst (λ (p : List Spot). IsJournalWith g.D.Disk core.end p after) (sym placed) here in
    rw (← c.self.view_is) (record {
      answer = record {
        going = is.1;
        outcome = ready.0;
        step = ready.1;
        reply = c.enter_done.ensures.same ∙ made.1;
        end = made.0;
        recorded = (o.journal.disk, inl refl, records.recorded);
        kept = kept_opens g.D.Disk core.end after kept.is;
        entered = enters
            (Done c.args.event c.enter_done.result) is.0 c.enter_done.ensures.seen (c.enter_done.ensures.list ∙ ap (λ (r : Reply). o.keeper.list ++ Done c.args.event r ∷ []) (sym c.enter_done.ensures.same)) c.enter_done.ensures.pass;
      };
      any_moment = λ goes image told. step_run (step_seen (g.D.Disk.seen o.journal.disk) told ready.1) (records.any_moment image told);
      keeps = keeps (invariant_of-self g c).0 c.commit-reply.ensures.modes c.enter_done.ensures.book c.enter_done.ensures.pass
          (done_leads (is_some (g.D.Disk.seen o.journal.disk)) o.core.modes o.keeper.list more c.args.event _ ready.0 o.core.end core.end is.1 c.enter_done.ensures.list ready.1 made.1 made.0) c.write.ensures.tells (λ none. c.in-Ok.ensures.cause) (omega (arith, c.in-Ok.ensures.cause));
    })

pub returns-in-Ok-clause-reply : goal.returns-in-Ok-clause-reply
returns-in-Ok-clause-reply g c =
    let takes = c.takes_events.ensures.takes c.if-not-takes_events.false in
    let o = c.self.inside in
    let ready = subst (λ (v : OfficeState g.row.D.Denot). IsStepFor g.D.Disk v c.args.event c.args.step) (sym c.self.view_is) (c.requires.ready takes) in
    has_reply o.core ready.0 c.args.step c.enter_done.result ready.2 (c.enter_done.ensures.same ∙ (c.commit-reply.ensures.made ready.0 ready.2).1)

-- the disk failed
pub invariant_of-self-in-Err : goal.invariant_of-self-in-Err
invariant_of-self-in-Err g c =
    let takes = c.takes_events.ensures.takes c.if-not-takes_events.false in
    let is = subst (λ (v : OfficeState g.row.D.Denot). TakesEvents v) (sym c.self.view_is) takes in
    let o = c.self.inside in
    let order = c.self.invariant.0 in
    let ready = subst (λ (v : OfficeState g.row.D.Denot). IsStepFor g.D.Disk v c.args.event c.args.step) (sym c.self.view_is) (c.requires.ready takes) in
    let after = c.write.new.journal in
    let cause = c.in-Err.ensures.cause in
    let records = c.in-Err.ensures.records o.core ready.0 ready.2 (order.kept (order.halted ∙ is.1)) in (
      order_stops order after c.enter_stop.new.keeper.list (Some c.args.event) c.in-Err.halt (order.halted ∙ is.1) c.enter_stop.ensures.list cause.2.1 cause.1
          (λ image told left may.
          let was = told_before (g.D.Disk.seen o.journal.disk) (g.D.Disk.seen after.disk) image c.write.ensures.tells told in
          at_end g.D.Disk o.journal.disk after.disk (OpensBeforeOrAfter o.core.modes o.core.end c.args.event) (g.D.Disk.may_leave after.disk) (g.met.D.Disk.counts_now after.disk)
          (step_run (step_seen (g.D.Disk.seen o.journal.disk) was.1 ready.1) (records.any_moment was.0 was.1)) left may),
      c.write.ensures.small,
    )

pub returns-in-Err-clause-handles : goal.returns-in-Err-clause-handles
returns-in-Err-clause-handles g c =
    let takes = c.takes_events.ensures.takes c.if-not-takes_events.false in
    let is = subst (λ (v : OfficeState g.row.D.Denot). TakesEvents v) (sym c.self.view_is) takes in
    let o = c.self.inside in
    let order = c.self.invariant.0 in
    let ready = subst (λ (v : OfficeState g.row.D.Denot). IsStepFor g.D.Disk v c.args.event c.args.step) (sym c.self.view_is) (c.requires.ready takes) in
    let after = c.write.new.journal in
    let more = c.enter_stop.new.keeper.list in
    let cause = c.in-Err.ensures.cause in
    let records = c.in-Err.ensures.records o.core ready.0 ready.2 (order.kept (order.halted ∙ is.1)) in
    rw (← c.self.view_is, c.enter_stop.ensures.fault) (record {
      answer = record {
        stops = record {
          going = is.1;
          end = refl;
          old_count = cause.0;
          new_count = cause.1;
          rose = cause.2.1;
          entered = enters
              (Stop (Some c.args.event) c.in-Err.halt) is.0 c.enter_stop.ensures.seen c.enter_stop.ensures.list c.enter_stop.ensures.pass;
        };
        cause = inl (record { outcome = ready.0; step = ready.1; recorded = (o.journal.disk, inl refl, records.recorded) });
      };
      any_moment = λ goes image told. step_run (step_seen (g.D.Disk.seen o.journal.disk) told ready.1) (records.any_moment image told);
      keeps = keeps (invariant_of-self-in-Err g c).0 refl c.enter_stop.ensures.book c.enter_stop.ensures.pass
          (stop_leads (is_some (g.D.Disk.seen o.journal.disk)) o.core.modes o.keeper.list more (Some c.args.event) c.in-Err.halt o.core.end is.1 c.enter_stop.ensures.list cause.2.1) c.write.ensures.tells (λ none. absurd (not_both (Some c.in-Err.halt) c.in-Err.halt refl none)) (omega (arith, cause.0, cause.1, cause.2.0));
    })

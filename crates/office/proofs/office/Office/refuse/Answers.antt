use Rattle.std.proofs.Common.{◌≡◌, ◌∙◌, ◌<◌, ◌^◌, inl, inr, is_some, length, refl, sym, subst, arith}
use Rattle.std.proofs.Math.Nat.{eq-or-lt_of_le}
use Rattle.exchange_model.specs.declared.reply.Reply.TheVariants as reply
use Rattle.office.specs.State.{TakesEvents, OfficeState}
use Rattle.office.specs.declared.call.Call.TheVariants.{Done}
use Rattle.office.proofs.CallLemmas.{refused_leads}
use Rattle.office.proofs.HandlingLemmas.{enters, finds_worn, keeps, not_both}
use Rattle.office.proofs.StateLemmas.{order_refuses, still_run}
use Rattle.office.proofs.office.Office.refuse.Goals.{in_default-via-in-Some+else-not-is_full, in_default-via-in_default}
use Rattle.office.proofs.office.Office.refuse.Goals as goal

-- the disk failed before
pub invariant_of-self : goal.invariant_of-self
invariant_of-self g c =
    (order_refuses c.self.invariant.0 c.enter_refused.new.keeper.list _ _ c.in-Some.halt c.in-Some.is c.enter_refused.ensures.list, c.self.invariant.1)

pub returns-in-Some-clause-handles : goal.returns-in-Some-clause-handles
returns-in-Some-clause-handles g c =
    let o = c.self.inside in
    let order = c.self.invariant.0 in
    let halt = c.in-Some.halt in
    let more = c.enter_refused.new.keeper.list in
    let room : length o.keeper.list < 2 ^ 63 = omega (arith, c.len-is_full.ensures.value, c.len-is_full.ensures.limit, c.if-not-is_full.true) in
    let now = order_refuses order more _ _ halt c.in-Some.is c.enter_refused.ensures.list in
    rw (← c.self.view_is, c.enter_refused.ensures.fault) (record {
      answer = (
        record { stopped = sym order.halted ∙ c.in-Some.is; end = refl; disk = refl },
        enters
            (Done c.args.event (reply.Stopped halt.before halt.after)) room c.enter_refused.ensures.seen c.enter_refused.ensures.list c.enter_refused.ensures.pass,
      );
      any_moment = λ going. absurd (not_both o.halt halt c.in-Some.is (order.halted ∙ going));
      keeps = keeps now refl c.enter_refused.ensures.book c.enter_refused.ensures.pass
          (refused_leads (is_some (g.D.Disk.seen o.journal.disk)) o.core.modes o.keeper.list more c.args.event halt o.core.end (sym order.halted ∙ c.in-Some.is) c.enter_refused.ensures.list) refl (λ none. refl) (omega arith);
    })

-- nothing is done, since the history is full
pub returns-in_default-clause-handles : goal.returns-in_default-clause-handles
returns-in_default-clause-handles g c =
    let o = c.self.inside in
    let order = c.self.invariant.0 in
    let full : length o.keeper.list ≡ 2 ^ 63 =
    elim c.in_default.branch [
      | in_default-via-in-Some+else-not-is_full w ↦ omega (arith, c.len-is_full.ensures.value, w.if-not-is_full.false)
      | in_default-via-in_default w ↦ elim (eq-or-lt_of_le (omega (arith, c.len-is_full.ensures.value, c.len-is_full.ensures.limit))) [
        | inl same ↦ same
        | inr less ↦ absurd (c.requires.refuses (subst (λ (v : OfficeState g.row.D.Denot). TakesEvents v) c.self.view_is (less, sym order.halted ∙ w.in_default.is)))
      ]
    ] in
    rw (← c.self.view_is, c.show.ensures.same) (record {
      answer = finds_worn full c.show.ensures.begins c.show.ensures.whole;
      any_moment = λ going image told. still_run g.met.D.Disk.only_now (order.kept (order.halted ∙ going)).is o.core.modes c.args.event image told;
      keeps = keeps order refl refl c.show.ensures.whole (λ start leads. leads) refl (λ none. refl) (omega arith);
    })

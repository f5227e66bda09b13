use Rattle.std.proofs.Common.{◌≡◌, false, true, ap, sym, ◌∙◌}
use Rattle.std.specs.List.{list_any}
use Rattle.std.proofs.lemmas.List.{take_all}
use Rattle.exchange_model.specs.Refusing.{refusals_of}
use Rattle.msh_transitions.proofs.FitLemmas.{all_stand}
use Rattle.msh_transitions.proofs.OnceLemmas.{IsNext, refuses_again, refuses_first, refuses_none, refuses_one}
use Rattle.msh_transitions.proofs.refusing.refusals_of.Goals as goal
use Rattle.msh_transitions.proofs.refusing.refusals_of.Goals.{then-not-has_number+in_ok-code+in_ok-push, else-not-has_number}
use Rattle.msh_transitions.specs.Naming.{has_number}

pub loop-item-init : goal.loop-item-init
loop-item-init c = c.new-effects.ensures.items ∙ sym (refuses_first _ _)

pub loop-item-preserved-in_default : goal.loop-item-preserved-in_default
loop-item-preserved-in_default c =
    refuses_none _ _ _ _ c.item-item.result _ (record { within = c.loop-item-test.true; is = c.item-item.is; so_far = c.loop-item.invariant }) c.in_default.ensures

pub loop-item-preserved : goal.loop-item-preserved
loop-item-preserved c =
    let next : IsNext c.args.ref_to.now c.args.tables.now.end.sent c.args.items.now c.loop-item.item-index c.item-item.result c.loop-item.effects.items =
    record { within = c.loop-item-test.true; is = c.item-item.is; so_far = c.loop-item.invariant } in
    elim c.if-not-has_number.branch [
      | then-not-has_number+in_ok-code+in_ok-push w ↦
          let not_yet : list_any (has_number c.in-Some.number) c.loop-item.effects.items ≡ false = cc in
          let more = refuses_one _ _ _ _ c.item-item.result _ c.in-Some.number next c.in-Some.ensures not_yet in
          rw (w.effects-is, w.in_ok-push.ensures.items, w.in_ok-code.ensures) more
      | else-not-has_number w ↦
          let had : list_any (has_number c.in-Some.number) c.loop-item.effects.items ≡ true = cc in
          rw w.effects-is (refuses_again _ _ _ _ c.item-item.result _ c.in-Some.number next c.in-Some.ensures had)
    ]

pub returns-clause-stands : goal.returns-clause-stands
returns-clause-stands c =
    let whole : c.of.result ≡ refusals_of c.args.ref_to.now c.args.tables.now.end.sent c.args.items.now =
    c.of.ensures ∙ c.loop-item.invariant ∙ ap (refusals_of c.args.ref_to.now c.args.tables.now.end.sent) (take_all _ _ c.loop-item-test.false) in
    rw whole (all_stand c.args.ref_to.now c.args.tables.now.end c.args.items.now c.submitted-numbered.ensures.numbered c.requires.few)

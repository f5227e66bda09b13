use Rattle.std.proofs.Common.{◌≡◌, true, false, sym, subst, ◌∙◌}
use Rattle.std.proofs.lemmas.Result.{IfOk-weaker}
use Rattle.exchange_model.proofs.FoundLemmas.{sent_at_has}
use Rattle.exchange_model.specs.Questions.{is_pending}
use Rattle.msh_transitions.proofs.BundledLemmas.{behind_pair, late_pair, refused_pair, unnamed_pair}
use Rattle.msh_transitions.proofs.ComingRows.{code_1_is_known, receipt_fits, refused_is_known}
use Rattle.msh_transitions.specs.Bundled.{IsBehind}
use Rattle.msh_transitions.proofs.bundled.pair.Goals as goal

pub errs-requires : goal.errs-requires
errs-requires c =
    refused_is_known c.args.pair.now.receipt.ref_to c.in-Receipt-Pull.copy c.args.tables.now.end.sent c.in-Err.code
    c.in-Err.ensures.refused

pub returns-in-Err-clause-row : goal.returns-in-Err-clause-row
returns-in-Err-clause-row c =
    IfOk-weaker c.errs.result _ _ (λ outcome errs. refused_pair _ _ _ _ _ _ _ outcome c.in-Receipt-Pull.is-0 c.in-Err.ensures.refused errs) c.errs.ensures

pub errs-requires-then-not-is_named : goal.errs-requires-then-not-is_named
errs-requires-then-not-is_named c = code_1_is_known

pub returns-then-not-is_named-clause-row : goal.returns-then-not-is_named-clause-row
returns-then-not-is_named-clause-row c =
    let found = c.in-Ok.ensures.found in
    IfOk-weaker c.errs-then-not-is_named.result _ _
    (λ outcome errs. unnamed_pair _ _ _ _ _ _ _ found.0 outcome c.in-Receipt-Pull.is-0 c.in-Receipt-Pull.is-1 found.2
    (sym c.is_named.ensures ∙ c.if-not-is_named.true) errs)
    c.errs-then-not-is_named.ensures

pub returns-then-not-is_pending-clause-row : goal.returns-then-not-is_pending-clause-row
returns-then-not-is_pending-clause-row c =
    let found = c.in-Ok.ensures.found in
    let named : c.is_named.result ≡ true = cc in
    let settled : is_pending found.0 ≡ false = rw found.1 at (sym c.is_pending.ensures ∙ c.if-not-is_pending.true) in
    IfOk-weaker c.pull.result _ _
    (λ outcome row. late_pair _ _ _ _ _ _ _ found.0 outcome c.in-Receipt-Pull.is-0 c.in-Receipt-Pull.is-1 found.2
    (sym c.is_named.ensures ∙ named) settled row)
    c.pull.ensures.row

pub behind-requires : goal.behind-requires
behind-requires c =
    let pending : c.is_pending.result ≡ true = cc in
    receipt_fits c.in-Ok.number c.args.tables.now.end (sym c.is_pending.ensures ∙ pending)

pub returns-clause-row : goal.returns-clause-row
returns-clause-row c =
    let found = c.in-Ok.ensures.found in
    let named : c.is_named.result ≡ true = cc in
    let pending : c.is_pending.result ≡ true = cc in
    let is_pending : is_pending found.0 ≡ true = rw found.1 at (sym c.is_pending.ensures ∙ pending) in
    IfOk-weaker c.behind.result _ _
    (λ outcome row. behind_pair _ _ _ _ _ _ _ found.0 outcome c.in-Receipt-Pull.is-0 c.in-Receipt-Pull.is-1 found.2
    (sym c.is_named.ensures ∙ named) is_pending
    (subst (λ n. IsBehind c.args.tables.now.end c.args.event.now c.args.pair.now.pull.id c.in-Receipt-Pull.mpc n outcome)
    (sym (sent_at_has c.in-Ok.number c.args.tables.now.end.sent found.0 found.1).1) row))
    c.behind.ensures.row

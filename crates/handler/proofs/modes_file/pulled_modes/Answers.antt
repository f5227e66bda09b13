use Rattle.std.proofs.Common.{◌≡◌, ◌+◌, ◌<◌, suc, ◌++◌, ◌∷◌, [], sym, ap, subst, ◌∙◌, arith, length, take}
use Rattle.handler.specs.Handling.{pulled}
use Rattle.handler.proofs.ModesLemmas.{pulled_all, pulled_enough, pulled_whole, pulled_with, pulled_without}
use Rattle.handler.proofs.modes_file.pulled_modes.Goals as goal
use Rattle.handler.proofs.modes_file.pulled_modes.Goals.{then-mode+then-len-lt-MOST_PULLED+in_ok-try_clone+in_ok-push, else-mode, else-mode-via-then-mode+else-len-lt-MOST_PULLED, else-mode-via-else-mode, else-loop-place-test, then-loop-place-test+in_default}

pub loop-place-init : goal.loop-place-init
loop-place-init c = (c.in_ok-names.ensures.items, λ wrong. absurd (omega (arith, wrong)))

pub loop-place-preserved : goal.loop-place-preserved
loop-place-preserved c =
    let at = c.loop-place in
    let modes = c.args.modes.now in
    let mode = c.in-Some.mode.now in
    let is = sym c.in-Some.ensures.value in
    let next : suc at.place ≡ at.place + 1 = omega arith in
    let count = ap length at.invariant.0 in (
      subst (λ n. c.if-mode.names.items ≡ pulled (take n modes)) next (elim c.if-mode.branch [
        | then-mode+then-len-lt-MOST_PULLED+in_ok-try_clone+in_ok-push w ↦
            let few : length (pulled (take at.place modes)) < 2 = omega (arith, count, w.if-len-lt-MOST_PULLED.true, w.len.ensures) in
            ap (λ v. v.items) w.names-is ∙ w.in_ok-push.ensures.items ∙ ap (λ l. l ++ w.in_ok-try_clone.field-0 ∷ []) at.invariant.0
            ∙ ap (λ n. pulled (take at.place modes) ++ n ∷ []) w.in_ok-try_clone.ensures ∙ sym (pulled_with modes at.place mode is w.if-mode.true few)
        | else-mode w ↦ ap (λ v. v.items) w.names-is ∙ at.invariant.0 ∙ sym (elim w.else-mode.branch [
          | else-mode-via-then-mode+else-len-lt-MOST_PULLED w' ↦ pulled_enough modes at.place mode is (omega (arith, count, w'.if-len-lt-MOST_PULLED.false, w'.len.ensures))
          | else-mode-via-else-mode w' ↦ pulled_without modes at.place mode is w'.if-mode.false
        ])
      ]),
      λ some. c.in-Some.ensures.kept.counted,
    )

pub returns : goal.returns
returns c =
    let at = c.loop-place in
    let modes = c.args.modes.now in
    at.invariant.0 ∙ (elim c.loop-place-test.branch [
      | else-loop-place-test w ↦
          let all : at.place ≡ 1024 = omega (arith, w.loop-place-test.false, at.auto.place-end) in
          pulled_whole modes at.place (let counted = at.invariant.1 (omega (arith, all)) in omega (arith, counted, all))
      | then-loop-place-test+in_default w ↦ pulled_all modes at.place (sym w.in_default.ensures.value)
    ])

use Rattle.std.proofs.Common.{◌≡◌, ℕ, length, ◌∙◌, sym, subst, arith}
use Rattle.std.specs.Prelude.{IsTrue}
use Rattle.std.specs.List.{AllWithin}
use Rattle.byte_forms.specs.Classes.{is_blank}
use Rattle.byte_forms.specs.Trimmed.{end_of}
use Rattle.byte_forms.proofs.TrimLemmas.{end_step, end_here, end_none, end_blanks}
use Rattle.byte_forms.proofs.trim.end_without_blanks.Goals as goal

pub loop-end-preserved : goal.loop-end-preserved
loop-end-preserved c = (
  omega arith,
  end_step c.args.bytes.now c.loop-end.end c.loop-end-test.true (sym c.is_blank.ensures ∙ c.if-is_blank.true) ∙ c.loop-end.invariant.1,
)

pub returns-else-is_blank-clause-value : goal.returns-else-is_blank-clause-value
returns-else-is_blank-clause-value c =
    sym (end_here c.args.bytes.now c.loop-end.end c.loop-end-test.true (sym c.is_blank.ensures ∙ c.if-is_blank.false)) ∙ c.loop-end.invariant.1

pub returns-after-loop-end-clause-value : goal.returns-after-loop-end-clause-value
returns-after-loop-end-clause-value c =
    let none : c.loop-end.end ≡ 0 = omega arith in
    none ∙ sym (end_none c.args.bytes.now) ∙ (rw none at c.loop-end.invariant.1)

pub returns-else-is_blank-clause-blank : goal.returns-else-is_blank-clause-blank
returns-else-is_blank-clause-blank c =
    let bytes = c.args.bytes.now in
    let same : c.loop-end.end ≡ end_of bytes (length bytes) = sym (end_here bytes c.loop-end.end c.loop-end-test.true (sym c.is_blank.ensures ∙ c.if-is_blank.false)) ∙ c.loop-end.invariant.1 in
    subst (λ (e : ℕ). AllWithin (λ b. IsTrue (is_blank b)) bytes e (length bytes)) (sym same) (end_blanks bytes)

pub returns-after-loop-end-clause-blank : goal.returns-after-loop-end-clause-blank
returns-after-loop-end-clause-blank c =
    let bytes = c.args.bytes.now in
    let none : c.loop-end.end ≡ 0 = omega arith in
    let same : c.loop-end.end ≡ end_of bytes (length bytes) = none ∙ sym (end_none bytes) ∙ (rw none at c.loop-end.invariant.1) in
    subst (λ (e : ℕ). AllWithin (λ b. IsTrue (is_blank b)) bytes e (length bytes)) (sym same) (end_blanks bytes)

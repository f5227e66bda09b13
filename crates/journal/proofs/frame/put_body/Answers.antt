use Rattle.std.proofs.Common.{◌≡◌, ℕ, ◌+◌, ◌-◌, List, ◌++◌, length, take, drop, sym, ap, ◌∙◌, arith, append_assoc}
use Rattle.std.proofs.lemmas.List.{drop-drop}
use Rattle.journal.proofs.frame.put_body.Goals as goal

pub returns : goal.returns
returns c =
    let bytes = c.args.bytes.now in
    let body = c.args.body.now in
    let len : 9 + length body - 9 ≡ length body = omega arith in
    let back : drop (9 + length body - 9) (drop 9 bytes) ≡ drop (9 + length body) bytes = ap (λ (n : ℕ). drop n (drop 9 bytes)) len ∙ drop-drop (length body) 9 bytes in
    ap (λ (l : List ℕ). take 9 bytes ++ (l ++ drop (9 + length body - 9) (drop 9 bytes))) c.copy_from_slice.ensures.after
    ∙ ap (λ (l : List ℕ). take 9 bytes ++ (body ++ l)) back
    ∙ sym (append_assoc (take 9 bytes) body (drop (9 + length body) bytes))

use Rattle.std.proofs.Common.{◌≡◌, ℕ, ◌+◌, ◌-◌, Option, List, length, take, drop, option_map, ap, sym, ◌∙◌, arith, length-drop}
use Rattle.std.proofs.lemmas.List.{take_all}
use Rattle.mime_fields.specs.Lent.{unescaped}
use Rattle.mime_fields.proofs.QuoteLemmas.{by_len}
use Rattle.mime_fields.proofs.value.quoted_at.Goals as goal

pub returns : goal.returns
returns c =
    let bytes : List ℕ = c.args.bytes.now in
    let past : ℕ = c.in_ok-len.len + 1 in
    let whole : take (length bytes - past) (drop past bytes) ≡ drop past bytes = take_all (length bytes - past) (drop past bytes) (omega (arith, length-drop past bytes)) in
    rw whole (sym (by_len bytes ∙ ap (λ (o : Option ℕ). option_map (λ n. (unescaped (take n bytes), drop (n + 1) bytes)) o) (sym c.in_ok-len.ensures.value)))

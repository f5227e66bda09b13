-- Prefixes of one list.
use Rattle.std.proofs.Common.{◌≡◌, ℕ, ◌≤◌, List, [], ◌∷◌, ◌++◌, length, refl, ap, sym, subst, ◌∙◌, arith, append_assoc}
use Rattle.std.proofs.lemmas.List.{append-nil}
use Rattle.std.specs.Prelude.{Bool, true, false, nat_lt, if◌then◌else◌}
use Rattle.std.proofs.lemmas.Bool.Decides.{nat_tests}
use mathlib.Core.List.{IsPrefix}
use Rattle.pass_book.specs.States.{longer}
use Rattle.pass_book.specs.declared.view.View.{View}
use Rattle.pass_book.specs.Views.{shorter, merged, IsSeen}

module _ {A : Type 0} where
  pub prefix_self : (xs : List A) → IsPrefix xs xs
  prefix_self xs = ([], append-nil xs)

  -- a prefix remains one when the list grows
  pub prefix_more : (xs ys zs : List A) → IsPrefix xs ys → IsPrefix xs (ys ++ zs)
  prefix_more xs ys zs p = (p.0 ++ zs, sym (append_assoc xs p.0 zs) ∙ ap (λ w. w ++ zs) p.1)

  -- of two prefixes of one list, the shorter is a prefix of the longer
  pub prefix_shorter : (xs ys zs : List A) → IsPrefix xs zs → IsPrefix ys zs → length xs ≤ length ys → IsPrefix xs ys
  prefix_shorter [] ys zs p q le = (ys, refl)
  prefix_shorter (x ∷ xs) [] zs p q le = absurd (omega arith)
  prefix_shorter (x ∷ xs) (y ∷ ys) [] p q le = absurd (cc (p.1))
  prefix_shorter (x ∷ xs) (y ∷ ys) (z ∷ zs) p q le =
      let heads : x ≡ y = cc (p.1, q.1) in
      let rest = prefix_shorter xs ys zs (p.0, cc (p.1)) (q.0, cc (q.1)) (omega arith) in
      (rest.0, cc (heads, rest.1))

  -- the same as below, by cases
  longer_by : (log xs ys : List A) (b : Bool) → nat_lt (length xs) (length ys) ≡ b → IsPrefix (if b then ys else xs) log → IsPrefix (if b then xs else ys) log → IsPrefix xs (if b then ys else xs) × IsPrefix ys (if b then ys else xs)
  longer_by log xs ys true is p q = (prefix_shorter xs ys log q p (grind (arith, nat_tests)), prefix_self ys)
  longer_by log xs ys false is p q = (prefix_self xs, prefix_shorter ys xs log q p (grind (arith, nat_tests)))

  -- if both are prefixes of one list, each is a prefix of the longer
  pub begin_longer : (log xs ys : List A) → IsPrefix (longer xs ys) log → IsPrefix (shorter xs ys) log → IsPrefix xs (longer xs ys) × IsPrefix ys (longer xs ys)
  begin_longer log xs ys p q = longer_by log xs ys (nat_lt (length xs) (length ys)) refl p q

  -- after a join and a load, both views' lists are prefixes of the seat's
  pub begin_merged : (v w both : View A) (found : ℕ) → both ≡ merged v w → IsSeen both found → IsPrefix v.list both.list × IsPrefix w.list both.list
  begin_merged v w both found is seen =
      subst (λ (u : View A). IsSeen u found → IsPrefix v.list u.list × IsPrefix w.list u.list) (sym is) (λ s. begin_longer s.log v.list w.list s.list s.told) seen

-- Each kind of step keeps the rule.
use Rattle.std.proofs.Common.{◌≡◌, ◌≢◌, ◌⊎◌, ℕ, zero, suc, inl, inr, ◌+◌, ◌-◌, ◌%◌, ◌^◌, ◌<◌, ◌≤◌, true, false, true≢false, List, [], ◌∷◌, ◌++◌, length, set, Some, refl, ap, sym, ◌∙◌, subst, ⊎_elim, arith, length-append}
use Rattle.std.specs.Prelude.{slice_index, slice_set, nat_lt, if◌then◌else◌}
use Rattle.std.proofs.lemmas.List.{length-set}
use Rattle.std.proofs.lemmas.List.Sums.{sum_by_push}
use mathlib.Core.List.{IsPrefix}
use mathlib.Core.Option.{some, some-injective, some-ne-none}
use lib.ListN.{get_elem?}
use Rattle.atomic_table.specs.Table.{State, Me, keeps, Allows, Splits, Joins}
use Rattle.atomic_table.proofs.Lists.{at_set, set_again}
use Rattle.pass_book.specs.declared.view.View.{View}
use Rattle.pass_book.specs.States.{longer}
use Rattle.pass_book.specs.Views.{first_view, spent, added, part_of, rest_of, absorbed, merged, shorter, Looks, Adds}
use Rattle.pass_book.specs.Rule.{Fits, IsOneHistory}
use Rattle.pass_book.proofs.Beginnings.{prefix_self, prefix_more}
use Rattle.pass_book.proofs.Totals.{sum_at, sum_set, sum_alone}

-- the word doesn't wrap
next_count : (n m : ℕ) → m ≡ n + 1 → n < 2 ^ 63 → (n + 1) % 2 ^ 64 ≡ m
next_count n m e small = omega arith

module _ {E : Type 0} where
  -- all views fit after one changes
  fits_set : (log : List E) (keeper : ℕ) (views : List (View E)) (id : ℕ) (w : View E)
      → ((j : ℕ) (u : View E) → j ≢ id → get_elem? views j ≡ some u → Fits log keeper j u) → Fits log keeper id w
      → (j : ℕ) (u : View E) → get_elem? (set views id w) j ≡ some u → Fits log keeper j u
  fits_set log keeper views id w others mine j u e =
      ⊎_elim
      (λ (x : (j ≡ id) × (w ≡ u)). subst (λ (y : ℕ × View E). Fits log keeper y.0 y.1) (λ i. (sym x.0 i, x.1 i)) mine)
      (λ (x : (j ≢ id) × (get_elem? views j ≡ some u)). others j u x.0 x.1)
      (at_set views id j w u e)

  -- a view that isn't the keeper's fits the longer history
  fits_more : (log : List E) (e : E) (keeper seat : ℕ) (v : View E) → seat ≢ keeper → Fits log keeper seat v → Fits (log ++ e ∷ []) keeper seat v
  fits_more log e keeper seat v apart fit = record {
    list = prefix_more v.list log (e ∷ []) fit.list;
    told = prefix_more v.told log (e ∷ []) fit.told;
    marked = fit.marked;
    mark = fit.mark;
    whole = λ k. absurd (apart (fit.marked k));
    idle = fit.idle;
  }

  -- the longer and the shorter of two prefixes
  two_lists : (log xs ys : List E) → IsPrefix xs log → IsPrefix ys log → IsPrefix (longer xs ys) log × IsPrefix (shorter xs ys) log
  two_lists log xs ys p q = elim (nat_lt (length xs) (length ys)) as (λ b. IsPrefix (if b then ys else xs) log × IsPrefix (if b then xs else ys) log) [ true ↦ (q, p) | false ↦ (p, q) ]

  -- an item of a list with one more at its end
  at_end : (l : List (View E)) (a b : View E) (j : ℕ) → get_elem? (l ++ a ∷ []) j ≡ some b → (get_elem? l j ≡ some b) ⊎ ((j ≡ length l) × (a ≡ b))
  at_end [] a b zero e = inr (refl, some-injective a b e)
  at_end [] a b (suc j) e = absurd (some-ne-none b (sym e))
  at_end (x ∷ xs) a b zero e = inl e
  at_end (x ∷ xs) a b (suc j) e = ⊎_elim inl (λ t. inr (ap suc t.0, t.1)) (at_end xs a b j e)

  module _ {S : Type 0} where
    abbrev pub Holds : State S (View E) → Type 0
    Holds s = IsOneHistory s.words s.views

    -- a load proves of a view what the rule says of it, and changes nothing
    pub looks : (slots id : ℕ) (me : Me S (View E)) → Allows Holds slots id me 0 (λ n. n) (Looks me)
    looks slots id me s h _ at _ =
        let fit = h.fits id me.0 at in
        let found : slice_index s.words 0 ≡ length h.log = ap (λ ws. slice_index ws 0) h.word in
        let share = sum_at (λ (v : View E). v.share) s.views id me.0 at in
        let stake = sum_at (λ (v : View E). v.stake) s.views id me.0 at in
        let shares = h.shares in
        let stakes = h.stakes in
        let same : slice_set s.words 0 (slice_index s.words 0) ≡ s.words = subst (λ (ws : List ℕ). slice_set ws 0 (slice_index ws 0) ≡ ws) (sym h.word) refl in (
          me.0,
          keeps,
          tt,
          subst (λ (x : List ℕ × List (View E)). IsOneHistory x.0 x.1) (λ i. (sym same i, sym (set_again s.views id me.0 at) i)) h,
          (
            refl,
            record {
              log = h.log;
              count = found;
              list = fit.list;
              told = fit.told;
              whole = fit.whole;
              alone = λ all. sym (sum_alone (λ (v : View E). v.stake) (λ (v : View E). v.share) s.views id me.0 at (λ j u here. (h.fits j u here).idle) (h.stakes ∙ sym all)) ∙ h.shares;
              share = omega arith;
              limit = h.limit;
              stake = omega arith;
            },
          ),
        )

    -- the keeper appends
    pub adds : (slots id : ℕ) (me : Me S (View E)) (e : E) → me.0.is_keeper ≡ true → length me.0.list < 2 ^ 63 → 0 < me.0.stake → Allows Holds slots id me 0 (λ n. (n + 1) % 2 ^ 64) (Adds (Some e) me)
    adds slots id me e marked room some_stake s h _ at _ =
        let v = me.0 in
        let w = added v e in
        let log = h.log ++ e ∷ [] in
        let fit = h.fits id v at in
        let here : id ≡ h.keeper = fit.marked marked in
        let all : v.list ≡ h.log = fit.whole marked in
        let next : (length h.log + 1) % 2 ^ 64 ≡ length log = next_count (length h.log) (length log) (length-append h.log (e ∷ [])) (subst (λ (l : List E). length l < 2 ^ 63) all room) in
        let mine : Fits log h.keeper id w = record {
          list = subst (λ (l : List E). IsPrefix (l ++ e ∷ []) log) (sym all) (prefix_self log);
          told = prefix_more v.told h.log (e ∷ []) fit.told;
          marked = fit.marked;
          mark = fit.mark;
          whole = λ _. ap (λ l. l ++ e ∷ []) all;
          idle = λ none. absurd (omega arith);
        } in
        let others : (j : ℕ) (u : View E) → j ≢ id → get_elem? s.views j ≡ some u → Fits log h.keeper j u = λ j u apart there. fits_more h.log e h.keeper j u (λ k. apart (k ∙ sym here)) (h.fits j u there) in
        let shares = sum_set (λ (v : View E). v.share) s.views id v w at in
        let stakes = sum_set (λ (v : View E). v.stake) s.views id v w at in
        let short = subst (λ (l : List E). length l < 2 ^ 63) all room in
        let most = sum_at (λ (v : View E). v.share) s.views id v at in
        let new : IsOneHistory ((length h.log + 1) % 2 ^ 64 ∷ []) (set s.views id w) = record {
          log = log;
          keeper = h.keeper;
          word = ap (λ n. n ∷ []) next;
          limit = omega (arith, length-append h.log (e ∷ []));
          there = omega (arith, length-set s.views id w, h.there);
          fits = fits_set log h.keeper s.views id w others mine;
          shares = omega (arith, length-append h.log (e ∷ []), h.shares);
          stakes = omega (arith, h.stakes);
        } in (
          w,
          keeps,
          tt,
          subst (λ (ws : List ℕ). IsOneHistory (slice_set ws 0 ((slice_index ws 0 + 1) % 2 ^ 64)) (set s.views id w)) (sym h.word) new,
          (
            refl,
            record {
              place = ap (λ ws. slice_index ws 0) h.word ∙ ap length (sym all);
              begins = subst (λ (l : List E). IsPrefix v.told l) (sym all) fit.told;
              share = omega (arith, h.shares, ap length all);
              view = refl;
            },
          ),
        )

    -- a seat gives parts of its share and its stake to a new one
    pub splits : (id : ℕ) (v : View E) (share stake : ℕ) → share ≤ v.share → stake ≤ v.stake → ((v.stake ≡ 0 → v.share ≡ 0) → stake ≡ 0 → share ≡ 0) → (v.stake - stake ≡ 0 → v.share - share ≡ 0) → Splits Holds id v (rest_of v share stake) (part_of v share stake)
    splits id v share stake share_le stake_le idle left_idle s h at =
        let left = rest_of v share stake in
        let right = part_of v share stake in
        let fit = h.fits id v at in
        let mine : Fits h.log h.keeper id left = record { list = fit.list; told = fit.told; marked = fit.marked; mark = fit.mark; whole = fit.whole; idle = left_idle } in
        let first = fits_set h.log h.keeper s.views id left (λ j u _ there. h.fits j u there) mine in
        let long : length (set s.views id left) ≡ length s.views = length-set s.views id left in
        let there = h.there in
        let shares = sum_set (λ (v : View E). v.share) s.views id v left at in
        let stakes = sum_set (λ (v : View E). v.stake) s.views id v left at in
        record {
          log = h.log;
          keeper = h.keeper;
          word = h.word;
          limit = h.limit;
          there = omega (arith, length-append (set s.views id left) (right ∷ []));
          fits = λ j u e. ⊎_elim
              (λ (was : get_elem? (set s.views id left) j ≡ some u). first j u was)
              (λ (new : (j ≡ length (set s.views id left)) × (right ≡ u)). subst (Fits h.log h.keeper j) new.1 record {
                list = fit.list;
                told = (h.log, refl);
                marked = λ k. absurd (true≢false (sym k));
                mark = λ k. absurd (omega arith);
                whole = λ k. absurd (true≢false (sym k));
                idle = idle fit.idle;
              })
              (at_end (set s.views id left) right u j e);
          shares = omega (arith, sum_by_push (λ (v : View E). v.share) (set s.views id left) right, h.shares);
          stakes = omega (arith, sum_by_push (λ (v : View E). v.stake) (set s.views id left) right, h.stakes);
        }

    -- a seat absorbs another, which isn't the keeper's
    joins : (id : ℕ) (v : View E) (other : ℕ) (w both : View E) → w.is_keeper ≡ false → both.is_keeper ≡ v.is_keeper → both.share ≡ v.share + w.share → both.stake ≡ v.stake + w.stake
        → ((log : List E) → IsPrefix v.list log → IsPrefix w.list log → IsPrefix both.list log × IsPrefix both.told log) → (v.is_keeper ≡ true → both.list ≡ v.list)
        → Joins Holds id v other w both spent
    joins id v other w both plain mark share stake lists whole s h at apart there =
        let theirs : get_elem? s.views other ≡ some w = ⊎_elim (λ (t : (other ≡ id) × (both ≡ w)). absurd (apart t.0)) (λ (t : (other ≢ id) × (get_elem? s.views other ≡ some w)). t.1) (at_set s.views id other both w there) in
        let fit = h.fits id v at in
        let other_fit = h.fits other w theirs in
        let two = lists h.log fit.list other_fit.list in
        let idle = fit.idle in
        let other_idle = other_fit.idle in
        let mine : Fits h.log h.keeper id both = record {
          list = two.0;
          told = two.1;
          marked = λ k. fit.marked (sym mark ∙ k);
          mark = λ k. mark ∙ fit.mark k;
          whole = λ k. whole (sym mark ∙ k) ∙ fit.whole (sym mark ∙ k);
          idle = λ none. omega (arith, idle (omega arith), other_idle (omega arith));
        } in
        let none : Fits h.log h.keeper other spent = record {
          list = (h.log, refl);
          told = (h.log, refl);
          marked = λ k. absurd (true≢false (sym k));
          mark = λ k. absurd (true≢false (sym (other_fit.mark k) ∙ plain));
          whole = λ k. absurd (true≢false (sym k));
          idle = λ _. refl;
        } in
        let shares = sum_set (λ (v : View E). v.share) s.views id v both at in
        let stakes = sum_set (λ (v : View E). v.stake) s.views id v both at in
        let spent_shares = sum_set (λ (v : View E). v.share) (set s.views id both) other w spent there in
        let spent_stakes = sum_set (λ (v : View E). v.stake) (set s.views id both) other w spent there in
        record {
          log = h.log;
          keeper = h.keeper;
          word = h.word;
          limit = h.limit;
          there = omega (arith, length-set (set s.views id both) other spent, length-set s.views id both, h.there);
          fits = fits_set h.log h.keeper (set s.views id both) other spent (λ j u _ e. fits_set h.log h.keeper s.views id both (λ i x _ here. h.fits i x here) mine j u e) none;
          shares = omega (arith, h.shares);
          stakes = omega (arith, h.stakes);
        }

    -- the keeper absorbs a pass
    pub absorbs : (id : ℕ) (v : View E) (other : ℕ) (w : View E) → w.is_keeper ≡ false → Joins Holds id v other w (absorbed v w) spent
    absorbs id v other w plain = joins id v other w (absorbed v w) plain refl refl refl (λ log p q. (p, q)) (λ _. refl)

    -- a pass absorbs a pass
    pub merges : (id : ℕ) (v : View E) (other : ℕ) (w : View E) → v.is_keeper ≡ false → w.is_keeper ≡ false → Joins Holds id v other w (merged v w) spent
    merges id v other w mine plain = joins id v other w (merged v w) plain refl refl refl (λ log p q. two_lists log v.list w.list p q) (λ k. absurd (true≢false (sym k ∙ mine)))

  -- the table at the start
  pub opens : IsOneHistory (0 ∷ []) (first_view {E = E} ∷ [])
  opens = record { log = []; keeper = 0; word = refl; limit = omega arith; there = omega arith; fits = one; shares = refl; stakes = refl }
    where
      one : (seat : ℕ) (v : View E) → get_elem? (first_view ∷ []) seat ≡ some v → Fits [] 0 seat v
      one zero v e = subst (Fits [] 0 0) (some-injective _ _ e) record {
        list = ([], refl);
        told = ([], refl);
        marked = λ _. refl;
        mark = λ _. refl;
        whole = λ _. refl;
        idle = λ _. refl;
      }
      one (suc seat) v e = absurd (some-ne-none v (sym e))

-- The lists of an anchor against the marked places of its rounds (02: N1).
use Rattle.std.specs.Prelude.{ℕ, zero, suc, ◌+◌, ◌-◌, ◌<◌, ◌≤◌, ◌≡◌, refl, List, [], ◌∷◌, ◌++◌, map, Bool, true, false, ◌&&◌, length, take, drop}
use Rattle.std.proofs.Math.Path.{sym, ap, subst}
use Rattle.std.proofs.Common.{◌∙◌, arith, add-one, add-zero, add-suc, drop-drop}
use Rattle.std.proofs.lemmas.List.{map-append}
use Rattle.laws.specs.Test.{both, and_no, and_yes}
use Rattle.laws.specs.Lists.{weigh, weigh-append}
use Rattle.spec.specs.History.{down_from, each_once, lists_ok}
use Rattle.spec.proofs.OrderInRound.{lists-more, down_more}
use Rattle.models.specs.Tables.{Inside}
use Rattle.dag_round_keys.specs.Sorted.{Sorted}
use Rattle.dag_round_order.specs.Span.{below, below-le, span_of, span-rises}
use Rattle.dag_round_order.specs.declared.span.Span.{Span}
use Rattle.back_order.specs.Linked.{Run, linked_by}

-- how many places of round r are marked, of the n used ones
unfoldable pub count_by : List ℕ → List ℕ → ℕ → List Bool → ℕ → ℕ
count_by ks os n m r = length (linked_by os m (below ks os n r) (below ks os n (r + 1) - below ks os n r))

-- of each of these rounds
abbrev pub counts_by : List ℕ → List ℕ → ℕ → List Bool → List ℕ → List ℕ
counts_by ks os n m rs = map (count_by ks os n m) rs

-- the lists from `from` on are right for k rounds from r down, and end at `end`
pub record Fits (ks os : List ℕ) (n : ℕ) (m : List Bool) (r : ℕ) (l : List ℕ) (from k end : ℕ) : Type 0 where
  pub right : lists_ok (counts_by ks os n m (down_from r k)) (drop from l) ≡ true
  pub ends : end ≡ from + weigh (λ x. x) (counts_by ks os n m (down_from r k))

-- ---- the steps of the code

-- the positions of a round, as its scan wants them
pub run_of : (ks os : List ℕ) (n r : ℕ) (x : Span) → n ≤ length os → length os ≤ 4096 → Inside os n (length os) → Sorted ks os n → x ≡ span_of ks os n r → Run os x.low x.high
unfolding span_of
run_of ks os n r x a b c s e = subst (λ (y : Span). Run os y.low y.high) (sym e) (span-rises ks os n r s, omega (arith, a, top), b, λ i l. c i (omega (arith, l, top)))
  where
    top : below ks os n (r + 1) ≤ n
    top = below-le ks os n (r + 1)

-- how many they are
pub count_by_lem : (ks os : List ℕ) (n : ℕ) (m : List Bool) (r c : ℕ) (x : Span) → x ≡ span_of ks os n r → c ≡ length (linked_by os m x.low (x.high - x.low)) → c ≡ count_by ks os n m r
unfolding count_by span_of
count_by_lem ks os n m r c x e d = d ∙ ap (λ (y : Span). length (linked_by os m y.low (y.high - y.low))) e

module _ (ks os : List ℕ) (n : ℕ) (m : List Bool) (r : ℕ) (l : List ℕ) (from : ℕ) where
  -- the counts of k rounds
  abbrev counts : ℕ → List ℕ
  counts k = counts_by ks os n m (down_from r k)

  pub counts-more : (k : ℕ) → counts (suc k) ≡ counts k ++ (count_by ks os n m (r - k) ∷ [])
  counts-more k = ap (counts_by ks os n m) (down_more r k) ∙ map-append (count_by ks os n m) (down_from r k) ((r - k) ∷ [])

  -- one round more
  lists-next : (k end : ℕ) → end ≡ from + weigh (λ x. x) (counts k)
      → lists_ok (counts (suc k)) (drop from l) ≡ (lists_ok (counts k) (drop from l) && each_once (count_by ks os n m (r - k)) (take (count_by ks os n m (r - k)) (drop end l)))
  lists-next k end e =
      let c : ℕ = count_by ks os n m (r - k) in
      ap (λ x. lists_ok x (drop from l)) (counts-more k)
      ∙ (lists-more (counts k) c (drop from l) ∙ ap (λ z. lists_ok (counts k) (drop from l) && each_once c (take c z)) (drop-drop (weigh (λ x. x) (counts k)) from l ∙ ap (λ z. drop z l) (sym e)))

  -- wrong lists are wrong for more rounds too
  lists_wrong : (k d : ℕ) → lists_ok (counts k) (drop from l) ≡ false → lists_ok (counts (k + d)) (drop from l) ≡ false
  lists_wrong k zero f = ap (λ z. lists_ok (counts z) (drop from l)) (add-zero k) ∙ f
  lists_wrong k (suc d) f = ap (λ z. lists_ok (counts z) (drop from l)) (add-suc k d) ∙ (lists-next (k + d) _ refl ∙ and_no _ (lists_wrong k d f))

  pub fits-none : Fits ks os n m r l from 0 from
  unfolding down_from lists_ok weigh
  fits-none = record { right = refl; ends = sym (add-zero from) }

  module _ (k end x c : ℕ) (b : Bool) (h : Fits ks os n m r l from k end) (is : x ≡ r - k) (counted : c ≡ count_by ks os n m x) (tested : b ≡ each_once c (take c (drop end l))) where
    same : c ≡ count_by ks os n m (r - k)
    same = counted ∙ ap (count_by ks os n m) is

    tested_is : each_once (count_by ks os n m (r - k)) (take (count_by ks os n m (r - k)) (drop end l)) ≡ b
    tested_is = sym (tested ∙ ap (λ z. each_once z (take z (drop end l))) same)

    -- its list is right
    pub fits_more : b ≡ true → Fits ks os n m r l from (k + 1) (end + c)
    unfolding weigh
    fits_more t = subst (λ z. Fits ks os n m r l from z (end + c)) (sym (add-one k)) (record {
      right = lists-next k end h.ends ∙ both h.right (tested_is ∙ t);
      ends = omega (arith, h.ends, same, ap (weigh (λ x. x)) (counts-more k), weigh-append (λ x. x) (counts k) (count_by ks os n m (r - k) ∷ []));
    })

    -- it is not
    pub fits_not : (t : ℕ) → b ≡ false → k < t → false ≡ lists_ok (counts t) (drop from l)
    fits_not t f u = sym (subst (λ z. lists_ok (counts z) (drop from l) ≡ false) back (lists_wrong (suc k) (t - suc k) (lists-next k end h.ends ∙ and_yes h.right (tested_is ∙ f))))
      where
        back : suc k + (t - suc k) ≡ t
        back = omega arith

  -- all rounds
  pub fits_end : (k t end : ℕ) → Fits ks os n m r l from k end → k ≡ t → Fits ks os n m r l from t end
  fits_end k t end h e = rw e at h

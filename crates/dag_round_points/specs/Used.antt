-- The places in use, with one place more.
use Prim.Native.Nat.{ℕ, zero, suc, ◌+◌, ◌-◌, ◌<◌, ◌≤◌}
use Rattle.std.specs.Prelude.{◌≡◌, refl, List, Bool, true, false, cond, ◌↔◌, ◌⊎◌, eqb, take, drop}
use Rattle.std.proofs.Common.{sym, ◌∙◌, ap, subst, inl, inr, ⊎_elim, arith, eq-eqb, ne_eqb}
use Rattle.std.proofs.Math.ListN.{length, length-append, length-drop}
use Rattle.std.proofs.Math.Seq.{length-take-le}
use Rattle.laws.specs.Test.{by_test, same_or, le_or, same_test}
use Rattle.laws.specs.Scan.{those, those-yes, those_no, those_most}
use Rattle.models.specs.Tables.{place_at, Inside, Used, is_used, used_is}
use Rattle.models.specs.declared.parts.PointId.{PointId}
use Rattle.dag_round_keys.specs.Sorted.{sorted_apart}
use Rattle.dag_round_order.specs.Free.{free_is_free}
use Rattle.dag_round_order.specs.Shift.{inserted, inserted_low, inserted_at, inserted_high}
use Rattle.commit_state.specs.declared.state.State.{State}
use Rattle.tables_test.specs.Count.{positions_fewer}
use Rattle.dag_round_points.specs.Model.{Ready, id_words, name_code, taken, table_zero, name-zero}

-- all pass: all are counted
those-all : (n : ℕ) (f : ℕ → Bool) → ((i : ℕ) → i < n → f i ≡ true) → length (those n f) ≡ n
unfolding those
those-all zero f h = refl
those-all (suc n) f h = those-yes n f (h n (omega arith)) ∙ ap suc (those-all n f (λ i l. h i (omega arith)))

-- one fails: not all are counted
those_miss : (n : ℕ) (f : ℕ → Bool) (q : ℕ) → q < n → f q ≡ false → length (those n f) < n
those_miss zero f q l h = absurd (omega arith)
those_miss (suc n) f q l h =
    same_or q n
    (λ e. omega (arith, those_no n f (subst (λ x. f x ≡ false) e h), those_most n f))
    (λ d. let r = those_miss n f q (omega arith) h in by_test (f n) (λ t. omega (arith, those-yes n f t)) (λ t. omega (arith, those_no n f t)))

-- a place is free: not all are in use
room : (os : List ℕ) (n places q : ℕ) → ((i j : ℕ) → i < n → j < n → place_at os i ≡ place_at os j → i ≡ j) → Inside os n places → q < places → is_used os n q ≡ false → n < places
room os n places q one inside l h =
    omega (arith, positions_fewer places (place_at os) (is_used os n) n one inside, those-all n (λ i. is_used os n (place_at os i)) (λ i k. (used_is os n (place_at os i)).1 (i, k, refl)), those_miss places (is_used os n) q l h)

module _ (os : List ℕ) (n at x : ℕ) (low : at ≤ n) (small : n < length os) where
  -- as long as it was
  pub inserted-length : length (inserted os n at x) ≡ length os
  unfolding inserted
  inserted-length =
      length-append (take at os) _
      ∙ (ap (λ (m : ℕ). length (take at os) + suc m) (length-append (take (n - at) (drop at os)) (drop (suc n) os))
      ∙ omega (arith, length-take-le at os (omega arith), length-take-le (n - at) (drop at os) (rw (length-drop at os) (omega arith)), length-drop (suc n) os))

  -- x is in use, and what was
  pub used_inserted : (p : ℕ) → Used (inserted os n at x) (suc n) p ↔ ((p ≡ x) ⊎ Used os n p)
  used_inserted p = (to, ⊎_elim here there)
    where
      to : Used (inserted os n at x) (suc n) p → (p ≡ x) ⊎ Used os n p
      to (i, l, e) =
          le_or i at
          (λ u. same_or i at
          (λ d. inl (sym e ∙ (ap (place_at (inserted os n at x)) d ∙ inserted_at os n at x (omega arith))))
          (λ d. inr (i, omega arith, sym (inserted_low os n at x i (omega arith) (omega arith)) ∙ e)))
          (λ u. let d : suc (i - 1) ≡ i = omega arith in
          inr (i - 1, omega arith, sym (inserted_high os n at x (i - 1) (omega arith) (omega arith) small) ∙ (ap (place_at (inserted os n at x)) d ∙ e)))

      here : p ≡ x → Used (inserted os n at x) (suc n) p
      here e = (at, omega arith, inserted_at os n at x (omega arith) ∙ sym e)

      there : Used os n p → Used (inserted os n at x) (suc n) p
      there (i, l, e) =
          le_or at i
          (λ u. (suc i, omega arith, inserted_high os n at x i u l small ∙ e))
          (λ u. (i, omega arith, inserted_low os n at x i (omega arith) u ∙ e))

  -- the same, as tests
  pub inserted_used : (p : ℕ) → is_used (inserted os n at x) (suc n) p ≡ cond (eqb p x) true (is_used os n p)
  inserted_used p =
      same_or p x
      (λ e. rw (eq-eqb p x e) ((used_is (inserted os n at x) (suc n) p).1 ((used_inserted p).1 (inl e))))
      (λ d. rw (ne_eqb p x d)
      (same_test _ _
      (λ h. ⊎_elim (λ e. absurd (d e)) (λ u. (used_is os n p).1 u) ((used_inserted p).0 ((used_is (inserted os n at x) (suc n) p).0 h)))
      (λ h. (used_is (inserted os n at x) (suc n) p).1 ((used_inserted p).1 (inr ((used_is os n p).0 h))))))

-- a point that is not refused has a free place
pub has-place : (s : State) (ks os : List ℕ) (i : PointId) → Ready s ks os → name_code s ks os i ≡ 0 → (taken s os < length os) × (s.count < length os)
has-place s ks os i r z =
    let (n, f, l) = table_zero ks os s.count (id_words i) (name-zero s ks os i z).1 in
    (l, room os s.count (length os) (taken s os) (λ a b u v e. sorted_apart ks os s.count a b r.4 u v e) r.3 l (free_is_free os s.count (length os) l))

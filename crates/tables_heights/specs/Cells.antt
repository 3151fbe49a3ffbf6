-- What the cells hold after the pass (models/cert.rs): at least what was there and what was handed to them, and no more.
use Prim.Native.Nat.{ℕ, zero, suc, ◌+◌, ◌-◌, ◌≤◌, ◌<◌, max}
use Rattle.std.specs.Prelude.{◌≡◌, ◌⊎◌, List, length}
use Rattle.std.proofs.Math.Path.{refl, ap}
use Rattle.std.proofs.Common.{sym, ◌∙◌, get_or-set_other}
use Rattle.std.proofs.Math.Logic.{inl, inr, ⊎_elim}
use native.Mathlib.Omega.{arith}
use Rattle.std.proofs.Math.ListN.{get_or}
use Rattle.std.proofs.Math.Seq.{get_or-set_same, set_out}
use Rattle.laws.specs.Test.{same_or, le_or}
use Rattle.tables_heights.specs.View.{height_at, own_at}
use Rattle.models.specs.Live.{reach}
use Rattle.tables_heights.specs.Model.{raised, pushed, pushed_one, pushed_all, raised_up, raised-same, raised_out, raised-length, pushed-length, all-length}
use Rattle.models.specs.Tables.{place_at, target_at, dist}

module _ (h : List ℕ) (p v : ℕ) where
  raised_keeps : (j : ℕ) → get_or h j 0 ≤ get_or (raised h p v) j 0
  unfolding raised
  raised_keeps j =
      le_or (length h) p
      (λ o. rw (set_out h p (max (get_or h p 0) v) o) (omega arith))
      (λ i. same_or j p
      (λ e. rw (e, get_or-set_same h p (max (get_or h p 0) v) 0 i) (omega arith))
      (λ n. rw (get_or-set_other h p j (max (get_or h p 0) v) 0 n) (omega arith)))

  raised_gets : p < length h → v ≤ get_or (raised h p v) p 0
  unfolding raised
  raised_gets i = rw (get_or-set_same h p (max (get_or h p 0) v) 0 i) (omega arith)

  raised_met : (j : ℕ) → (get_or (raised h p v) j 0 ≡ get_or h j 0) ⊎ ((p ≡ j) × (get_or (raised h p v) j 0 ≡ v))
  raised_met j =
      le_or v (get_or h p 0)
      (λ s. inl (ap (λ l. get_or l j 0) (raised-same h p v s)))
      (λ u. le_or (length h) p
      (λ o. inl (ap (λ l. get_or l j 0) (raised_out h p v o)))
      (λ i. same_or j p
      (λ e. inr (sym e, ap (λ l. get_or l j 0) (raised_up h p v u) ∙ rw e (get_or-set_same h p v 0 i)))
      (λ n. inl (ap (λ l. get_or l j 0) (raised_up h p v u) ∙ get_or-set_other h p j v 0 n))))

module _ (a : ℕ → ℕ) (h : List ℕ) (v : ℕ) where
  pushed-keeps : (m j : ℕ) → get_or h j 0 ≤ get_or (pushed a h v m) j 0
  unfolding pushed
  pushed-keeps zero j = omega arith
  pushed-keeps (suc m) j = omega (arith, pushed-keeps m j, raised_keeps (pushed a h v m) (a m) (v - dist m) j)

  pushed_gets : (m k : ℕ) → k < m → a k < length h → v - dist k ≤ get_or (pushed a h v m) (a k) 0
  unfolding pushed
  pushed_gets zero k l i = absurd (omega arith)
  pushed_gets (suc m) k l i =
      same_or k m
      (λ e. rw e (raised_gets (pushed a h v m) (a m) (v - dist m) (omega (arith, pushed-length a h v m, ap a e))))
      (λ n. omega (arith, pushed_gets m k (omega arith) i, raised_keeps (pushed a h v m) (a m) (v - dist m) (a k)))

  -- what a cell holds after m links: what it held, or what link k handed on
  abbrev HandedOn : ℕ → ℕ → ℕ → Type 0
  HandedOn m j x = (x ≡ get_or h j 0) ⊎ ((k : ℕ) × (k < m) × (a k ≡ j) × (x ≡ v - dist k))

  pushed_met : (m j : ℕ) → HandedOn m j (get_or (pushed a h v m) j 0)
  unfolding pushed
  pushed_met zero j = inl refl
  pushed_met (suc m) j =
      ⊎_elim
      (λ e. ⊎_elim (λ z. inl (e ∙ z)) (λ (k, l, t, z). inr (k, omega arith, t, e ∙ z)) (pushed_met m j))
      (λ (t, e). inr (m, omega arith, t, e))
      (raised_met (pushed a h v m) (a m) (v - dist m) j)

module _ (a : ℕ → ℕ) (h : List ℕ) (p o v m : ℕ) where
  one-keeps : (j : ℕ) → get_or h j 0 ≤ get_or (pushed_one a h p o v m) j 0
  unfolding pushed_one
  one-keeps j = omega (arith, raised_keeps h p o j, pushed-keeps a (raised h p o) v m j)

  one-own : p < length h → o ≤ get_or (pushed_one a h p o v m) p 0
  unfolding pushed_one
  one-own i = omega (arith, raised_gets h p o i, pushed-keeps a (raised h p o) v m p)

  one_gets : (k : ℕ) → k < m → a k < length h → v - dist k ≤ get_or (pushed_one a h p o v m) (a k) 0
  unfolding pushed_one
  one_gets k l i = pushed_gets a (raised h p o) v m k l (omega (arith, raised-length h p o))

  one_met : (j : ℕ) → let x = get_or (pushed_one a h p o v m) j 0 in (x ≡ get_or h j 0) ⊎ ((p ≡ j) × (x ≡ o)) ⊎ ((k : ℕ) × (k < m) × (a k ≡ j) × (x ≡ v - dist k))
  unfolding pushed_one
  one_met j =
      ⊎_elim
      (λ e. ⊎_elim (λ f. inl (e ∙ f)) (λ (t, f). inr (inl (t, e ∙ f))) (raised_met h p o j))
      (λ y. inr (inr y))
      (pushed_met a (raised h p o) v m j)

module _ (b T : ℕ) (ks ls cs os h : List ℕ) where
  abbrev all : ℕ → List ℕ
  all i = pushed_all b T ks ls cs os h i

  all-keeps : (n i j : ℕ) → i ≤ n → get_or (all i) j 0 ≤ get_or (all n) j 0
  unfolding pushed_all
  all-keeps zero i j l = let e : i ≡ 0 = omega arith in rw e (omega arith)
  all-keeps (suc n) i j l =
      same_or i (suc n)
      (λ e. rw e (omega arith))
      (λ e. let g : get_or (all n) j 0 ≤ get_or (all (suc n)) j 0 = one-keeps _ (all n) _ _ _ _ j in omega (arith, all-keeps n i j (omega arith)))

  -- a used place's own height is in its cell
  pub all_own : (n i : ℕ) → i < n → place_at os i + 1 < length h → own_at T cs (place_at os i) ≤ get_or (all n) (place_at os i + 1) 0
  unfolding pushed_all
  all_own n i l s =
      let g : own_at T cs (place_at os i) ≤ get_or (all (suc i)) (place_at os i + 1) 0 = one-own _ (all i) _ _ _ _ (omega (arith, all-length b T ks ls cs os h i)) in
      omega (arith, all-keeps n (suc i) (place_at os i + 1) (omega arith))

  -- and what its live links hand on is in theirs
  pub all_gets : (n i k : ℕ) → i < n → k < reach b ks (place_at os i) → target_at ls (place_at os i) k < length h
      → height_at cs (place_at os i) - dist k ≤ get_or (all n) (target_at ls (place_at os i) k) 0
  unfolding pushed_all
  all_gets n i k l m s =
      let j : ℕ = target_at ls (place_at os i) k in
      let g : height_at cs (place_at os i) - dist k ≤ get_or (all (suc i)) j 0 = one_gets (target_at ls (place_at os i)) (all i) _ _ _ _ k m (omega (arith, all-length b T ks ls cs os h i)) in
      omega (arith, all-keeps n (suc i) j (omega arith))

  -- x is what the cell j held, a place's own height, or what a live link handed on
  abbrev pub Given : ℕ → ℕ → ℕ → Type 0
  Given n j x =
      (x ≡ get_or h j 0) ⊎ ((i : ℕ) × (i < n) × (place_at os i + 1 ≡ j) × (x ≡ own_at T cs (place_at os i)))
      ⊎ ((i : ℕ) × (k : ℕ) × (i < n) × (k < reach b ks (place_at os i)) × (target_at ls (place_at os i) k ≡ j) × (x ≡ height_at cs (place_at os i) - dist k))

  pub all_met : (n j : ℕ) → Given n j (get_or (all n) j 0)
  unfolding pushed_all
  all_met zero j = inl refl
  all_met (suc n) j = go (one_met _ (all n) _ _ _ _ j) (all_met n j)
    where
      q : ℕ
      q = place_at os n

      x : ℕ
      x = get_or (all (suc n)) j 0

      go : (x ≡ get_or (all n) j 0) ⊎ ((q + 1 ≡ j) × (x ≡ own_at T cs q)) ⊎ ((k : ℕ) × (k < reach b ks q) × (target_at ls q k ≡ j) × (x ≡ height_at cs q - dist k))
          → Given n j (get_or (all n) j 0) → Given (suc n) j x
      go (inl e) (inl z) = inl (e ∙ z)
      go (inl e) (inr (inl (i, l, t, z))) = inr (inl (i, omega arith, t, e ∙ z))
      go (inl e) (inr (inr (i, k, l, m, t, z))) = inr (inr (i, k, omega arith, m, t, e ∙ z))
      go (inr (inl (t, e))) r = inr (inl (n, omega arith, t, e))
      go (inr (inr (k, l, t, e))) r = inr (inr (n, k, omega arith, l, t, e))

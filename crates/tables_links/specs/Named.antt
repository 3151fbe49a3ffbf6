-- The test of the links holds just where every live link leads to the used place that it names (dag/dag_round.rs).
use Prim.Native.Nat.{ℕ, zero, suc, ◌+◌, ◌-◌, ◌%◌, ◌≤◌, ◌<◌}
use Rattle.std.specs.Prelude.{◌≡◌, refl, ◌↔◌, Bool, false, List, get_or, length, eqb, ltb}
use Rattle.std.proofs.Common.{sym, ◌∙◌, ap, get_or-set_same, get_or-set_other}
use Rattle.std.proofs.Math.Logic.{⊎_elim}
use Rattle.std.proofs.Math.Bool.{true}
use native.Mathlib.Omega.{arith}
use Rattle.std.proofs.lemmas.List.{length-replicate, get_or-replicate}
use Rattle.std.proofs.Math.ListN.{get_or-eq_default}
use borrow.Author.Tests.{eqb-true, eq-eqb, lt-ltb}
use Rattle.laws.specs.Test.{both, and_l, and_r, or_l, or_r, or_cases, clash, same_or, le_or}
use Rattle.laws.specs.Scan.{every_elim, every_intro}
use Rattle.models.specs.Live.{reach, reach_live, Live}
use Rattle.tables_heights.specs.Refines.{Falls}
use Rattle.tables_links.specs.Links.{dig_at, fits, leads_to, link_right, links_right, blank, links_hold}
use Rattle.dag_round_order.specs.Marks.{marked, marked-length}
use Rattle.models.specs.Digest.{digest_at}
use Rattle.models.specs.Tables.{round_at, author_at, digest_of, place_at, Inside, Used, target_at, dist}

-- the place p is the one that link k of the place q names
pub record Names (ks ls : List ℕ) (q k p : ℕ) : Type 0 where
  pub falls : round_at ks p + dist k ≡ round_at ks q
  pub author : author_at ks p ≡ k % 32
  pub digest : digest_of ks p ≡ digest_at ls (dig_at q k)

-- link k of the place q leads to the used place that it names
abbrev pub Found : List ℕ → List ℕ → List ℕ → ℕ → ℕ → ℕ → Type 0
Found ks ls os n q k = (p : ℕ) × Used os n p × (target_at ls q k ≡ suc p) × Names ks ls q k p

-- the rule: each live link does
abbrev pub Links : ℕ → List ℕ → List ℕ → List ℕ → ℕ → Type 0
Links b ks ls os n = (q k : ℕ) → Used os n q → Live b ks q k → 0 < target_at ls q k → Found ks ls os n q k

blank-length : length blank ≡ 4096
unfolding blank
blank-length = length-replicate {A = Bool} 4096 false

blank_none : (p : ℕ) → get_or blank p false ≡ false
unfolding blank
blank_none p = le_or 4096 p (λ l. let o : length blank ≤ p = omega (arith, blank-length) in get_or-eq_default blank false o) (λ l. get_or-replicate {A = Bool} 4096 p false false l)

-- only the order's places are marked
marked_elim : (os : List ℕ) (n p : ℕ) → get_or (marked blank os n) p false ≡ true → Used os n p
unfolding marked
marked_elim os zero p h = absurd (clash h (blank_none p))
marked_elim os (suc n) p h =
    same_or p (place_at os n)
    (λ e. (n, omega arith, sym e))
    (λ e. let (i, l, d) = marked_elim os n p (sym (get_or-set_other (marked blank os n) (place_at os n) p true false e) ∙ h) in (i, omega arith, d))

-- and all of them
marked_intro : (os : List ℕ) (n i : ℕ) → Inside os n (length os) → length os ≤ 4096 → i < n → get_or (marked blank os n) (place_at os i) false ≡ true
unfolding marked
marked_intro os zero i inside s l = absurd (omega arith)
marked_intro os (suc n) i inside s l =
    same_or (place_at os i) (place_at os n)
    (λ e. rw e (get_or-set_same (marked blank os n) (place_at os n) true false (omega (arith, inside n (omega arith), marked-length blank os n, blank-length))))
    (λ e. get_or-set_other (marked blank os n) (place_at os n) (place_at os i) true false e
    ∙ marked_intro os n i (λ j m. inside j (omega arith)) s (same_or i n (λ d. absurd (e (ap (place_at os) d))) (λ d. omega arith)))

module _ (ks ls : List ℕ) (q k : ℕ) (far : dist k ≤ round_at ks q) where
  fits-names : (p : ℕ) → (fits ks ls q k p ≡ true) ↔ Names ks ls q k p
  unfolding fits
  fits-names p = (
    (λ h. record {
      falls = let e : round_at ks p ≡ round_at ks q - dist k = eqb-true _ _ (search (and_l, and_r)) in omega arith;
      author = eqb-true _ _ (search (and_l, and_r));
      digest = eqb-true _ _ (search (and_l, and_r));
    }),
    λ m. both (eq-eqb (round_at ks p) (round_at ks q - dist k) (omega (arith, m.falls))) (both (eq-eqb _ _ m.author) (eq-eqb _ _ m.digest)),
  )

  module _ (os : List ℕ) (n : ℕ) where
    right_found : link_right ks ls (marked blank os n) (length os) q k ≡ true → 0 < target_at ls q k → Found ks ls os n q k
    unfolding link_right leads_to
    right_found h a =
        let p : ℕ = target_at ls q k - 1 in
        ⊎_elim
        (λ z. absurd (omega (arith, eqb-true (target_at ls q k) 0 z)))
        (λ t. let r = and_r (ltb p (length os)) _ t in
        (p, marked_elim os n p (and_l _ (fits ks ls q k p) r), omega arith, (fits-names p).0 (and_r (get_or (marked blank os n) p false) _ r)))
        (or_cases (eqb (target_at ls q k) 0) _ h)

    found_right : Inside os n (length os) → length os ≤ 4096 → (0 < target_at ls q k → Found ks ls os n q k) → link_right ks ls (marked blank os n) (length os) q k ≡ true
    unfolding link_right leads_to
    found_right inside s f =
        le_or (target_at ls q k) 0
        (λ z. or_l (eqb (target_at ls q k) 0) _ (eq-eqb (target_at ls q k) 0 (omega arith)))
        (λ a. or_r (eqb (target_at ls q k) 0) _ (go (f a)))
      where
        go : Found ks ls os n q k → leads_to ks ls (marked blank os n) (length os) q k (target_at ls q k - 1) ≡ true
        go (p, (i, l, d), e, m) =
            let x : target_at ls q k - 1 ≡ p = omega arith in
            rw x (both (lt-ltb p (length os) (omega (arith, inside i l))) (both (rw d at (marked_intro os n i inside s l)) ((fits-names p).1 m)))

module _ (b : ℕ) (ks ls os : List ℕ) (n : ℕ) where
  -- the test of one place is sound
  pub place_sound : (q : ℕ) → links_right ks ls (marked blank os n) (length os) q (reach b ks q) ≡ true → (k : ℕ) → Live b ks q k → 0 < target_at ls q k → Found ks ls os n q k
  unfolding links_right
  place_sound q h k l = right_found ks ls q k (omega arith) os n (every_elim (reach b ks q) _ h k ((reach_live b ks q k).1 l))

  -- and complete
  pub place_complete : Inside os n (length os) → length os ≤ 4096 → (q : ℕ) → ((k : ℕ) → Live b ks q k → 0 < target_at ls q k → Found ks ls os n q k) → links_right ks ls (marked blank os n) (length os) q (reach b ks q) ≡ true
  unfolding links_right
  place_complete inside s q r =
      every_intro (reach b ks q) _ (λ k l. let m : Live b ks q k = (reach_live b ks q k).0 l in found_right ks ls q k (omega arith) os n inside s (r k m))

  -- so is that of all used places
  pub links_sound : links_hold b ks ls os n ≡ true → Links b ks ls os n
  unfolding links_hold
  links_sound h q k (i, j, d) = place_sound q (rw d at (every_elim n _ h i j)) k

  pub links_complete : Inside os n (length os) → length os ≤ 4096 → Links b ks ls os n → links_hold b ks ls os n ≡ true
  unfolding links_hold
  links_complete inside s r = every_intro n _ (λ i j. place_complete inside s (place_at os i) (λ k. r (place_at os i) k (i, j, refl)))

  -- so live links lead to used places, as many rounds down as they should
  pub links_fall : Links b ks ls os n → Falls b ks ls os n
  links_fall r q k p u l e = go (r q k u ((reach_live b ks q k).0 l) (omega arith))
    where
      go : Found ks ls os n q k → Used os n p × (round_at ks p + dist k ≡ round_at ks q)
      go (x, v, f, m) = let y : x ≡ p = omega arith in (rw y at v, (rw y at m).falls)

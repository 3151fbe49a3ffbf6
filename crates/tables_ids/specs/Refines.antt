-- The test holds just where at most four points share an author and a round (dag/dag_round.rs).
use Prim.Native.Nat.{ℕ, zero, suc, ◌+◌, ◌≤◌, ◌<◌}
use Rattle.std.specs.Prelude.{◌≡◌, refl, Bool, true, ◌&&◌, List, length, eqb}
use Rattle.std.proofs.Common.{ap, arith}
use borrow.Author.Tests.{eqb-true, eq-eqb, ltb-true, lt-ltb}
use Rattle.laws.specs.Test.{by_test, both, and_l, and_r, same_test, same_or}
use Rattle.laws.specs.Scan.{every_elim, every_intro, those, those-same, those_most, those-yes, those_no}
use Rattle.tables_ids.specs.Model.{cell_of, cell_at, in_cell, tally, versions_hold}
use Rattle.models.specs.Tables.{round_at, author_at, place_at, Used}

-- the place at position i has the round and the author of the place q
abbrev pub same_author : List ℕ → List ℕ → ℕ → ℕ → Bool
same_author ks os q i = eqb (round_at ks (place_at os i)) (round_at ks q) && eqb (author_at ks (place_at os i)) (author_at ks q)

-- the rule: at most four points share an author and a round
abbrev pub Few : List ℕ → List ℕ → ℕ → Type 0
Few ks os n = (q : ℕ) → Used os n q → length (those n (same_author ks os q)) ≤ 4

-- the rounds are from b to b + 511, the authors below 32
abbrev pub Window : ℕ → List ℕ → List ℕ → ℕ → Type 0
Window b ks os n = (q : ℕ) → Used os n q → (b ≤ round_at ks q) × (round_at ks q < b + 512) × (author_at ks q < 32)

-- more positions: no fewer pass
those_grows : (n m : ℕ) (f : ℕ → Bool) → m ≤ n → length (those m f) ≤ length (those n f)
those_grows zero m f l = let e : m ≡ 0 = omega arith in rw e (omega arith)
those_grows (suc n) m f l =
    same_or m (suc n)
    (λ e. rw e (omega arith))
    (λ e. let r : length (those m f) ≤ length (those n f) = those_grows n m f (omega arith) in
    by_test (f n) (λ t. omega (arith, those-yes n f t)) (λ t. omega (arith, those_no n f t)))

module _ (b : ℕ) (ks os : List ℕ) (n : ℕ) (w : Window b ks os n) where
  -- in the window a cell is one round and one author
  same_author-cell : (q : ℕ) → Used os n q → (i : ℕ) → i < n → same_author ks os q i ≡ in_cell ks os (cell_at ks q) i
  unfolding cell_of
  same_author-cell q u i l =
      let p : ℕ = place_at os i in
      let x = w p (i, l, refl) in
      let y = w q u in
      same_test _ _
      (λ t. let e : round_at ks p ≡ round_at ks q = eqb-true _ _ (and_l _ (eqb (author_at ks p) (author_at ks q)) t) in
      let f : author_at ks p ≡ author_at ks q = eqb-true _ _ (and_r (eqb (round_at ks p) (round_at ks q)) _ t) in
      eq-eqb (cell_at ks p) (cell_at ks q) (rw (e, f) refl))
      (λ t. let e : cell_at ks p ≡ cell_at ks q = eqb-true _ _ t in
      both (eq-eqb (round_at ks p) (round_at ks q) (omega arith)) (eq-eqb (author_at ks p) (author_at ks q) (omega arith)))

  mates : (q : ℕ) → Used os n q → length (those n (same_author ks os q)) ≡ tally ks os n (cell_at ks q)
  mates q u = ap length (those-same n (same_author ks os q) (in_cell ks os (cell_at ks q)) (same_author-cell q u))

  -- sound: where the test holds the rule does
  pub few_sound : versions_hold ks os n ≡ true → Few ks os n
  unfolding versions_hold
  few_sound h q u = rw (mates q u) (up_to n (omega arith) (cell_at ks q))
    where
      room : (i : ℕ) → i < n → tally ks os i (cell_at ks (place_at os i)) < 4
      room i l = ltb-true _ 4 (every_elim n _ h i l)

      up_to : (m : ℕ) → m ≤ n → (j : ℕ) → tally ks os m j ≤ 4
      up_to zero l j = omega (arith, those_most 0 (in_cell ks os j))
      up_to (suc m) l j =
          by_test (in_cell ks os j m)
          (λ t. let e : cell_at ks (place_at os m) ≡ j = eqb-true _ j t in
          let g : tally ks os m j < 4 = rw e at (room m (omega arith)) in
          omega (arith, those-yes m (in_cell ks os j) t))
          (λ t. omega (arith, those_no m (in_cell ks os j) t, up_to m (omega arith) j))

  -- and complete
  pub few_complete : Few ks os n → versions_hold ks os n ≡ true
  unfolding versions_hold
  few_complete r = every_intro n _ (λ i l. lt-ltb _ 4 (below i l))
    where
      below : (i : ℕ) → i < n → tally ks os i (cell_at ks (place_at os i)) < 4
      below i l =
          let q : ℕ = place_at os i in
          let u : Used os n q = (i, l, refl) in
          let f = in_cell ks os (cell_at ks q) in
          omega (arith, mates q u, r q u, those-yes i f (eq-eqb (cell_at ks q) (cell_at ks q) refl), those_grows n (suc i) f (omega arith))

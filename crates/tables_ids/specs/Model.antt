-- What the code counts (dag/dag_round.rs).
use Rattle.std.specs.Prelude.{ℕ, suc, ◌+◌, ◌*◌, ◌%◌, ◌≤◌, ◌<◌, ◌≡◌, refl, Bool, true, false, cond, List, get_or, set, length, replicate, eqb, ltb}
use Rattle.std.proofs.Common.{sym, ◌∙◌, ap, arith, add-one, length-set, get_or-set_same, get_or-set_other, ltb-true, lt-ltb, le-ltb, eq-eqb, ne_eqb}
use Rattle.std.proofs.lemmas.List.{length-replicate, get_or-replicate}
use Rattle.laws.specs.Test.{same_or}
use Rattle.laws.specs.Scan.{every, those, those-yes, those_no}
use Rattle.models.specs.Tables.{round_at, author_at, place_at}

-- the cell that a round and an author count in
unfoldable pub cell_of : ℕ → ℕ → ℕ
cell_of r a = r % 512 * 32 + a % 32

abbrev pub cell_at : List ℕ → ℕ → ℕ
cell_at ks q = cell_of (round_at ks q) (author_at ks q)

-- whether position i counts in the cell j
abbrev pub in_cell : List ℕ → List ℕ → ℕ → ℕ → Bool
in_cell ks os j i = eqb (cell_at ks (place_at os i)) j

-- how many of the first i positions count in the cell j
abbrev pub tally : List ℕ → List ℕ → ℕ → ℕ → ℕ
tally ks os i j = length (those i (in_cell ks os j))

-- there is room for the place q in the cells s
abbrev pub room : List ℕ → List ℕ → ℕ → Bool
room ks s q = ltb (get_or s (cell_at ks q) 0) 4

-- the cells after the place q
unfoldable pub counted : List ℕ → List ℕ → ℕ → List ℕ
counted ks s q = cond (room ks s q) (set s (cell_at ks q) (get_or s (cell_at ks q) 0 + 1)) s

-- there is room for position i after those before it
abbrev pub fits : List ℕ → List ℕ → ℕ → Bool
fits ks os i = ltb (tally ks os i (cell_at ks (place_at os i))) 4

-- the test that the code makes
unfoldable pub versions_hold : List ℕ → List ℕ → ℕ → Bool
versions_hold ks os n = every n (fits ks os)

-- the cell i is full
pub counted_full : (ks s : List ℕ) (q i r a : ℕ) → r ≡ round_at ks q → a ≡ author_at ks q → i ≡ cell_of r a → 4 ≤ get_or s i 0 → (false ≡ room ks s q) × (s ≡ counted ks s q)
unfolding counted
counted_full ks s q i r a x y e l = let f : room ks s q ≡ false = le-ltb _ 4 (rw (e, x, y) at l) in (sym f, rw f refl)

-- the cell i has room
pub counted-more : (ks s : List ℕ) (q i r a : ℕ) → r ≡ round_at ks q → a ≡ author_at ks q → i ≡ cell_of r a → get_or s i 0 < 4 → (true ≡ room ks s q) × (set s i (get_or s i 0 + 1) ≡ counted ks s q)
unfolding counted
counted-more ks s q i r a x y e l = let f : room ks s q ≡ true = lt-ltb _ 4 (rw (e, x, y) at l) in (sym f, rw (f, e, x, y) refl)

cell_small : (r a : ℕ) → cell_of r a < 16384
unfolding cell_of
cell_small r a = omega arith

-- the cells s hold the tallies of the first i positions
abbrev pub Tallied : List ℕ → List ℕ → List ℕ → ℕ → Type 0
Tallied ks os s i = (length s ≡ 16384) × ((j : ℕ) → j < 16384 → get_or s j 0 ≡ tally ks os i j)

pub none_tallied : (ks os : List ℕ) → Tallied ks os (replicate 16384 0) 0
unfolding those
none_tallied ks os = (length-replicate {A = ℕ} 16384 0, λ j l. get_or-replicate {A = ℕ} 16384 j 0 0 l)

module _ (ks os s : List ℕ) (i q : ℕ) (t : Tallied ks os s i) (a : q ≡ place_at os i) where
  -- the cells say whether there is room
  pub room_fits : room ks s q ≡ fits ks os i
  room_fits = rw a (ap (λ x. ltb x 4) (t.1 (cell_at ks (place_at os i)) (cell_small _ _)))

  -- one place more
  pub tallied_more : (r : List ℕ) → r ≡ counted ks s q → room ks s q ≡ true → Tallied ks os r (i + 1)
  tallied_more r e h =
      rw (e ∙ sym (counted-more ks s q c _ _ refl refl refl (ltb-true _ 4 h)).1, add-one i)
      (length-set s c (get_or s c 0 + 1) ∙ t.0, λ j l. same_or c j (at j l) (off j l))
    where
      c : ℕ
      c = cell_at ks q

      at : (j : ℕ) → j < 16384 → c ≡ j → get_or (set s c (get_or s c 0 + 1)) j 0 ≡ tally ks os (suc i) j
      at j l d =
          let g : get_or (set s c (get_or s c 0 + 1)) j 0 ≡ get_or s c 0 + 1 = rw (← d) (get_or-set_same s c (get_or s c 0 + 1) 0 (omega (arith, t.0))) in
          let k : get_or s c 0 ≡ tally ks os i j = rw d (t.1 j l) in
          omega (arith, those-yes i (in_cell ks os j) (eq-eqb _ j (ap (cell_at ks) (sym a) ∙ d)))

      off : (j : ℕ) → j < 16384 → (c ≡ j → ⊥) → get_or (set s c (get_or s c 0 + 1)) j 0 ≡ tally ks os (suc i) j
      off j l d =
          get_or-set_other s c j (get_or s c 0 + 1) 0 (λ x. d (sym x)) ∙ t.1 j l
          ∙ sym (those_no i (in_cell ks os j) (ne_eqb _ j (λ x. d (ap (cell_at ks) a ∙ x))))

-- The cells of the order that a walk from position `low` to position `high` goes over.
use Rattle.std.specs.Prelude.{ℕ, zero, suc, ◌+◌, ◌-◌, ◌<◌, ◌≤◌, ◌≡◌, List, [], ◌∷◌, ◌++◌, Bool, true, false, ◌||◌, length, get_or, take, drop}
use Rattle.std.specs.List.{All, filter, list_any}
use Rattle.std.proofs.Common.{◌∙◌, length-append, sym, ap, subst, refl, arith}
use Rattle.std.proofs.Math.Seq.{take-suc}
use Rattle.std.proofs.lemmas.List.{get_or-take, get_or-drop, length-take, length-drop}
use Rattle.std.proofs.lemmas.List.Elements.{All-from_get_or, filter-append}
use Rattle.std.proofs.lemmas.List.Folds.{list_any-append}
use Rattle.laws.specs.Lists.{up_to}
use Rattle.laws.specs.Scan.{any, those}
use Rattle.laws.specs.Test.{by_test}
use Rattle.models.specs.Tables.{place_at, Inside}
use Rattle.back_history.specs.Refines.{one, picked}

-- cell k of them is the one at position low + k
pub cell : (os : List ℕ) (low high k q : ℕ) → k < length (take (high - low) (drop low os)) → q ≡ get_or (take (high - low) (drop low os)) k 0 → q ≡ place_at os (low + k)
cell os low high k q l e =
    e
    ∙ (get_or-take (high - low) (drop low os) k 0 (omega (arith, l, length-take (high - low) (drop low os)))
    ∙ get_or-drop low os k 0)

-- each holds a place below n, if each position below `high` does
pub cells_inside : (os : List ℕ) (low high n : ℕ) → Inside os high n → All (λ w. w < n) (take (high - low) (drop low os))
cells_inside os low high n h =
    All-from_get_or (λ w. w < n) (take (high - low) (drop low os)) 0
    (λ i l. subst (λ w. w < n) (sym (cell os low high i _ l refl)) (h (low + i) (omega (arith, l, length-take (high - low) (drop low os)))))

module _ (os : List ℕ) (f : ℕ → Bool) (low : ℕ) where
  -- one cell more
  next : (k : ℕ) → low + suc k ≤ length os → take (suc k) (drop low os) ≡ take k (drop low os) ++ (place_at os (low + k) ∷ [])
  next k l = take-suc (drop low os) k 0 (omega (arith, l, length-drop low os)) ∙ ap (λ x. take k (drop low os) ++ (x ∷ [])) (get_or-drop low os k 0)

  -- those of k cells whose places pass
  pub cells_picked : (k : ℕ) → low + k ≤ length os → filter f (take k (drop low os)) ≡ picked os f low k
  unfolding picked up_to one
  cells_picked zero l = refl
  cells_picked (suc k) l =
      let h : filter f (take k (drop low os)) ≡ picked os f low k = cells_picked k (omega arith) in
      rw (next k l) (filter-append f (take k (drop low os)) (place_at os (low + k) ∷ []) ∙ by_test (f (place_at os (low + k))) (λ t. rw t (ap (λ x. x ++ (place_at os (low + k) ∷ [])) h)) (λ e. rw e (ap (λ x. x ++ []) h)))

  -- how many they are
  pub cells_count : (k : ℕ) → low + k ≤ length os → length (filter f (take k (drop low os))) ≡ length (those k (λ j. f (place_at os (low + j))))
  unfolding those
  cells_count zero l = refl
  cells_count (suc k) l =
      let h : length (filter f (take k (drop low os))) ≡ length (those k (λ j. f (place_at os (low + j)))) = cells_count k (omega arith) in
      rw (next k l) (ap length (filter-append f (take k (drop low os)) (place_at os (low + k) ∷ []))
      ∙ (length-append (filter f (take k (drop low os))) (filter f (place_at os (low + k) ∷ []))
      ∙ by_test (f (place_at os (low + k))) (λ t. rw t (omega (arith, h))) (λ e. rw e (omega (arith, h)))))

  -- whether one of k cells holds a place that passes
  pub cells_any : (k : ℕ) → low + k ≤ length os → list_any f (take k (drop low os)) ≡ any k (λ j. f (place_at os (low + j)))
  unfolding any
  cells_any zero l = refl
  cells_any (suc k) l =
      let h : list_any f (take k (drop low os)) ≡ any k (λ j. f (place_at os (low + j))) = cells_any k (omega arith) in
      rw (next k l) (list_any-append f (take k (drop low os)) (place_at os (low + k) ∷ []) ∙ (ap (λ b. b || (f (place_at os (low + k)) || false)) h ∙ turn (any k (λ j. f (place_at os (low + j)))) (f (place_at os (low + k)))))
    where
      turn : (a b : Bool) → (a || (b || false)) ≡ (b || a)
      turn true true = refl
      turn true false = refl
      turn false true = refl
      turn false false = refl

-- A part of a table, as the code copies, zeroes and compares it.
use Rattle.std.proofs.Common.{Some, IsTrue, EachIndex, ◌↔◌, ℕ, zero, suc, ◌+◌, ◌-◌, ◌<◌, ◌≤◌, ◌≡◌, Bool, ◌&&◌, List, [], ◌∷◌, length, get_or, take, drop, eqb, ltb, refl, ap, sym, ◌∙◌, arith, add-one, drop-cons}
use Rattle.std.proofs.lemmas.List.{ext_get_or, places, get_or-take, length-take-le}
use borrow.Rule.Slice.PartMut.{put_mid}
use Rattle.std.specs.Cmp.Lexicographic.{pointwise, slice_partial_cmp}
use Rattle.std.specs.Ordering.{nat_cmp, is_lt, is_some_and}
use Rattle.std.proofs.lemmas.Cmp.{same_from_slice_cmp_tested}
use Rattle.std.proofs.lemmas.Bool.Decides.{nat_tests}
use Rattle.laws.specs.Test.{le_or, same_test}
use Rattle.models.specs.Digest.{words, digest_at, Fit}
use Rattle.dag_round_keys.specs.Digest.{digest_same, digest_before}
use Rattle.dag_round_keys.specs.Sorted.{is_inside, inside_is}
use Rattle.dag_round_keys.specs.Fill.{filled, filled-length, filled_in, filled_off}
use Rattle.dag_round_keys.specs.Key.{same, before}

module _ (t xs : List ℕ) (p n k : ℕ) (fits : p + n ≤ length t) (wide : k ≡ n) (len : length xs ≡ n) where
  part-length : length (put_mid p k t xs) ≡ length t
  part-length = grind (arith, places)

  part_in : (y : ℕ) → p ≤ y → y < p + n → get_or (put_mid p k t xs) y 0 ≡ get_or xs (y - p) 0
  part_in y a b = grind (arith, places)

  part_below : (y : ℕ) → y < p → get_or (put_mid p k t xs) y 0 ≡ get_or t y 0
  part_below y a = grind (arith, places)

  part_above : (y : ℕ) → p + n ≤ y → get_or (put_mid p k t xs) y 0 ≡ get_or t y 0
  part_above y a = grind (arith, places)

  -- n words of t from p on are now those of xs
  pub part_filled : (f : ℕ → ℕ) → ((i : ℕ) → i < n → get_or xs i 0 ≡ f i) → put_mid p k t xs ≡ filled f t p n
  part_filled f each =
      ext_get_or 0 (put_mid p k t xs) (filled f t p n) (part-length ∙ sym (filled-length f t p n))
      (λ y l. le_or p y
      (λ a. le_or (p + n) y
      (λ b. part_above y b ∙ sym (filled_off f t p n y (λ i j e. omega arith)))
      (λ b. let i : y - p < n = omega arith in
      let e : p + (y - p) ≡ y = omega arith in
      part_in y a b ∙ (each (y - p) i ∙ sym (rw e at (filled_in f t p n (y - p) fits i)))))
      (λ a. part_below y a ∙ sym (filled_off f t p n y (λ i j e. omega arith))))

-- m words of t from p on, as a part of it
pub words-part : (t : List ℕ) (p m : ℕ) → p + m ≤ length t → words t p m ≡ take m (drop p t)
unfolding words
words-part t p zero l = refl
words-part t p (suc m) l =
    let h : p < length t = omega arith in
    rw (drop-cons t p 0 h, add-one p) (ap (λ (r : List ℕ). get_or t p 0 ∷ r) (rw (add-one p) at (words-part t (p + 1) m (omega arith))))

-- word by word equal, as `==` says it
pub same-pointwise : (xs ys : List ℕ) → pointwise eqb xs ys ≡ same xs ys
unfolding same
same-pointwise [] [] = refl
same-pointwise [] (y ∷ ys) = refl
same-pointwise (x ∷ xs) [] = refl
same-pointwise (x ∷ xs) (y ∷ ys) = ap (λ z. eqb x y && z) (same-pointwise xs ys)

four : (p : ℕ) → p + 4 - p ≡ 4
four p = omega arith

-- word by word in order, as `<` says it
before-tested : (xs ys : List ℕ) (r : Bool) → r ≡ is_some_and is_lt (slice_partial_cmp (λ x y. Some (nat_cmp x y)) xs ys) → r ≡ before xs ys
unfolding before
before-tested = same_from_slice_cmp_tested nat_cmp is_lt before refl (λ y ys. refl) (λ x xs. refl) (λ x y xs ys o h. grind (arith, nat_tests))

module _ (t u : List ℕ) (p q : ℕ) (lt : p + 4 ≤ length t) (lu : q + 4 ≤ length u) (ft : Fit t) (fu : Fit u) (r : Bool) where
  -- two digests, as `==` says it of their parts
  pub part_same : r ≡ pointwise eqb (take (p + 4 - p) (drop p t)) (take (q + 4 - q) (drop q u)) → r ≡ eqb (digest_at t p) (digest_at u q)
  part_same e =
      let a : take (p + 4 - p) (drop p t) ≡ words t p 4 = rw (four p) (sym (words-part t p 4 lt)) in
      let b : take (q + 4 - q) (drop q u) ≡ words u q 4 = rw (four q) (sym (words-part u q 4 lu)) in
      e ∙ (same-pointwise (take (p + 4 - p) (drop p t)) (take (q + 4 - q) (drop q u)) ∙ rw (a, b) (digest_same t u p q ft fu))

  -- and as `<` says it
  pub part_before : r ≡ is_some_and is_lt (slice_partial_cmp (λ x y. Some (nat_cmp x y)) (take (p + 4 - p) (drop p t)) (take (q + 4 - q) (drop q u))) → r ≡ ltb (digest_at t p) (digest_at u q)
  part_before e =
      let a : take (p + 4 - p) (drop p t) ≡ words t p 4 = rw (four p) (sym (words-part t p 4 lt)) in
      let b : take (q + 4 - q) (drop q u) ≡ words u q 4 = rw (four q) (sym (words-part u q 4 lu)) in
      before-tested (take (p + 4 - p) (drop p t)) (take (q + 4 - q) (drop q u)) r e ∙ rw (a, b) (digest_before t u p q ft fu)

-- the cells of the first n, one by one
pub part_inside : (o : List ℕ) (n places : ℕ) (r : Bool) → n ≤ length o → (IsTrue r ↔ EachIndex (take n o) (λ k. get_or (take n o) k 0 < places)) → r ≡ is_inside o n places
part_inside o n places r l h =
    let len : length (take n o) ≡ n = length-take-le n o l in
    same_test r (is_inside o n places)
    (λ t. (inside_is o n places).1 (λ q m. rw (get_or-take n o q 0 m) at (h.0 t q (omega arith))))
    (λ t. h.1 (λ k m. rw (get_or-take n o k 0 (omega arith)) ((inside_is o n places).0 t k (omega arith))))

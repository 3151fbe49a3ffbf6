-- The test of a list of bytes: each below their number, none twice (02: N1).
use Rattle.std.specs.Prelude.{ℕ, suc, ◌+◌, ◌-◌, ◌<◌, ◌≤◌, ◌≡◌, Bool, true, false, length, get_or, set, take, drop, replicate}
use Rattle.std.proofs.Math.Path.{sym}
use Rattle.std.proofs.Common.{ap, subst, ◌∙◌, arith, length-set, get_or-set_same, get_or-set_other, get_or-take, get_or-drop, ne_eqb}
use mathlib.Core.List.{List, [], ◌∷◌, Memᴰ}
use Rattle.std.proofs.Math.ListN.{length-take, length-drop, get_or-eq_default}
use Rattle.std.proofs.lemmas.List.{length-replicate, get_or-replicate}
use Rattle.laws.specs.Test.{by_test, clash, same_or, le_or, and_no}
use Rattle.laws.specs.Lists.{NoDup, get_d_in, in_get_d, get_d_apart}
use Rattle.spec.specs.History.{each_once}
use Rattle.spec.proofs.OrderInRound.{each-length, each_below, each_nodup, each_intro}

-- the first k bytes from `from` on are below n, none twice; `seen` marks them and no other
pub record Seen (l : List ℕ) (from n k : ℕ) (seen : List Bool) : Type 0 where
  pub size : length seen ≡ 256
  pub small : (i : ℕ) → i < k → get_or l (from + i) 0 < n
  pub apart : (i j : ℕ) → i < j → j < k → get_or l (from + i) 0 ≡ get_or l (from + j) 0 → ⊥
  pub on : (i : ℕ) → i < k → get_or seen (get_or l (from + i) 0) false ≡ true
  pub only : (v : ℕ) → get_or seen v false ≡ true → (i : ℕ) × (i < k) × (get_or l (from + i) 0 ≡ v)

-- elements that differ by their places
apart_nodup : {A : Type 0} (l : List A) (d : A) → ((i j : ℕ) → i < j → j < length l → get_or l i d ≡ get_or l j d → ⊥) → NoDup l
apart_nodup [] d h = tt
apart_nodup (x ∷ xs) d h = (
  (λ m. let (k, b, e) = in_get_d xs x d m in h 0 (suc k) (omega arith) (omega arith) (sym e)),
  apart_nodup xs d (λ i j a b e. h (suc i) (suc j) (omega arith) (omega arith) e),
)

-- ---- the steps of the code

module _ (l : List ℕ) (from n : ℕ) where
  -- before the first byte
  pub seen_none : Seen l from n 0 (replicate 256 false)
  seen_none = record {
    size = length-replicate {A = Bool} 256 false;
    small = λ i h. absurd (omega arith);
    apart = λ i j h g e. omega arith;
    on = λ i h. absurd (omega arith);
    only = λ v h. absurd (none v h);
  }
    where
      none : (v : ℕ) → get_or (replicate 256 false) v false ≡ true → ⊥
      none v h =
          le_or 256 v
          (λ b. clash h (get_or-eq_default (replicate 256 false) false (subst (λ z. z ≤ v) (sym (length-replicate {A = Bool} 256 false)) b)))
          (λ b. clash h (get_or-replicate {A = Bool} 256 v false false b))

  -- one byte more, a place that did not stand before
  pub seen_more : (k v : ℕ) (g r : List Bool) → Seen l from n k g → v ≡ get_or l (from + k) 0 → v < 256 → v < n → get_or g v false ≡ false → r ≡ set g v true → Seen l from n (k + 1) r
  seen_more k v g r h e b m f d = subst (Seen l from n (k + 1)) (sym d) (record {
    size = length-set g v true ∙ h.size;
    small = λ i j. same_or i k (λ x. subst (λ z. z < n) (e ∙ sym (at i x)) m) (λ x. h.small i (omega arith));
    apart = λ i j x y z. same_or j k (λ w. clash (subst (λ u. get_or g u false ≡ true) (z ∙ (at j w ∙ sym e)) (h.on i (omega arith))) f) (λ w. h.apart i j x (omega arith) z);
    on = λ i j. same_or i k (λ x. subst (λ u. get_or (set g v true) u false ≡ true) (e ∙ sym (at i x)) here) (λ x. keeps (get_or l (from + i) 0) (h.on i (omega arith)));
    only = λ u y. same_or u v (λ x. (k, omega arith, sym e ∙ sym x)) (λ x. let (i, p, q) = h.only u (sym (get_or-set_other g v u true false x) ∙ y) in (i, omega arith, q));
  })
    where
      at : (i : ℕ) → i ≡ k → get_or l (from + i) 0 ≡ get_or l (from + k) 0
      at i x = ap (λ z. get_or l (from + z) 0) x

      here : get_or (set g v true) v false ≡ true
      here = get_or-set_same g v true false (omega (arith, b, h.size))

      keeps : (u : ℕ) → get_or g u false ≡ true → get_or (set g v true) u false ≡ true
      keeps u y = same_or u v (λ x. subst (λ z. get_or (set g v true) z false ≡ true) (sym x) here) (λ x. get_or-set_other g v u true false x ∙ y)

  -- the list that is tested
  abbrev part : List ℕ
  part = take n (drop from l)

  pub part_at : (i : ℕ) → i < n → get_or part i 0 ≡ get_or l (from + i) 0
  part_at i h = get_or-take n (drop from l) i 0 h ∙ get_or-drop from l i 0

  -- it is too short
  pub each_short : length l - from < n → false ≡ each_once n part
  unfolding each_once
  each_short h = sym (and_no _ (ne_eqb (length part) n (λ e. omega (arith, h, e, length-take n (drop from l), length-drop from l))))

  module _ (room : n ≤ length l - from) where
    part_length : length part ≡ n
    part_length = omega (arith, room, length-take n (drop from l), length-drop from l)

    -- a byte that is no place
    pub each_large : (k v : ℕ) → k < n → v ≡ get_or l (from + k) 0 → n ≤ v → false ≡ each_once n part
    each_large k v h e m =
        by_test (each_once n part)
        (λ t. absurd (omega (arith, e, m, each_below n part t (get_or l (from + k) 0) (subst (λ x. Memᴰ x part) (part_at k h) (get_d_in part k 0 (omega (arith, h, part_length)))))))
        sym

    -- a place that stood before
    pub each_again : (k v : ℕ) (g : List Bool) → Seen l from n k g → k < n → v ≡ get_or l (from + k) 0 → get_or g v false ≡ true → false ≡ each_once n part
    each_again k v g h m e t = by_test (each_once n part) (λ y. absurd (go y (h.only v t))) sym
      where
        go : each_once n part ≡ true → (i : ℕ) × (i < k) × (get_or l (from + i) 0 ≡ v) → ⊥
        go y (i, p, q) =
            let x : i ≡ k = get_d_apart part 0 (each_nodup n part y) i k (omega (arith, p, m, part_length)) (omega (arith, m, part_length)) (part_at i (omega arith) ∙ (q ∙ (e ∙ sym (part_at k m)))) in
            omega arith

    -- all bytes
    pub each_all : (k : ℕ) (g : List Bool) → Seen l from n k g → n ≤ k → true ≡ each_once n part
    each_all k g h m =
        sym (each_intro n part part_length (λ v i. small v (in_get_d part v 0 i))
        (apart_nodup part 0 (λ i j x y e. let z : j < n = omega (arith, y, part_length) in h.apart i j x (omega arith) (sym (part_at i (omega arith)) ∙ (e ∙ part_at j z)))))
      where
        small : (v : ℕ) → (j : ℕ) × (j < length part) × (get_or part j 0 ≡ v) → v < n
        small v (j, p, q) = let z : j < n = omega (arith, p, part_length) in subst (λ x. x < n) (sym (part_at j z) ∙ q) (h.small j (omega arith))

-- a right list is there
pub each_fits : (l : List ℕ) (from n : ℕ) (b : Bool) → from ≤ length l → b ≡ each_once n (take n (drop from l)) → b ≡ true → from + n ≤ length l
each_fits l from n b h e t = omega (arith, h, each-length n (take n (drop from l)) (sym e ∙ t), length-take n (drop from l), length-drop from l)

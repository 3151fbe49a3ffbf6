-- The marked places of a round, picked one after another by rising digest (02: N4).
use Prim.Native.Nat.{ℕ, zero, suc, ◌+◌, ◌-◌, ◌<◌, ◌≤◌}
use Rattle.std.specs.Prelude.{◌≡◌, ◌↔◌, Bool, true, false, drop}
use Rattle.std.proofs.Math.Path.{refl, sym, ap}
use Rattle.std.proofs.Common.{◌∙◌, arith, add_assoc, add-zero, add-suc, length-drop, drop-drop, get_or-drop}
use mathlib.Core.List.{List, [], ◌∷◌, ◌++◌, append_assoc, append-nil}
use Rattle.std.proofs.Math.ListN.{length, get_or}
use Rattle.laws.specs.Test.{same_or}
use Rattle.laws.specs.Lists.{up_to}
use Rattle.laws.specs.Scan.{first, first_is, first-le, first_hit, first_miss}
use Rattle.models.specs.Tables.{place_at}
use Rattle.back_history.specs.Refines.{one, picked}
use Rattle.back_order.specs.Linked.{linked_by}

-- the place at this position is marked
abbrev pub marked_at : List ℕ → List Bool → ℕ → Bool
marked_at os m i = get_or m (place_at os i) false

-- the first marked position from `at` on, or `high`
unfoldable pub pick_from : List ℕ → List Bool → ℕ → ℕ → ℕ
pick_from os m at high = at + first (λ k. marked_at os m (at + k)) (high - at)

-- the marked places from position p on
abbrev pub left_by : List ℕ → List Bool → ℕ → ℕ → List ℕ
left_by os m high p = linked_by os m p (high - p)

-- p is the position of rank k in the run from low to high
pub record Rank (os : List ℕ) (m : List Bool) (low high k p : ℕ) : Type 0 where
  pub within : p < high
  pub rest : drop k (left_by os m high low) ≡ place_at os p ∷ left_by os m high (p + 1)

module _ (os : List ℕ) (m : List Bool) where
  -- positions in two parts
  pub linked_split : (low i k : ℕ) → linked_by os m low (i + k) ≡ linked_by os m low i ++ linked_by os m (low + i) k
  unfolding linked_by picked up_to
  linked_split low i zero = ap (linked_by os m low) (add-zero i) ∙ sym (append-nil (linked_by os m low i))
  linked_split low i (suc k) =
      let last : ℕ → List ℕ = λ x. one (marked_at os m x) (place_at os x) in
      ap (linked_by os m low) (add-suc i k)
      ∙ (ap (λ l. l ++ last (low + (i + k))) (linked_split low i k)
      ∙ (ap (λ x. linked_by os m low i ++ linked_by os m (low + i) k ++ last x) (sym (add_assoc low i k))
      ∙ append_assoc (linked_by os m low i) (linked_by os m (low + i) k) (last (low + i + k))))

  -- no position is marked
  linked-none : (p k : ℕ) → ((j : ℕ) → j < k → marked_at os m (p + j) ≡ false) → linked_by os m p k ≡ []
  unfolding linked_by picked up_to one
  linked-none p zero h = refl
  linked-none p (suc k) h = rw (h k (omega arith), linked-none p k (λ j l. h j (omega arith))) refl

  -- one position
  linked-one : (p : ℕ) → marked_at os m p ≡ true → linked_by os m p 1 ≡ place_at os p ∷ []
  unfolding linked_by picked up_to one
  linked-one p h = ap (λ x. one (marked_at os m x) (place_at os x)) (add-zero p) ∙ ap (λ b. one b (place_at os p)) h

  module _ (high at : ℕ) (l : at ≤ high) where
    -- the position picked
    abbrev next : ℕ
    next = pick_from os m at high

    -- how many are passed over
    abbrev passed : ℕ
    passed = first (λ k. marked_at os m (at + k)) (high - at)

    -- it is at most `high`
    pub pick_most : next ≤ high
    unfolding pick_from
    pick_most = omega (arith, l, first-le (λ k. marked_at os m (at + k)) (high - at))

    -- the place picked, then those from the position after it
    pub pick_next : next < high → left_by os m high at ≡ place_at os next ∷ left_by os m high (next + 1)
    unfolding pick_from
    pick_next h =
        ap (linked_by os m at) parts
        ∙ (linked_split at passed (1 + (high - (next + 1)))
        ∙ (ap (λ x. x ++ linked_by os m next (1 + (high - (next + 1)))) (linked-none at passed (first_miss (λ k. marked_at os m (at + k)) (high - at)))
        ∙ (linked_split next 1 (high - (next + 1)) ∙ ap (λ x. x ++ left_by os m high (next + 1)) (linked-one next (first_hit (λ k. marked_at os m (at + k)) (high - at) (omega (arith, h)))))))
      where
        parts : high - at ≡ passed + (1 + (high - (next + 1)))
        parts = omega (arith, h)

    -- "none exactly when all are"
    pub pick_end : (next ≡ high) ↔ (left_by os m high at ≡ [])
    unfolding pick_from
    pick_end = (
      (λ e. linked-none at (high - at) (λ j k. first_miss (λ k. marked_at os m (at + k)) (high - at) j (omega (arith, e, l, k)))),
      λ e. same_or next high (λ d. d) (λ d. absurd (nonempty (sym (pick_next (omega (arith, d, pick_most))) ∙ e))),
    )
      where
        nonempty : {x : ℕ} {xs : List ℕ} → x ∷ xs ≡ [] → ⊥
        nonempty e = omega (arith, ap length e)

    -- a place is left: one is picked
    pick_some : 0 < length (left_by os m high at) → next < high
    pick_some h = same_or next high (λ e. absurd (omega (arith, h, ap length (pick_end.0 e)))) (λ d. omega (arith, d, pick_most))

  -- ---- the steps of the code

  -- no position before is marked, and this one is
  pub passed_here : (at high k q r : ℕ) → k < high - at → q ≡ place_at os (at + k) → ((j : ℕ) → j < k → marked_at os m (at + j) ≡ false) → get_or m q false ≡ true → r ≡ at + k → r ≡ pick_from os m at high
  unfolding pick_from
  passed_here at high k q r l e miss hit d =
      d ∙ ap (λ x. at + x) (sym (first_is (λ k. marked_at os m (at + k)) (high - at) k (omega arith) miss (λ a. ap (λ x. get_or m x false) (sym e) ∙ hit)))

  -- none is
  pub passed-all : (at high k : ℕ) → at ≤ high → high - at ≤ k → ((j : ℕ) → j < k → marked_at os m (at + j) ≡ false) → high ≡ pick_from os m at high
  unfolding pick_from
  passed-all at high k l g miss =
      let e = first_is (λ k. marked_at os m (at + k)) (high - at) (high - at) (omega arith) (λ j a. miss j (omega arith)) (λ a. absurd (omega arith)) in
      omega (arith, e, l)

  module _ (low high : ℕ) where
    -- the next pick, while places are left
    rank_pick : (k at p : ℕ) → at ≤ high → drop k (left_by os m high low) ≡ left_by os m high at → k < length (left_by os m high low) → p ≡ pick_from os m at high → Rank os m low high k p
    rank_pick k at p l e h is = rw is (record { within = some; rest = e ∙ pick_next high at l some })
      where
        some : pick_from os m at high < high
        some = pick_some high at l (omega (arith, h, ap length e, length-drop k (left_by os m high low)))

    -- the first one
    pub rank_first : (v p : ℕ) → low ≤ high → v < length (left_by os m high low) → p ≡ pick_from os m low high → Rank os m low high 0 p
    rank_first v p l h is = rank_pick 0 low p l refl (omega arith) is

    -- one more
    pub rank_more : (v k p r : ℕ) → Rank os m low high k p → k < v → v < length (left_by os m high low) → r ≡ pick_from os m (p + 1) high → Rank os m low high (k + 1) r
    rank_more v k p r h a b is =
        rank_pick (k + 1) (p + 1) r (omega (arith, h.within)) (sym (drop-drop 1 k (left_by os m high low)) ∙ ap (drop 1) h.rest) (omega arith) is

    -- the place of that rank
    pub rank_end : (v k p q : ℕ) → Rank os m low high k p → k ≡ v → q ≡ place_at os p → q ≡ get_or (left_by os m high low) v 0
    rank_end v k p q h e is =
        is ∙ (ap (λ x. get_or x 0 0) (sym h.rest) ∙ (get_or-drop k (left_by os m high low) 0 0 ∙ ap (λ x. get_or (left_by os m high low) x 0) (add-zero k ∙ e)))

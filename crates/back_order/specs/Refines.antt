-- The marked places of a round are the points of it that an anchor needs, by rising digest, and right lists make them come out in one
-- order (01: back.rs, 'History'; 02: N1).
use Prim.Native.Nat.{ℕ, zero, suc, ◌+◌, ◌-◌, ◌<◌, ◌≤◌}
use Rattle.std.specs.Prelude.{◌≡◌, Bool, true, false, take}
use Rattle.std.proofs.Math.Path.{refl, sym, ap, ap₂, subst}
use Rattle.std.proofs.Common.{◌∙◌, add-one, drop-drop}
use mathlib.Core.List.{List, ◌∷◌, ◌++◌, map, reverse, Memᴰ}
use Rattle.std.proofs.Math.Bool.{not}
use Rattle.std.proofs.Math.Logic.{⊎_elim}
use native.Mathlib.Omega.{arith}
use Rattle.std.proofs.Math.ListN.{length, get_or, drop}
use Rattle.laws.specs.Test.{le_or, and_l}
use Rattle.laws.specs.Lists.{Pairs, weigh, keep_same, mem_map, get_d_in}
use Rattle.spec.specs.History.{needed, in_history, linked_in, down_from, rounds_of, counts_in, linked_counts, each_once, lists_ok, round_out, drawn, in_order, after_lists, lowest}
use Rattle.spec.proofs.OrderInRound.{linked_elim, linked_intro, linked-rises as needed_rise, each_below, lists_head, drawn_elim}
use Rattle.spec.specs.Store as store
use Rattle.spec.specs.Store.{Store, id_at}
use Rattle.models.specs.Digest.{Fit}
use Rattle.models.specs.Tables.{round_at, place_at, Used}
use Rattle.commit_state.specs.declared.state.State.{State}
use Rattle.tables_test.specs.View.{view}
use Rattle.tables_test.specs.Whole.{places_is}
use Rattle.tables_test.specs.Refines.{Started}
use Rattle.dag_round_order.specs.Span.{below, below-le, below_low, below_high, span-round}
use Rattle.back_history.specs.RefinesNeeded.{lowest_of, marks_of, used_named, used_round, used_done, lowest_is, low_is, high_is, needed_elim, needed_intro}
use Rattle.back_history.specs.Refines.{ordered_one, picked_elim, picked_intro, picked_pairs, well, ids_rise}
use Rattle.back_order.specs.Linked.{linked_by}
use Rattle.back_order.specs.Counts.{count_by, counts_by}
use Rattle.back_order.specs.Drawn.{out_by, ranks_by, drawn_by}

module _ (s : State) (ks ls cs os : List ℕ) (fk : Fit ks) (fl : Fit ls) (t : Started s ks ls cs os) (a : ℕ) (used : Used os s.count a) where
  -- the store
  abbrev v : Store
  v = view s ks ls cs os

  -- the number of used places
  abbrev n : ℕ
  n = s.count

  -- the marks
  abbrev m : List Bool
  m = marks_of s ks ls cs os a

  -- a needed point stands at a used place
  needed_used : (q : ℕ) → needed v a q ≡ true → Used os n q
  needed_used q h = let (o, (i, l, b, d)) = needed_elim s ks ls cs os fk fl t a used q h in (i, omega (arith, b, below-le ks os n (round_at ks a + 1)), d)

  module _ (r : ℕ) where
    -- the first position of the round
    abbrev low : ℕ
    low = below ks os n r

    -- the first above it
    abbrev high : ℕ
    high = below ks os n (r + 1)

    -- the order of the digests
    abbrev upward : ℕ → ℕ → Type 0
    upward p q = (id_at v p).digest < (id_at v q).digest

    -- a needed point stands at a position, and is marked
    at_elim : (q : ℕ) → Memᴰ q (linked_in v a r) → (i : ℕ) × (i < n) × (place_at os i ≡ q) × (get_or m q false ≡ true) × (round_at ks q ≡ r)
    at_elim q k =
        let (z, h, e) = linked_elim v a r q k in
        let (i, l, d) = needed_used q h in
        (i, l, d, (needed_elim s ks ls cs os fk fl t a used q h).0, sym (used_round s ks ls cs os fk fl t q (i, l, d)) ∙ e)

    -- one of the round's
    list_elim : (q : ℕ) → Memᴰ q (linked_in v a r) → Memᴰ q (linked_by os m low (high - low))
    unfolding linked_by
    list_elim q k =
        let (i, l, e, o, d) = at_elim q k in
        let is : round_at ks (place_at os i) ≡ r = ap (round_at ks) e ∙ d in
        let lo : low ≤ i = le_or low i (λ x. x) (λ x. absurd (omega (arith, is, below_low ks os n r i x))) in
        let hi : i < high = le_or high i (λ x. absurd (omega (arith, is, below_high ks os n (r + 1) i t.facts.sorted x l))) (λ x. x) in
        let back : low + (i - low) ≡ i = omega arith in
        let is_at : place_at os (low + (i - low)) ≡ q = ap (place_at os) back ∙ e in
        subst (λ x. Memᴰ x (linked_by os m low (high - low))) is_at (picked_intro os (λ q. get_or m q false) low (high - low) (i - low) (omega arith) (ap (λ x. get_or m x false) is_at ∙ o))

    -- the round at one of its positions, in the store
    round_is : (i : ℕ) → low ≤ i → i < high → store.round_at v (place_at os i) ≡ r
    round_is i l h = used_round s ks ls cs os fk fl t (place_at os i) (i, omega (arith, h, below-le ks os n (r + 1)), refl) ∙ span-round ks os n r i t.facts.sorted l h

    -- the marked places rise by digest
    linked-rises : Pairs upward (linked_by os m low (high - low))
    unfolding linked_by
    linked-rises =
        picked_pairs upward os (λ q. get_or m q false) low (high - low)
        (λ i j l k. ⊎_elim
        (λ h. absurd (omega (arith, h, round_is (low + i) (omega arith) (omega arith), round_is (low + j) (omega arith) (omega arith))))
        (λ h. h.1) (ids_rise s ks ls cs os fk fl t (low + i) (low + j) (omega arith) (omega (arith, k, below-le ks os n (r + 1)))))

    module _ (lo : lowest_of s (round_at ks a) ≤ r) (hi : r ≤ round_at ks a) where
      -- a marked place of the round is needed
      list_intro : (q : ℕ) → Memᴰ q (linked_by os m low (high - low)) → Memᴰ q (linked_in v a r)
      unfolding linked_by
      list_intro q k =
          let (j, l, e, o) = picked_elim os (λ q. get_or m q false) low (high - low) q k in
          let h : low + j < high = omega arith in
          let u : low + j < n = omega (arith, h, below-le ks os n (r + 1)) in
          let is : round_at ks (place_at os (low + j)) ≡ r = span-round ks os n r (low + j) t.facts.sorted (omega arith) h in
          subst (λ x. Memᴰ x (linked_in v a r)) (sym e)
          (linked_intro v a r (place_at os (low + j))
          (subst (λ x. place_at os (low + j) < x) (sym (places_is s ks ls cs os fk fl t.shaped)) (t.facts.inside (low + j) u))
          (needed_intro s ks ls cs os fk fl t a used (low + j) (low_is s ks ls cs os fk fl t a used (low + j) u (omega (arith, is, lo))) (high_is s ks ls cs os fk fl t a used (low + j) u (omega (arith, is, hi))) o)
          (round_is (low + j) (omega arith) h))

      -- the needed points of the round
      pub linked_is : linked_in v a r ≡ linked_by os m low (high - low)
      linked_is = ordered_one upward (λ p q x y. omega (arith, x, y)) (linked_in v a r) (linked_by os m low (high - low)) (needed_rise v (well s ks ls cs os fk fl t) a (used_named s ks ls cs os fk fl t a used) r) linked-rises list_elim list_intro

      -- how many they are
      pub count_is : count_by ks os n m r ≡ length (linked_in v a r)
      unfolding count_by
      count_is = ap length (sym linked_is)

    -- what a right list makes of its points: their committed marks are those of the words
    out_is : (l : List ℕ) → each_once (length (linked_in v a r)) l ≡ true → out_by cs (linked_in v a r) l ≡ round_out v (linked_in v a r) l
    unfolding out_by round_out
    out_is l ok =
        ap reverse (keep_same _ _ (map (λ k. get_or (linked_in v a r) k 0) l) (λ q k.
        let (i, j, e) = mem_map (λ k. get_or (linked_in v a r) k 0) l q k in
        let (z, h, d) = linked_elim v a r q (subst (λ x. Memᴰ x (linked_in v a r)) e (get_d_in (linked_in v a r) i 0 (each_below (length (linked_in v a r)) l ok i j))) in
        ap not (sym (used_done s ks ls cs os fk fl t q (needed_used q h)))))

  -- the counts of k rounds from r down
  counts_same : (r k : ℕ) → r ≤ round_at ks a → k ≤ suc r - lowest_of s (round_at ks a) → counts_by ks os n m (down_from r k) ≡ counts_in v a (down_from r k)
  unfolding down_from
  counts_same r zero h l = refl
  counts_same r (suc k) h l =
      ap (λ x. x ∷ counts_by ks os n m (down_from (r - 1) k)) (count_is r (omega arith) h)
      ∙ ap (λ x. length (linked_in v a r) ∷ x) (counts_same (r - 1) k (omega arith) (omega arith))

  -- their points, by right lists
  drawn-same : (r k : ℕ) (l : List ℕ) → r ≤ round_at ks a → k ≤ suc r - lowest_of s (round_at ks a) → lists_ok (counts_in v a (down_from r k)) l ≡ true → drawn_by ks os n cs m (down_from r k) l ≡ drawn v a (down_from r k) l
  unfolding down_from drawn_by drawn
  drawn-same r zero l h b ok = refl
  drawn-same r (suc k) l h b ok =
      let c : ℕ = length (linked_in v a r) in
      let rs : List ℕ = down_from (r - 1) k in
      let (x, y) = lists_head c (counts_in v a rs) l ok in
      ap (λ z. drawn_by ks os n cs m rs (drop z l) ++ out_by cs (ranks_by ks os n m r) (take z l)) (count_is r (omega arith) h)
      ∙ (ap (λ z. drawn_by ks os n cs m rs (drop c l) ++ out_by cs z (take c l)) (sym (linked_is r (omega arith) h))
      ∙ ap₂ ◌++◌ (drawn-same (r - 1) k (drop c l) (omega arith) (omega arith) y) (out_is r (take c l) x))

  -- the number of rounds of its history
  abbrev total : ℕ
  total = round_at ks a + 1 - lowest_of s (round_at ks a)

  -- they lie in it
  all : total ≤ suc (round_at ks a) - lowest_of s (round_at ks a)
  all = omega arith

  -- the rounds of its history
  rounds_are : down_from (round_at ks a) total ≡ rounds_of v a
  rounds_are =
      ap (λ x. down_from (round_at ks a) (x - lowest_of s (round_at ks a))) (add-one (round_at ks a))
      ∙ (ap (λ x. down_from (round_at ks a) (suc (round_at ks a) - x)) (sym (lowest_is s ks ls cs os fk fl t a used))
      ∙ ap (λ x. down_from x (suc x - lowest v a)) (sym (used_round s ks ls cs os fk fl t a used)))

  -- how many points each of them has
  pub counts_are : counts_by ks os n m (down_from (round_at ks a) (round_at ks a + 1 - lowest_of s (round_at ks a))) ≡ linked_counts v a
  counts_are = counts_same (round_at ks a) total (omega arith) all ∙ ap (counts_in v a) rounds_are

  -- what the lists of this anchor leave
  pub rest_is : (l : List ℕ) (from end : ℕ) → end ≡ from + weigh (λ x. x) (counts_by ks os n m (down_from (round_at ks a) (round_at ks a + 1 - lowest_of s (round_at ks a)))) → drop end l ≡ after_lists v a (drop from l)
  unfolding after_lists
  rest_is l from end e = ap (λ x. drop x l) (e ∙ ap (λ x. from + weigh (λ y. y) x) counts_are) ∙ sym (drop-drop (weigh (λ y. y) (linked_counts v a)) from l)

  module _ (l : List ℕ) (ok : lists_ok (linked_counts v a) l ≡ true) where
    -- the points of its history in the order in which they come out
    pub drawn_is : drawn_by ks os n cs m (down_from (round_at ks a) (round_at ks a + 1 - lowest_of s (round_at ks a))) l ≡ drawn v a (rounds_of v a) l
    drawn_is =
        drawn-same (round_at ks a) total l (omega arith) all (ap (λ x. lists_ok (counts_in v a x) l) rounds_are ∙ ok)
        ∙ ap (λ x. drawn v a x l) rounds_are

    -- their ids
    pub order_is : in_order v a l ≡ map (id_at v) (drawn_by ks os n cs m (down_from (round_at ks a) (round_at ks a + 1 - lowest_of s (round_at ks a))) l)
    unfolding in_order
    order_is = ap (map (id_at v)) (sym drawn_is)

    -- each is of the history, so it stands at a used place
    pub drawn_in : (q : ℕ) → Memᴰ q (drawn_by ks os n cs m (down_from (round_at ks a) (round_at ks a + 1 - lowest_of s (round_at ks a))) l) → in_history v a q ≡ true
    drawn_in q k = (drawn_elim v a (rounds_of v a) l ok q (subst (Memᴰ q) drawn_is k)).1

    pub drawn_used : (q : ℕ) → Memᴰ q (drawn_by ks os n cs m (down_from (round_at ks a) (round_at ks a + 1 - lowest_of s (round_at ks a))) l) → Used os n q
    unfolding in_history
    drawn_used q k = needed_used q (and_l _ _ (drawn_in q k))

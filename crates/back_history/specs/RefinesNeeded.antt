-- What the sweep marks is what the anchor needs (01: back.rs, 'History').
use Prim.Native.Nat.{ℕ, zero, suc, ◌+◌, ◌-◌, ◌<◌, ◌≤◌, max}
use Rattle.std.specs.Prelude.{◌≡◌, List, Bool, true, length, get_or}
use Rattle.std.proofs.Math.Path.{refl, ap, subst}
use Rattle.std.proofs.Common.{sym, ◌∙◌}
use Rattle.std.proofs.Math.Bool.{false}
use Rattle.std.proofs.Math.Logic.{⊎_elim}
use native.Mathlib.Omega.{arith}
use borrow.Author.Tests.{not-true, leb-true}
use Rattle.laws.specs.Test.{by_test, clash, both, and_l, and_r, not_no, same_or, le_or}
use Rattle.spec.specs.Store as store
use Rattle.spec.specs.Store.{Point, Store}
use Rattle.spec.specs.Paths.{LinkedTo, height}
use Rattle.spec.specs.Links.{linked, down}
use Rattle.spec.specs.HeightEquations.{Sized}
use Rattle.spec.specs.History.{limit, lowest, Need, anchor, hand, needed}
use Rattle.spec.proofs.Sweep.{needed_is}
use Rattle.spec.specs.Order.{need_named}
use Rattle.models.specs.Cert.{height_of}
use Rattle.models.specs.Digest.{Fit}
use Rattle.models.specs.Tables.{round_at, status_at, place_at, Used}
use Rattle.dag_round_keys.specs.Sorted.{rounds_rise}
use Rattle.models.specs.Live.{reach}
use Rattle.tables_heights.specs.Refines.{Leads}
use Rattle.tables_links.specs.Named.{links_fall}
use Rattle.commit_state.specs.View.{point_at, conf_of}
use Rattle.commit_state.specs.Numbers.{rounds_hold, range_holds}
use Rattle.commit_state.specs.declared.state.State.{State}
use Rattle.tables_test.specs.Model.{places_says}
use Rattle.tables_test.specs.View.{view, seen_at}
use Rattle.tables_test.specs.Whole as whole
use Rattle.tables_test.specs.Heights as heights_are
use Rattle.tables_test.specs.Refines.{Started}
use Rattle.dag_round_order.specs.Span.{below, below-le, below_low, below_high}
use Rattle.back_history.specs.Down.{down_from}
use Rattle.back_history.specs.Model.{limit_of, is_done, is_uncommitted, hand_on, swept, swept-length, alone, marks}
use Rattle.back_history.specs.Marks.{On, marked-keeps, marked_sets, marked-only, swept_keeps, alone-length, alone_on, alone-only}

-- the lowest round of the history of an anchor of round r
abbrev pub lowest_of : State → ℕ → ℕ
lowest_of s r = max (limit_of s.genesis.0 s.commit_history_rounds r) s.bottom.0

-- the first position of those rounds
abbrev pub low_of : State → List ℕ → List ℕ → ℕ → ℕ
low_of s ks os a = below ks os s.count (lowest_of s (round_at ks a))

-- the first position above the anchor's round
abbrev pub high_of : State → List ℕ → List ℕ → ℕ → ℕ
high_of s ks os a = below ks os s.count (round_at ks a + 1)

-- the marks between them
abbrev pub marks_of : State → List ℕ → List ℕ → List ℕ → List ℕ → ℕ → List Bool
marks_of s ks ls cs os a = marks s.bottom.0 ks ls cs os (low_of s ks os a) (high_of s ks os a) a

module _ (s : State) (ks ls cs os : List ℕ) (fk : Fit ks) (fl : Fit ls) (t : Started s ks ls cs os) where
  -- the store
  abbrev v : Store
  v = view s ks ls cs os

  -- the number of used places
  abbrev n : ℕ
  n = s.count

  -- the bottom
  abbrev b : ℕ
  b = s.bottom.0

  -- at most 4,096 places
  small : length os ≤ 4096
  small = places_says _ t.places_ok

  -- a place is read by its words, if it is used
  sees : (q : ℕ) → v.pt q ≡ seen_at ks ls cs os n q
  unfolding view
  sees q = refl

  -- the store has points at its places only
  sized : Sized v
  sized = whole.sized s ks ls cs os fk fl t.shaped t.facts.inside

  -- used places are of retained rounds
  low_round : (q : ℕ) → Used os n q → b ≤ round_at ks q
  low_round = whole.low_of_lem s ks ls cs os fk fl t.shaped t.facts.ids

  -- and have statuses that 01 has
  fine : (q : ℕ) → Used os n q → status_at ks q ≤ 5
  fine q u = (t.facts.words q u).named.status

  -- a used place is a named one
  pub named_used : (q : ℕ) → (v.pt q).named ≡ true → Used os n q
  named_used = heights_are.named_used b n ks ls cs os t.facts.sorted t.facts.right low_round fine fk fl v sized sees

  -- its point is that of its words
  pub used_point : (q : ℕ) → Used os n q → v.pt q ≡ point_at ks ls cs q
  used_point = heights_are.used_point b n ks ls cs os t.facts.sorted t.facts.right low_round fine fk fl v sized sees

  -- it is named
  pub used_named : (q : ℕ) → Used os n q → (v.pt q).named ≡ true
  used_named = heights_are.used_named b n ks ls cs os t.facts.sorted t.facts.right low_round fine fk fl v sized sees

  -- its round
  pub used_round : (q : ℕ) → Used os n q → store.round_at v q ≡ round_at ks q
  used_round = heights_are.used_round b n ks ls cs os t.facts.sorted t.facts.right low_round fine fk fl v sized sees

  -- its committed bit
  pub used_done : (q : ℕ) → Used os n q → (v.pt q).flags.committed ≡ is_done cs q
  unfolding point_at
  used_done q u = ap (λ (p : Point). p.flags.committed) (used_point q u)

  -- its stored height is the one by paths
  pub used_height : (q : ℕ) → Used os n q → height_of (get_or cs q 0) ≡ height v q
  unfolding view conf_of height_of
  used_height q u = heights_are.heights_are_elim b n ks ls cs os t.facts.sorted t.facts.right low_round fine fk fl v sized sees t.facts.heights q u

  -- the links of points are the live links of their words
  pub leads-link : (p q : ℕ) → Leads b ks ls os n p q → LinkedTo v p q
  leads-link = heights_are.link_intro b n ks ls cs os t.facts.sorted t.facts.right low_round fine fk fl v sized sees

  pub link-leads : (p q : ℕ) → LinkedTo v p q → Leads b ks ls os n p q
  link-leads = heights_are.link_elim b n ks ls cs os t.facts.sorted t.facts.right low_round fine fk fl v sized sees

  -- a used place is one of 4,096
  pub used_small : (q : ℕ) → Used os n q → q < 4096
  used_small q (i, l, e) = omega (arith, t.facts.inside i l, small)

  -- a live link leads to a used place of a lower round
  falls : (p q : ℕ) → Leads b ks ls os n p q → Used os n q × (round_at ks q < round_at ks p)
  falls p q e = let (u, d) = links_fall b ks ls os n t.facts.right p e.which q e.from e.live e.to in (u, omega (arith, d))

  -- ---- the sweep finds only what is needed

  -- a place hands on to what is needed, if what is marked is needed
  hand_sound : (a : ℕ) (m : List Bool) (p : ℕ) → Used os n p → ((q : ℕ) → On m q → Need v a q) → (q : ℕ) → On (hand_on b ks ls cs m p) q → Need v a q
  unfolding hand_on is_uncommitted
  hand_sound a m p u h q o =
      by_test (is_uncommitted cs m p)
      (λ y. ⊎_elim (h q)
      (λ (j, l, e). hand p q (h p (and_l _ _ y)) (used_done p u ∙ not-true _ (and_r (get_or m p false) _ y))
      (leads-link p q (record { from = u; which = j; live = l; to = e })))
      (marked-only ls m p (reach b ks p) q (rw y at o)))
      (λ f. h q (rw f at o))

  -- so do positions
  swept_sound : (a : ℕ) (m : List Bool) (high k : ℕ) → high ≤ n → k ≤ high → ((q : ℕ) → On m q → Need v a q) → (q : ℕ) → On (swept b ks ls cs os m high k) q → Need v a q
  unfolding swept down_from
  swept_sound a m high zero l h g q o = g q o
  swept_sound a m high (suc k) l h g q o =
      hand_sound a (swept b ks ls cs os m high k) (place_at os (high - suc k)) (high - suc k, omega arith, refl) (swept_sound a m high k l (omega arith) g) q o

  -- ---- the sweep finds all that is needed

  -- the positions from low up have handed on their links
  abbrev Closed : ℕ → List Bool → ℕ → Type 0
  Closed high m low = (y q : ℕ) → low ≤ y → y < high → On m (place_at os y) → is_done cs (place_at os y) ≡ false → Leads b ks ls os n (place_at os y) q → On m q

  -- one position more
  hand_closed : (high : ℕ) → high ≤ n → (m : List Bool) → length m ≡ 4096 → (z : ℕ) → z < high → Closed high m (suc z) → Closed high (hand_on b ks ls cs m (place_at os z)) z
  unfolding hand_on is_uncommitted
  hand_closed high top m size z l c y q a h o d e =
      by_test (is_uncommitted cs m (place_at os z))
      (λ w. rw w (⊎_elim
      (λ g. same_or y z
      (λ f. let k : Leads b ks ls os n (place_at os z) q = subst (λ x. Leads b ks ls os n (place_at os x) q) f e in
      marked_sets ls m (place_at os z) (reach b ks (place_at os z)) k.which q size k.live k.to (used_small q (falls _ q k).0))
      (λ f. marked-keeps ls m (place_at os z) (reach b ks (place_at os z)) q (c y q (omega arith) h g d e)))
      (λ (j, r, f). absurd (let (u, less) = falls (place_at os z) (place_at os y) (record { from = (z, omega arith, refl); which = j; live = r; to = f }) in omega (arith, less, rounds_rise ks os n z y t.facts.sorted a (omega arith))))
      (marked-only ls m (place_at os z) (reach b ks (place_at os z)) (place_at os y) (rw w at o))))
      (λ w. rw w (let g : On m (place_at os y) = rw w at o in same_or y z
      (λ f. absurd (clash (both (subst (λ x. On m (place_at os x)) f g) (not_no (subst (λ x. is_done cs (place_at os x) ≡ false) f d))) w))
      (λ f. c y q (omega arith) h g d e)))

  -- k positions
  swept_closed : (high : ℕ) → high ≤ n → (m : List Bool) → length m ≡ 4096 → (k : ℕ) → k ≤ high → Closed high (swept b ks ls cs os m high k) (high - k)
  unfolding swept down_from
  swept_closed high top m size zero l = λ y q a h o d e. absurd (omega arith)
  swept_closed high top m size (suc k) l =
      hand_closed high top (swept b ks ls cs os m high k) (swept-length b ks ls cs os m high k ∙ size) (high - suc k) (omega arith)
      (λ y q a h o d e. swept_closed high top m size k (omega arith) y q (omega arith) h o d e)

  -- ---- the anchor a

  module _ (a : ℕ) (used : Used os n a) where
    -- what is needed is used, of no higher round
    need_used : (q : ℕ) → Need v a q → Used os n q × (round_at ks q ≤ round_at ks a)
    need_used q h = (named_used q (need_named v a q (used_named a used) h), go q h)
      where
        go : (q : ℕ) → Need v a q → round_at ks q ≤ round_at ks a
        go q anchor = omega arith
        go q (hand p x k d e) =
            let up = go p k in
            let u = named_used p (need_named v a p (used_named a used) k) in
            let w = named_used x (linked _ _ e).named_is in
            omega (arith, down v p x e, used_round p u, used_round x w)

    -- the lowest round, as the code has it
    pub lowest_is : lowest v a ≡ lowest_of s (round_at ks a)
    unfolding limit limit_of view conf_of
    lowest_is = ap (λ r. max (limit_of s.genesis.0 s.commit_history_rounds r) s.bottom.0) (used_round a used)

    -- genesis is not above the bottom
    genesis_low : s.genesis.0 ≤ b
    unfolding rounds_hold range_holds
    genesis_low = leb-true _ _ (and_l _ _ (and_l _ _ t.rounds_ok))

    -- the lowest round is at most one above the anchor
    low_enough : lowest v a ≤ suc (store.round_at v a)
    unfolding limit_of
    low_enough = omega (arith, lowest_is, used_round a used, low_round a used, genesis_low)

    -- the positions of the history
    abbrev low : ℕ
    low = low_of s ks os a

    -- the first position above it
    abbrev high : ℕ
    high = high_of s ks os a

    -- the marks
    abbrev m : List Bool
    m = marks_of s ks ls cs os a

    -- it is at most the number of used places
    high_le : high ≤ n
    high_le = below-le ks os n (round_at ks a + 1)

    -- rounds from the lowest up are positions from low up
    pub low_is : (i : ℕ) → i < n → lowest_of s (round_at ks a) ≤ round_at ks (place_at os i) → low ≤ i
    low_is i l h = le_or low i (λ k. k) (λ k. absurd (omega (arith, below_low ks os n (lowest_of s (round_at ks a)) i k)))

    -- and back
    pub low_back : (i : ℕ) → i < n → low ≤ i → lowest_of s (round_at ks a) ≤ round_at ks (place_at os i)
    low_back i l h = below_high ks os n (lowest_of s (round_at ks a)) i t.facts.sorted h l

    -- rounds up to the anchor's are positions below high
    pub high_is : (i : ℕ) → i < n → round_at ks (place_at os i) ≤ round_at ks a → i < high
    high_is i l h = le_or high i (λ k. absurd (omega (arith, below_high ks os n (round_at ks a + 1) i t.facts.sorted k l))) (λ k. k)

    -- the positions of the history are in order
    pub low_high : low ≤ high
    unfolding limit_of
    low_high =
        le_or low high (λ l. l)
        (λ l. let le = below-le ks os n (lowest_of s (round_at ks a)) in
        absurd (omega (arith, below_low ks os n (lowest_of s (round_at ks a)) high l, below_high ks os n (round_at ks a + 1) high t.facts.sorted (omega arith) (omega arith), low_round a used, genesis_low)))

    -- marked is needed
    pub marks_sound : (q : ℕ) → On m q → Need v a q
    unfolding marks
    marks_sound = swept_sound a (alone a) high (high - low) high_le (omega arith) (λ q o. subst (Need v a) (sym (alone-only a q o)) anchor)

    -- needed is marked
    pub marks_complete : (q : ℕ) → Need v a q → lowest_of s (round_at ks a) ≤ round_at ks q → On m q
    unfolding marks
    marks_complete q anchor l = swept_keeps b ks ls cs os (alone a) high (high - low) a (alone_on a (used_small a used))
    marks_complete q (hand p x k d e) l =
        let edge : Leads b ks ls os n p x = link-leads p x e in
        let less = (falls p x edge).1 in
        let o : On m p = marks_complete p k (omega arith) in
        go edge edge.from (sym (used_done p edge.from) ∙ d) o (need_used p k).1 (omega arith)
      where
        go : Leads b ks ls os n p x → Used os n p → is_done cs p ≡ false → On m p → round_at ks p ≤ round_at ks a → lowest_of s (round_at ks a) ≤ round_at ks p → On m x
        go edge (i, j, f) c o below up =
            swept_closed high high_le (alone a) (alone-length a) (high - low) (omega arith) i x
            (let y : low ≤ i = low_is i j (subst (λ z. lowest_of s (round_at ks a) ≤ round_at ks z) (sym f) up) in omega (arith, y, low_high))
            (high_is i j (subst (λ z. round_at ks z ≤ round_at ks a) (sym f) below))
            (subst (On m) (sym f) o) (subst (λ z. is_done cs z ≡ false) (sym f) c) (subst (λ z. Leads b ks ls os n z x) (sym f) edge)

    -- by position: the marked ones from low to high
    pub needed_elim : (q : ℕ) → needed v a q ≡ true → On m q × ((i : ℕ) × (low ≤ i) × (i < high) × (place_at os i ≡ q))
    needed_elim q h =
        let (k, l) = (needed_is v sized a q low_enough).0 h in
        let (u, up) = need_used q k in
        let lo : lowest_of s (round_at ks a) ≤ round_at ks q = subst (λ x. lowest_of s (round_at ks a) ≤ x) (used_round q u) (subst (λ x. x ≤ store.round_at v q) lowest_is l) in
        (marks_complete q k lo, go u up lo)
      where
        go : Used os n q → round_at ks q ≤ round_at ks a → lowest_of s (round_at ks a) ≤ round_at ks q → (i : ℕ) × (low ≤ i) × (i < high) × (place_at os i ≡ q)
        go (i, j, f) up lo = (i, low_is i j (subst (λ z. lowest_of s (round_at ks a) ≤ round_at ks z) (sym f) lo), high_is i j (subst (λ z. round_at ks z ≤ round_at ks a) (sym f) up), f)

    -- and back
    pub needed_intro : (i : ℕ) → low ≤ i → i < high → On m (place_at os i) → needed v a (place_at os i) ≡ true
    needed_intro i l h o =
        let u : Used os n (place_at os i) = (i, omega (arith, h, high_le), refl) in
        (needed_is v sized a (place_at os i) low_enough).1
        (marks_sound (place_at os i) o, subst (λ x. x ≤ store.round_at v (place_at os i)) (sym lowest_is) (subst (λ x. lowest_of s (round_at ks a) ≤ x) (sym (used_round (place_at os i) u)) (low_back i u.1 l)))

-- The places of a history by rising position are the history of document 01 (01: back.rs, 'History').
use Rattle.std.specs.Prelude.{ℕ, zero, suc, ◌+◌, ◌-◌, ◌<◌, ◌≤◌, ◌≡◌, refl, Bool, false, ◌&&◌, cond, get_or}
use Rattle.std.proofs.Common.{sym, subst, ◌∙◌, ⊎_elim, length-append}
use Rattle.std.proofs.Math.Path.{ap}
use mathlib.Core.List.Memᴰ
use mathlib.Core.List.{List, [], ◌∷◌, map, Memᴰ}
use Rattle.std.proofs.Math.Bool.{true, not}
use Rattle.std.proofs.Math.Logic.{inl, inr}
use native.Mathlib.Omega.{arith}
use Rattle.std.proofs.Math.Dec.{eqb}
use Rattle.std.proofs.Math.ListN.{length}
use Rattle.std.proofs.lemmas.List.{length-map}
use borrow.Author.Tests.{eqb-true, eq-eqb, ltb-true, ltb-false, le-ltb, not-true}
use Rattle.laws.specs.Test.{by_test, both, and_l, and_r, not_no, or_cases, same_test}
use Rattle.laws.specs.Scan.{any, any_elim, any_intro, those}
use Rattle.laws.specs.Lists.{Pairs, up_to, upto_in, upto_pairs, map_mem, mem_map, map_pairs}
use Rattle.spec.specs.Ids.{Id}
use Rattle.spec.specs.Store.{Point, Store, id_at}
use Rattle.spec.specs.Paths.{height}
use Rattle.spec.specs.History.{limit, needed, in_history, history, rounds_missing, any_uncertified}
use Rattle.spec.specs.Order.{Before}
use Rattle.spec.proofs.Order.{history_elim, history_intro, history-rises}
use Rattle.spec.specs.WellFormed.{Wf}
use Rattle.models.specs.Cert.{height_of}
use Rattle.models.specs.Digest.{Fit}
use Rattle.models.specs.Tables.{round_at, place_at, Used}
use Rattle.dag_round_keys.specs.Digest.{before_is}
use Rattle.commit_state.specs.View.{point_at, conf_of, progress_of}
use Rattle.commit_state.specs.declared.state.State.{State}
use Rattle.tables_test.specs.View.{view}
use Rattle.tables_test.specs.Whole.{places_is, facts_wf}
use Rattle.tables_test.specs.Refines.{Started}
use Rattle.dag_round_order.specs.Span.{below-le}
use Rattle.back_history.specs.Model.{limit_of, missing, is_uncommitted}
use Rattle.back_history.specs.RefinesNeeded.{low_of, high_of, marks_of, used_point, used_named, used_round, used_done, used_height, needed_elim, needed_intro}
use Rattle.back_history.specs.Picked.{uncommitted_at, is_low, uncertified_at}

-- two lists in one strict order with the same elements are one
pub ordered_one : {A : Type 0} (R : A → A → Type 0) → ((x y : A) → R x y → R y x → ⊥) → (xs ys : List A) → Pairs R xs → Pairs R ys
    → ((a : A) → Memᴰ a xs → Memᴰ a ys) → ((a : A) → Memᴰ a ys → Memᴰ a xs) → xs ≡ ys
ordered_one R asym [] [] p q f g = refl
ordered_one R asym [] (y ∷ ys) p q f g = absurd (Memᴰ.not-nil (g y (Memᴰ.head refl)))
ordered_one R asym (x ∷ xs) [] p q f g = absurd (Memᴰ.not-nil (f x (Memᴰ.head refl)))
ordered_one {A} R asym (x ∷ xs) (y ∷ ys) p q f g =
    rw (
      same,
      ordered_one R asym xs ys p.1 q.1
          (λ a m. rest a y ys (λ e. asym x a (p.0 a m) (subst (λ z. R z x) (sym (e ∙ sym same)) (subst (R x) (e ∙ sym same) (p.0 a m)))) (f a (Memᴰ.tail m)))
          (λ a m. rest a x xs (λ e. asym y a (q.0 a m) (subst (λ z. R z y) (sym (e ∙ same)) (subst (R y) (e ∙ same) (q.0 a m)))) (g a (Memᴰ.tail m))),
    ) refl
  where
    same : x ≡ y
    same = ⊎_elim (λ e. e) (λ m. ⊎_elim sym (λ k. absurd (asym x y (p.0 y k) (q.0 x m))) (Memᴰ.cases_cons (g y (Memᴰ.head refl)))) (Memᴰ.cases_cons (f x (Memᴰ.head refl)))

    rest : (a z : A) (zs : List A) → (a ≡ z → ⊥) → Memᴰ a (z ∷ zs) → Memᴰ a zs
    rest a z zs n m = ⊎_elim (λ e. absurd (n e)) (λ k. k) (Memᴰ.cases_cons m)

-- the place q, if it passes
unfoldable pub one : Bool → ℕ → List ℕ
one b q = cond b (q ∷ []) []

-- so it is q, and passes
one_elim : (b : Bool) (p q : ℕ) → Memᴰ q (one b p) → (b ≡ true) × (q ≡ p)
unfolding one
one_elim true p q m = (refl, ⊎_elim (λ e. e) (λ k. absurd (Memᴰ.not-nil k)) (Memᴰ.cases_cons m))
one_elim false p q m = absurd (Memᴰ.not-nil m)

-- one that passes is there
one_intro : (b : Bool) (q : ℕ) → b ≡ true → Memᴰ q (one b q)
unfolding one
one_intro b q e = rw e (Memᴰ.head refl)

-- the places that pass, of the k positions from low on
unfoldable pub picked : List ℕ → (ℕ → Bool) → ℕ → ℕ → List ℕ
picked os f low k = up_to k (λ j. one (f (place_at os (low + j))) (place_at os (low + j)))

-- each of them stands there and passes
pub picked_elim : (os : List ℕ) (f : ℕ → Bool) (low k q : ℕ) → Memᴰ q (picked os f low k) → (j : ℕ) × (j < k) × (q ≡ place_at os (low + j)) × (f (place_at os (low + j)) ≡ true)
unfolding picked
picked_elim os f low k q m = let (j, l, h) = (upto_in k _ q).0 m in let (t, e) = one_elim _ _ q h in (j, l, e, t)

-- each place that stands there and passes is one of them
pub picked_intro : (os : List ℕ) (f : ℕ → Bool) (low k j : ℕ) → j < k → f (place_at os (low + j)) ≡ true → Memᴰ (place_at os (low + j)) (picked os f low k)
unfolding picked
picked_intro os f low k j l h = (upto_in k _ _).1 (j, l, one_intro _ _ h)

-- each of them before each later one, in a relation that rises with positions
pub picked_pairs : (R : ℕ → ℕ → Type 0) (os : List ℕ) (f : ℕ → Bool) (low k : ℕ) → ((i j : ℕ) → i < j → j < k → R (place_at os (low + i)) (place_at os (low + j))) → Pairs R (picked os f low k)
unfolding picked one
picked_pairs R os f low k h =
    upto_pairs R k _ (λ i l. single (f (place_at os (low + i))) (place_at os (low + i)))
    (λ i j x y l m a b. subst (λ z. R z y) (sym (one_elim (f (place_at os (low + i))) (place_at os (low + i)) x a).1) (subst (R (place_at os (low + i))) (sym (one_elim (f (place_at os (low + j))) (place_at os (low + j)) y b).1) (h i j l m)))
  where
    single : (b : Bool) (q : ℕ) → Pairs R (one b q)
    single true q = ((λ y m. absurd (Memᴰ.not-nil m)), tt)
    single false q = tt

-- as many as positions pass
picked-count : (os : List ℕ) (f : ℕ → Bool) (low k : ℕ) → length (picked os f low k) ≡ length (those k (λ j. f (place_at os (low + j))))
unfolding picked up_to those one
picked-count os f low zero = refl
picked-count os f low (suc k) =
    let r : length (picked os f low k) ≡ length (those k (λ j. f (place_at os (low + j)))) = picked-count os f low k in
    by_test (f (place_at os (low + k)))
    (λ t. rw t (length-append (picked os f low k) (place_at os (low + k) ∷ []) ∙ omega (arith, r)))
    (λ e. rw e (length-append (picked os f low k) [] ∙ omega (arith, r)))

-- neither of two ids comes before the other and after it
pub before_asym : (x y : Id) → Before x y → Before y x → ⊥
before_asym x y (inl a) (inl c) = omega arith
before_asym x y (inl a) (inr c) = omega (arith, c.0)
before_asym x y (inr a) (inl c) = omega (arith, a.0)
before_asym x y (inr a) (inr c) = omega (arith, a.1, c.1)

module _ (s : State) (ks ls cs os : List ℕ) (fk : Fit ks) (fl : Fit ls) (t : Started s ks ls cs os) where
  -- the store
  abbrev v : Store
  v = view s ks ls cs os

  -- the number of used places
  abbrev n : ℕ
  n = s.count

  -- the tables keep the rules of 01
  pub well : Wf v
  well = facts_wf s ks ls cs os fk fl t.shaped t.regulated t.begun t.places_ok t.conf_ok t.rounds_ok t.facts

  -- ids rise with positions
  pub ids_rise : (i j : ℕ) → i < j → j < n → Before (id_at v (place_at os i)) (id_at v (place_at os j))
  unfolding point_at
  ids_rise i j l m =
      rw (ap (λ (p : Point). p.id) (used_point s ks ls cs os fk fl t (place_at os i) (i, omega arith, refl)), ap (λ (p : Point). p.id) (used_point s ks ls cs os fk fl t (place_at os j) (j, m, refl)))
      (⊎_elim (λ h. inl (ltb-true _ _ h)) (λ h. inr (eqb-true _ _ (and_l _ _ h), ltb-true _ _ (and_r (eqb (round_at ks (place_at os i)) (round_at ks (place_at os j))) _ h)))
      (or_cases _ _ (sym (before_is ks ks (place_at os i) (place_at os j) fk fk) ∙ t.facts.sorted i j l m)))

  module _ (a : ℕ) (used : Used os n a) where
    -- the first position of the history
    abbrev low : ℕ
    low = low_of s ks os a

    -- the first position above it
    abbrev high : ℕ
    high = high_of s ks os a

    -- the marks
    abbrev m : List Bool
    m = marks_of s ks ls cs os a

    -- the places of the history: those that are marked and not committed
    abbrev pub points_of : List ℕ
    points_of = picked os (is_uncommitted cs m) low (high - low)

    -- it is at most the number of used places
    high_le : high ≤ n
    high_le = below-le ks os n (round_at ks a + 1)

    -- a position counted from low on
    back : (i : ℕ) → low ≤ i → low + (i - low) ≡ i
    back i l = omega arith

    -- a point of the history stands at a position from low to high, marked and not committed
    pub in_elim : (q : ℕ) → in_history v a q ≡ true → (i : ℕ) × (low ≤ i) × (i < high) × (place_at os i ≡ q) × (is_uncommitted cs m q ≡ true)
    unfolding in_history is_uncommitted
    in_elim q h =
        let (o, (i, l, k, e)) = needed_elim s ks ls cs os fk fl t a used q (and_l _ _ h) in
        (i, l, k, e, both o (ap not (sym (used_done s ks ls cs os fk fl t q (i, omega (arith, k, high_le), e))) ∙ and_r (needed v a q) _ h))

    -- and back
    pub in_intro : (i : ℕ) → low ≤ i → i < high → is_uncommitted cs m (place_at os i) ≡ true → in_history v a (place_at os i) ≡ true
    unfolding in_history is_uncommitted
    in_intro i l h w =
        both (needed_intro s ks ls cs os fk fl t a used i l h (and_l _ _ w))
        (ap not (used_done s ks ls cs os fk fl t (place_at os i) (i, omega (arith, h, high_le), refl)) ∙ and_r (get_or m (place_at os i) false) _ w)

    -- the places found are points of the history
    points_elim : (q : ℕ) → Memᴰ q points_of → in_history v a q ≡ true
    points_elim q k = let (j, l, e, w) = picked_elim os (is_uncommitted cs m) low (high - low) q k in subst (λ x. in_history v a x ≡ true) (sym e) (in_intro (low + j) (omega arith) (omega arith) w)

    -- all points of the history are found
    points_intro : (q : ℕ) → in_history v a q ≡ true → Memᴰ q points_of
    points_intro q h =
        let (i, l, k, e, w) = in_elim q h in
        subst (λ x. Memᴰ x points_of) (ap (place_at os) (back i l) ∙ e)
        (picked_intro os (is_uncommitted cs m) low (high - low) (i - low) (omega arith) (subst (λ x. is_uncommitted cs m x ≡ true) (sym (ap (place_at os) (back i l) ∙ e)) w))

    -- the history of 01
    pub history_is : history v a ≡ map (id_at v) points_of
    history_is =
        ordered_one Before before_asym (history v a) (map (id_at v) points_of) (history-rises v well a there)
        (map_pairs (λ p q. Before (id_at v p) (id_at v q)) Before (id_at v) (λ x y h. h) points_of
        (picked_pairs (λ p q. Before (id_at v p) (id_at v q)) os (is_uncommitted cs m) low (high - low) (λ i j l k. ids_rise (low + i) (low + j) (omega arith) (omega (arith, high_le)))))
        (λ x k. let (q, h, e) = history_elim v well a there x k in subst (λ y. Memᴰ y (map (id_at v) points_of)) e (map_mem (id_at v) points_of q (points_intro q h)))
        (λ x k. let (q, h, e) = mem_map (id_at v) points_of x k in subst (λ y. Memᴰ y (history v a)) e (history_intro v well a there q (points_elim q h)))
      where
        there : (v.pt a).named ≡ true
        there = used_named s ks ls cs os fk fl t a used

    -- how many points it has
    pub history-count : length (history v a) ≡ length (those (high - low) (uncommitted_at cs os m low))
    unfolding uncommitted_at
    history-count = ap length history_is ∙ (length-map points_of (id_at v) ∙ picked-count os (is_uncommitted cs m) low (high - low))

    -- whether one has the height 0
    pub flat_is : any_uncertified v a ≡ any (high - low) (uncertified_at cs os m low)
    unfolding any_uncertified uncertified_at
    flat_is = same_test _ _ to from
      where
        to : any v.places (λ q. in_history v a q && eqb (height v q) 0) ≡ true → any (high - low) (uncertified_at cs os m low) ≡ true
        to h =
            let (q, l, k) = any_elim v.places (λ q. in_history v a q && eqb (height v q) 0) h in
            let (i, lo, hi, e, w) = in_elim q (and_l _ _ k) in
            let u : Used os n q = (i, omega (arith, hi, high_le), e) in
            let z : height_of (get_or cs q 0) ≡ 0 = used_height s ks ls cs os fk fl t q u ∙ eqb-true _ _ (and_r (in_history v a q) _ k) in
            any_intro (high - low) (uncertified_at cs os m low) (i - low) (omega arith)
            (subst (λ x. is_low cs m x ≡ true) (sym (ap (place_at os) (back i lo) ∙ e)) (both w (not_no (le-ltb 0 (height_of (get_or cs q 0)) (omega (arith, z))))))

        from : any (high - low) (uncertified_at cs os m low) ≡ true → any v.places (λ q. in_history v a q && eqb (height v q) 0) ≡ true
        from h =
            let (j, l, k) = any_elim (high - low) (uncertified_at cs os m low) h in
            let q : ℕ = place_at os (low + j) in
            let u : Used os n q = (low + j, omega (arith, l, high_le), refl) in
            let z : height_of (get_or cs q 0) ≤ 0 = ltb-false 0 _ (not-true _ (and_r (is_uncommitted cs m q) _ k)) in
            any_intro v.places (λ q. in_history v a q && eqb (height v q) 0) q
            (subst (λ x. q < x) (sym (places_is s ks ls cs os fk fl t.shaped)) (t.facts.inside (low + j) u.1))
            (both (in_intro (low + j) (omega arith) (omega arith) (and_l _ _ k)) (eq-eqb _ _ (sym (used_height s ks ls cs os fk fl t q u) ∙ omega (arith, z))))

    -- whether rounds are missing
    pub missing_is : rounds_missing v a ≡ missing s.full_history_bottom.0 (limit_of s.genesis.0 s.commit_history_rounds (round_at ks a)) s.bottom.0
    unfolding rounds_missing missing limit limit_of view conf_of progress_of
    missing_is = ap (λ r. missing s.full_history_bottom.0 (limit_of s.genesis.0 s.commit_history_rounds r) s.bottom.0) (used_round s ks ls cs os fk fl t a used)

-- Theorems on the definitions of specs/RefinesPoints.
use Rattle.std.specs.Prelude.{ℕ, zero, suc, ◌+◌, ◌<◌, ◌≤◌, ◌≡◌, refl, Bool, ◌&&◌, ◌||◌, cond, ◌⊎◌, eqb, get_or}
use Rattle.std.proofs.Math.Path.{sym, ap, subst}
use Rattle.std.proofs.Common.{◌∙◌, inl, inr, eq-eqb, ne_eqb, lt-ltb, le-ltb}
use mathlib.Core.List.{List, Memᴰ}
use Rattle.std.proofs.Math.Bool.{true, false, not}
use Rattle.std.proofs.Math.Logic.{⊎_elim}
use native.Mathlib.Omega.{arith}
use Rattle.std.proofs.Math.Dec.{ltb}
use Rattle.laws.specs.Test.{both, and_l, and_r, same_or, le_or}
use Rattle.laws.specs.Scan.{those, those_elim, those_intro}
use Rattle.laws.specs.Lists.{Pairs}
use Rattle.laws.specs.Sort.{sort, sort_mem, sort_rises}
use Rattle.spec.specs.Ids.{falls}
use Rattle.spec.specs.Store as store
use Rattle.spec.specs.Store.{Point, Store, id_at, resolved}
use Rattle.spec.specs.Paths.{height, certified, proved}
use Rattle.spec.specs.Chain.{number, Out, bad, good, checked_as, checked, is_committable}
use Rattle.spec.specs.History.{needed, faults}
use Rattle.spec.specs.Order.{falls-total, falls_trans}
use Rattle.spec.specs.Walk.{checked_at}
use Rattle.models.specs.Cert.{flags_of, height_of, has_proof}
use Rattle.models.specs.Digest.{Fit}
use Rattle.models.specs.Tables.{round_at, status_at, place_at, Used}
use Rattle.models.specs.DagPoint.{case_of}
use Rattle.models.specs.Refusal.{refusal_of, unless_failed, conflicting, not_valid, checked_as_not, by_check, failed_elim}
use Rattle.std.specs.Prelude.{is_err}
use Rattle.models.specs.declared.refusal.Refusal.{Refusal}
use Rattle.dag_round_keys.specs.Look.{look_as, look_place}
use Rattle.dag_round_keys.specs.Sorted.{rounds_rise}
use Rattle.commit_state.specs.View.{point_at, resolution_at}
use Rattle.commit_state.specs.declared.state.State.{State}
use Rattle.tables_test.specs.View.{view}
use Rattle.tables_test.specs.Edges.{resolved_is}
use Rattle.tables_test.specs.Whole.{places_is}
use Rattle.tables_test.specs.Refines.{Started}
use Rattle.dag_round_order.specs.Span.{below-le}
use Rattle.back_history.specs.Marks.{On}
use Rattle.back_history.specs.RefinesNeeded.{low_of, high_of, marks_of, used_point, used_round, used_height, low_high, needed_elim, needed_intro}
use Rattle.back_history.specs.Refines.{ids_rise}
use Rattle.back_committable.specs.Scan.{First, Earlier, first_is}
use Rattle.back_committable.specs.ModelPoints.{committable_of, fault_of, fault_at, faulty, faulty_at, round_of, first_fault, found_fault}
use Rattle.back_committable.specs.RefinesPoints.{all-good, first-bad, falls_elim}
use Rattle.std.specs.Prelude.{Err}
use Rattle.models.specs.Refusal.{no_refusal}

-- 01's verdict by the status and the certificate word
checked_by_lem : (st c r q : ℕ) → st ≤ 5
    → elim (ltb 0 st) as (λ b. Out ℕ) [ true ↦ checked_as (eqb st 1 || (eqb st 2 && not (has_proof c))) (ltb 0 (height_of c)) r q | false ↦ bad (number 14) ] ≡ unless_failed (fault_of (look_as (case_of st) q) c r) (good q)
unfolding checked_as unless_failed refusal_of case_of look_as fault_of committable_of has_proof not_valid
checked_by_lem zero c r q l = refl
checked_by_lem (suc zero) c r q l = refl
checked_by_lem (suc (suc zero)) c r q l = by (ltb 0 (height_of c)) (flags_of c).top
  where
    by : (g t : Bool) → checked_as (not (g && t)) g r q ≡ unless_failed (cond (g && t) (conflicting r) no_refusal) (good q)
    by true true = refl
    by true false = refl
    by false t = refl
checked_by_lem (suc (suc (suc zero))) c r q l = checked_as_not c r q
checked_by_lem (suc (suc (suc (suc zero)))) c r q l = checked_as_not c r q
checked_by_lem (suc (suc (suc (suc (suc zero))))) c r q l = checked_as_not c r q
checked_by_lem (suc (suc (suc (suc (suc (suc n)))))) c r q l = absurd (omega arith)

module _ (s : State) (ks ls cs os : List ℕ) (fk : Fit ks) (fl : Fit ls) (t : Started s ks ls cs os) where
  -- the store
  abbrev v : Store
  v = view s ks ls cs os

  -- the number of used places
  abbrev n : ℕ
  n = s.count

  -- its status
  status_is : (q : ℕ) → Used os n q → store.status_at v q ≡ status_at ks q
  unfolding point_at resolution_at
  status_is q u =
      ap (λ (p : Point). p.resolution.status) (used_point s ks ls cs os fk fl t q u)
      ∙ same_or (status_at ks q) 0 (λ e. rw (eq-eqb (status_at ks q) 0 e) (sym e)) (λ d. rw (ne_eqb (status_at ks q) 0 d) refl)

  -- what 01 says of a used place is what the code says
  checked_is : (q : ℕ) → Used os n q → checked v is_committable q ≡ unless_failed (fault_at ks cs q) (good q)
  unfolding is_committable certified proved point_at fault_at look_place has_proof
  checked_is q u =
      let resolution = status_is q u in
      let high : height v q ≡ height_of (get_or cs q 0) = sym (used_height s ks ls cs os fk fl t q u) in
      let top : (v.pt q).flags.top ≡ (flags_of (get_or cs q 0)).top = ap (λ (p : Point). p.flags.top) (used_point s ks ls cs os fk fl t q u) in
      let done : resolved (v.pt q) ≡ ltb 0 (status_at ks q) = ap resolved (used_point s ks ls cs os fk fl t q u) ∙ resolved_is ks ls cs q in
      let round = used_round s ks ls cs os fk fl t q u in
      checked_at v is_committable q
      ∙ ((λ i. elim (done i) as (λ b. Out ℕ) [ true ↦ checked_as (eqb (resolution i) 1 || (eqb (resolution i) 2 && not (ltb 0 (high i) && top i))) (ltb 0 (high i)) (round i) q | false ↦ bad (number 14) ])
      ∙ checked_by_lem (status_at ks q) (get_or cs q 0) (round_at ks q) q (t.facts.words q u).named.status)

  module _ (a : ℕ) (used : Used os n a) where
    -- the first position of the history
    abbrev low : ℕ
    low = low_of s ks os a

    -- the first position above it
    abbrev high : ℕ
    high = high_of s ks os a

    -- the marks
    abbrev m : List Bool
    m = marks_of s ks ls cs os a

    -- it is at most the number of used places
    high_le : high ≤ n
    high_le = below-le ks os n (round_at ks a + 1)

    -- the needed points in the order of the tests
    abbrev in_order : List ℕ
    in_order = sort (λ p q. falls (id_at v p) (id_at v q)) (those v.places (needed v a))

    -- each of them is marked and stands from low to high
    order_elim : (q : ℕ) → Memᴰ q in_order → On m q × ((i : ℕ) × (low ≤ i) × (i < high) × (place_at os i ≡ q))
    order_elim q k = needed_elim s ks ls cs os fk fl t a used q (those_elim v.places (needed v a) q ((sort_mem (λ p q. falls (id_at v p) (id_at v q)) q _).0 k)).1

    -- each place that is marked and stands there is one of them
    order_intro : (i : ℕ) → low ≤ i → i < high → On m (place_at os i) → Memᴰ (place_at os i) in_order
    order_intro i l h o =
        (sort_mem (λ p q. falls (id_at v p) (id_at v q)) (place_at os i) _).1 (those_intro v.places (needed v a) (place_at os i)
        (subst (λ x. place_at os i < x) (sym (places_is s ks ls cs os fk fl t.shaped)) (t.facts.inside i (omega (arith, h, high_le))))
        (needed_intro s ks ls cs os fk fl t a used i l h o))

    -- rounds fall, inside a round digests rise
    order_falls : Pairs (λ p q. falls (id_at v p) (id_at v q) ≡ true) in_order
    order_falls = sort_rises (λ p q. falls (id_at v p) (id_at v q)) (λ p q. falls-total (id_at v p) (id_at v q)) (λ p q r. falls_trans (id_at v p) (id_at v q) (id_at v r)) (those v.places (needed v a))

    -- the position that is found
    abbrev x : ℕ
    x = first_fault ks cs os m low high

    -- it is the first in the order of the tests
    found : First (faulty_at ks cs os m) (round_of ks os) low high x
    unfolding first_fault round_of
    found = first_is (faulty_at ks cs os m) (round_of ks os) high (λ i j l h. rounds_rise ks os n i j t.facts.sorted l (omega (arith, high_le))) low (low_high s ks ls cs os fk fl t a used)

    -- a marked point, by what it is refused with
    marked-faulty : (i q : ℕ) → place_at os i ≡ q → On m q → (r : Refusal) → fault_at ks cs q ≡ Err r → faulty_at ks cs os m i ≡ true
    unfolding faulty_at faulty
    marked-faulty i q e o r d = subst (λ y. faulty ks cs m y ≡ true) (sym e) (both o (ap is_err d))

    -- and back
    faulty_elim : (i : ℕ) → faulty_at ks cs os m i ≡ true → On m (place_at os i) × ((r : Refusal) × (fault_at ks cs (place_at os i) ≡ Err r))
    unfolding faulty_at faulty
    faulty_elim i h = (and_l _ _ h, failed_elim _ (and_r (get_or m (place_at os i) false) _ h))

    -- a position that is tested earlier is not after one that is tested later
    earlier_falls : (i j : ℕ) → i < n → j < n → Earlier (round_of ks os) i j → falls (id_at v (place_at os j)) (id_at v (place_at os i)) ≡ true → ⊥
    unfolding round_of
    earlier_falls i j l h e f =
        let ri = used_round s ks ls cs os fk fl t (place_at os i) (i, l, refl) in
        let rj = used_round s ks ls cs os fk fl t (place_at os j) (j, h, refl) in
        go ri rj e (falls_elim _ _ f)
      where
        go : store.round_at v (place_at os i) ≡ round_at ks (place_at os i) → store.round_at v (place_at os j) ≡ round_at ks (place_at os j)
            → (round_at ks (place_at os j) < round_at ks (place_at os i)) ⊎ ((round_at ks (place_at os i) ≡ round_at ks (place_at os j)) × (i < j))
            → ((id_at v (place_at os i)).round < (id_at v (place_at os j)).round) ⊎ (((id_at v (place_at os j)).round ≡ (id_at v (place_at os i)).round) × ((id_at v (place_at os j)).digest ≤ (id_at v (place_at os i)).digest)) → ⊥
        go ri rj (inl d) (inl g) = omega arith
        go ri rj (inl d) (inr g) = omega (arith, g.0)
        go ri rj (inr d) (inl g) = omega (arith, d.0)
        go ri rj (inr d) (inr g) = ⊎_elim (λ b. omega (arith, g.0)) (λ b. omega (arith, g.1, b.1)) (ids_rise s ks ls cs os fk fl t i j d.1 h)

    -- what the points of the history are refused with
    pub faults_is : faults v a ≡ unless_failed (found_fault ks cs os m low high) (good 0)
    unfolding faults found_fault unless_failed
    faults_is = le_or high x none some
      where
        none : high ≤ x → faults v a ≡ unless_failed (found_fault ks cs os m low high) (good 0)
        none l = rw (le-ltb x high l) (all-good v in_order (λ q k. let (o, (i, lo, hi, e)) = order_elim q k in
            checked_is q (i, omega (arith, hi, high_le), e) ∙ by_check (fault_at ks cs q) (λ z. rw z refl)
            (λ r d. absurd (omega (arith, l, (found.least i lo hi (marked-faulty i q e o r d)).0)))))

        some : x < high → faults v a ≡ unless_failed (found_fault ks cs os m low high) (good 0)
        some l =
            let (o, (r, d)) = faulty_elim x (found.passes l) in
            let p : ℕ = place_at os x in
            rw (lt-ltb x high l, d) (first-bad v (λ p q. falls (id_at v p) (id_at v q) ≡ true) p (bad (refusal_of r)) in_order order_falls
            (order_intro x found.above l o)
            (checked_is p (x, omega (arith, l, high_le), refl) ∙ rw d refl) (λ f. refl)
            (λ q k. let (w, (i, lo, hi, e)) = order_elim q k in
            by_check (fault_at ks cs q)
            (λ z. inl (checked_is q (i, omega (arith, hi, high_le), e) ∙ rw z refl))
            (λ y z. inr (⊎_elim (λ g. inl (sym e ∙ ap (place_at os) g)) (λ g. inr (λ h. earlier_falls x i (omega (arith, l, high_le)) (omega (arith, hi, high_le)) g (subst (λ y. falls (id_at v y) (id_at v p) ≡ true) (sym e) h)))
            (found.least i lo hi (marked-faulty i q e w y z)).1))))
